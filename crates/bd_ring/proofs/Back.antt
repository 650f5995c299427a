-- Numbers that were given back: they are given again before the rings grow.
use Rattle.std.proofs.Common.{◌≡◌, ℕ, zero, suc, ◌==◌, ◌+◌, ◌<◌, ◌&&◌, ◌||◌, not, nat_lt, Bool, true, false, cond, List, [], ◌∷◌, ◌++◌, length, Option, Some, None, is_none, refl, sym, ap, ◌∙◌, subst, arith}
use Rattle.std.proofs.{lemmas.Bool.Decides.{nat_tests}, lemmas.Bool.{eqb-true, eq-eqb}, lemmas.Grind.{common_steps}, lemmas.Option.{none-some}}
use Rattle.std.specs.Prelude.{IfNone}
use Rattle.std.proofs.Math.Logic.{∥∥₁_elim}
use mathlib.Core.Bool.{Bool-set}
use Rattle.bd_chains.specs.{Chain.{is_at, same_end, has, has_end, distinct}, Rows.{hits}}
use Rattle.bd_chains.proofs.Order.{last_in, prev_in}
use Rattle.bd_ring.specs.declared.nodes.Node.{Node}
use Rattle.bd_ring.specs.Rings.{Orders, nobody, node_at, is_used, ring_of, next_at, prev_at, spot, placed, Stands, AllUsed, is_free, Leads, AreSound, StaysOut}
use Rattle.bd_ring.proofs.Setting.{put}
use Rattle.bd_ring.proofs.Standing.{clash, at_self, used_there, at_there, ring_there, known, placed_nexts, placed_rings, lent, lent_used, apart_from, more_says, more_used, fresh, pushed}

-- of an answer, whatever it is
pub none_or : {P : Type 0} (o : Option ℕ) → P → IfNone o P
none_or None p = p
none_or (Some x) p = tt

-- ---- what is written where one comes or leaves

module _ (ns : List Node) (f : Orders) (l : ℕ) (h : Stands ns f) where
  -- who stands in no ring isn't there
  off_ring : (p : Option ℕ) (m k : ℕ) → (same_end None p || has_end p (f l)) ≡ true → ring_of ns k ≡ None → hits l p m (Some k) ≡ false
  off_ring None m k on out = refl
  off_ring (Some x) m k on out = by (x == k) refl
    where
      by : (b : Bool) → (x == k) ≡ b → b ≡ false
      by true is = clash (sym (h.on l x) ∙ on) (ap (λ n. is_at l (ring_of ns n)) (eqb-true x k is) ∙ ap (is_at l) out)
      by false far = refl

differ : (k x : ℕ) → (k ≡ x → ⊥) → (k == x) ≡ false
differ k x apart = by (k == x) refl
  where
    by : (b : Bool) → (k == x) ≡ b → b ≡ false
    by true is = absurd (apart (eqb-true k x is))
    by false far = refl

module _ (ns bs es us : List Node) (f : Orders) (x l : ℕ) (h : Stands ns f) where
  pub appended_idle : (last : Option ℕ) → last ≡ prev_at ns l None → is_used ns l ≡ true → x < length ns
      → ((j : ℕ) → node_at bs j ≡ cond (nat_lt x (length ns) && (x == j)) (placed (Some l) last None (node_at ns x)) (node_at ns j)) → length bs ≡ length ns
      → (spot l last < length bs → (m : ℕ) (o : Option ℕ) → next_at es m o ≡ cond (hits l last m o) (Some x) (next_at bs m o))
      → ((k : ℕ) → ring_of es k ≡ ring_of bs k)
      → ((m : ℕ) (o : Option ℕ) → next_at us m o ≡ next_at es m o) → ((k : ℕ) → ring_of us k ≡ ring_of es k)
      → (k : ℕ) → (k ≡ x → ⊥) → ring_of ns k ≡ None → StaysOut ns us k
  appended_idle last is used_l lt writes alen enexts erings unexts urings k apart out = (
    unexts k (Some k) ∙ enexts in_bs k (Some k) ∙ unhit ∙ placed_nexts ns bs x (Some l) last None lt writes k (Some k) ∙ unplaced,
    urings k ∙ erings k ∙ placed_rings ns bs x (Some l) last None lt writes k ∙ unput ∙ out,
  )
    where
      last_on : (same_end None last || has_end last (f l)) ≡ true
      last_on = subst (λ p. (same_end None p || has_end p (f l)) ≡ true) (sym is) (last_in (next_at ns l) (prev_at ns l) None (f l) (h.linked l))

      unhit : cond (hits l last k (Some k)) (Some x) (next_at bs k (Some k)) ≡ next_at bs k (Some k)
      unhit = rw (off_ring ns f l h last k k last_on out) refl

      unplaced : cond (k == x) None (next_at ns k (Some k)) ≡ next_at ns k (Some k)
      unplaced = rw (differ k x apart) refl

      unput : cond (x == k) (Some l) (ring_of ns k) ≡ ring_of ns k
      unput = rw (differ x k (λ e. apart (sym e))) refl

      in_bs : spot l last < length bs
      in_bs = let here : spot l last < length ns = known ns us f h x l last (used_there ns l used_l) last_on in omega (arith, here, alen)

  pub detached_idle : (node : Node) → node ≡ node_at ns x → node.ring ≡ Some l
      → ((j : ℕ) → node_at bs j ≡ cond (nat_lt x (length ns) && (x == j)) (placed None None None (node_at ns x)) (node_at ns j)) → length bs ≡ length ns
      → (spot l node.prev < length bs → (m : ℕ) (o : Option ℕ) → next_at es m o ≡ cond (hits l node.prev m o) node.next (next_at bs m o))
      → ((k : ℕ) → ring_of es k ≡ ring_of bs k)
      → ((m : ℕ) (o : Option ℕ) → next_at us m o ≡ next_at es m o) → ((k : ℕ) → ring_of us k ≡ ring_of es k)
      → (k : ℕ) → ring_of ns k ≡ None → StaysOut ns us k
  detached_idle node is on writes alen enexts erings unexts urings k out = (
    unexts k (Some k) ∙ enexts in_bs k (Some k) ∙ unhit ∙ placed_nexts ns bs x None None None lt writes k (Some k) ∙ unplaced,
    urings k ∙ erings k ∙ placed_rings ns bs x None None None lt writes k ∙ unput ∙ out,
  )
    where
      ring_is : ring_of ns x ≡ Some l
      ring_is = sym (ap (λ (n : Node). n.ring) is) ∙ on

      apart : k ≡ x → ⊥
      apart e = none-some l (sym out ∙ ap (ring_of ns) e ∙ ring_is)

      lt : x < length ns
      lt = at_there ns l x (at_self l (ring_of ns x) ring_is)

      prev_on : (same_end None node.prev || has_end node.prev (f l)) ≡ true
      prev_on = subst (λ (n : Node). (same_end None n.prev || has_end n.prev (f l)) ≡ true) (sym is)
          (prev_in (next_at ns l) (prev_at ns l) x None (f l) (h.linked l) (h.on l x ∙ at_self l (ring_of ns x) ring_is))

      unhit : cond (hits l node.prev k (Some k)) node.next (next_at bs k (Some k)) ≡ next_at bs k (Some k)
      unhit = rw (off_ring ns f l h node.prev k k prev_on out) refl

      unplaced : cond (k == x) None (next_at ns k (Some k)) ≡ next_at ns k (Some k)
      unplaced = rw (differ k x apart) refl

      unput : cond (x == k) None (ring_of ns k) ≡ ring_of ns k
      unput = rw (differ x k (λ e. apart (sym e))) refl

      in_bs : spot l node.prev < length bs
      in_bs = let here : spot l node.prev < length ns = known ns us f h x l node.prev (ring_there ns f h l x ring_is) prev_on in omega (arith, here, alen)

-- ---- the numbers that nobody has

leads_same : (ns us : List Node) (at : Option ℕ) (xs : List ℕ) → Leads ns at xs → ((k : ℕ) → has k xs ≡ true → next_at us k (Some k) ≡ next_at ns k (Some k)) → Leads us at xs
leads_same ns us at [] h same = h
leads_same ns us at (x ∷ xs) h same = (
  h.0,
  subst (λ o. Leads us o xs) (sym (same x (grind arith))) (leads_same ns us (next_at ns x (Some x)) xs h.1 (λ k on. same k (grind (arith, on)))),
)

free_says : (lt used : Bool) → (lt && not used) ≡ true → used ≡ false
free_says true true e = absurd cc
free_says false true e = absurd cc
free_says true false e = refl
free_says false false e = refl

is_free_so : (ns : List Node) (k : ℕ) → is_free ns k ≡ true → is_used ns k ≡ false
is_free_so ns k e = free_says (nat_lt k (length ns)) (is_used ns k) e

free_same : (ns us : List Node) → length us ≡ length ns → (k : ℕ) → is_used us k ≡ is_used ns k → is_free ns k ≡ is_free us k
free_same ns us len k used = ap (λ u. nat_lt k (length ns) && not u) (sym used) ∙ ap (λ n. nat_lt k n && not (is_used us k)) (sym len)

-- whom nobody had is as it was
pub kept_sound : (ns us : List Node) (free : Option ℕ) (g : Orders) → AreSound ns free → Stands us g → length us ≡ length ns → ((k : ℕ) → is_used us k ≡ is_used ns k)
    → ((k : ℕ) → is_used ns k ≡ false → StaysOut ns us k) → AreSound us free
kept_sound ns us free g s stands len used idle = record {
  orders = g;
  stands = stands;
  back = s.back;
  leads = leads_same ns us free s.back s.leads (λ k on. (idle k (is_free_so ns k (sym (s.all k) ∙ on))).0);
  once = s.once;
  all = λ k. s.all k ∙ free_same ns us len k (used k);
  nowhere = λ k e. (idle k (sym (used k) ∙ e)).1;
}

some_is : {a b : ℕ} → Some a ≡ Some b → a ≡ b
some_is e = cc

-- the last of them
last_free : (ns : List Node) (x : ℕ) → AreSound ns (Some x) → is_free ns x ≡ true
last_free ns x s = sym (s.all x) ∙ on s.back s.leads
  where
    on : (back : List ℕ) → Leads ns (Some x) back → has x back ≡ true
    on [] h = absurd (none-some x (sym h))
    on (y ∷ ys) h = let same : x ≡ y = some_is h.0 in let is : (y == x) ≡ true = eq-eqb y x (sym same) in rw is refl

free_there : (ns : List Node) (x : ℕ) → is_free ns x ≡ true → x < length ns
free_there ns x e = by (nat_lt x (length ns)) refl (is_used ns x) e
  where
    by : (b : Bool) → nat_lt x (length ns) ≡ b → (u : Bool) → (b && not u) ≡ true → x < length ns
    by true lt u e = grind (arith, nat_tests, common_steps, lt)
    by false lt u e = absurd cc

module _ (ns : List Node) (free : Option ℕ) (x : ℕ) (sound : ∥ AreSound ns free ∥₁) (is : free ≡ Some x) where
  is_back : is_free ns x ≡ true
  is_back = ∥∥₁_elim sound (Bool-set _ _) (λ s. last_free ns x (subst (AreSound ns) is s))

  pub back_there : x < length ns
  back_there = free_there ns x is_back

  pub back_nobodys : is_used ns x ≡ false
  back_nobodys = is_free_so ns x is_back

  pub back_nowhere : ring_of ns x ≡ None
  back_nowhere = none_of (ring_of ns x) (∥∥₁_elim sound (Bool-set _ _) (λ s. ap is_none (s.nowhere x back_nobodys)))
    where
      none_of : (o : Option ℕ) → is_none o ≡ true → o ≡ None
      none_of None e = refl
      none_of (Some y) e = absurd cc

-- where none is left each is somebody's
none_back : (ns : List Node) (back : List ℕ) → Leads ns None back → back ≡ []
none_back ns [] h = refl
none_back ns (y ∷ ys) h = absurd (none-some y h.0)

free_used : (ns : List Node) → ((k : ℕ) → is_free ns k ≡ false) → AllUsed ns
free_used ns none k lt = by (nat_lt k (length ns)) (is_used ns k) (grind (arith, nat_tests, common_steps, lt)) (none k)
  where
    by : (b u : Bool) → b ≡ true → (b && not u) ≡ false → u ≡ true
    by true true there e = refl
    by true false there e = absurd cc
    by false u there e = absurd cc

no_free : (ns : List Node) → AreSound ns None → (k : ℕ) → is_free ns k ≡ false
no_free ns s k = sym (s.all k) ∙ ap (has k) (none_back ns s.back s.leads)

pub all_used : (ns : List Node) (free : Option ℕ) → ∥ AreSound ns free ∥₁ → free ≡ None → AllUsed ns
all_used ns free sound is k lt = ∥∥₁_elim sound (Bool-set _ _) (λ s. free_used ns (no_free ns (subst (AreSound ns) is s)) k lt)

-- there are none at first
none_stands : Stands [] nobody
none_stands = record { linked = λ l. (refl, refl); apart = λ l. refl; on = λ l x. refl; empty = λ l e. refl }

pub none_sound : AreSound [] None
none_sound = record {
  orders = nobody;
  stands = none_stands;
  back = [];
  leads = refl;
  once = refl;
  all = λ k. grind (arith, nat_tests, common_steps);
  nowhere = λ k e. refl;
}

-- one more number, which is somebody's
grown_by : (ns : List Node) → AreSound ns None → AreSound (ns ++ fresh ∷ []) None
grown_by ns s = record {
  orders = s.orders;
  stands = pushed ns s.orders s.stands;
  back = [];
  leads = refl;
  once = refl;
  all = λ k. sym (none_more ns k (no_free ns s k));
  nowhere = λ k e. more_says fresh (λ (q : Node). q.ring) refl ns k ∙ s.nowhere k (more_used fresh ns k e);
}
  where
    none_more : (xs : List Node) (k : ℕ) → is_free xs k ≡ false → is_free (xs ++ fresh ∷ []) k ≡ false
    none_more [] zero e = grind (arith, nat_tests, common_steps)
    none_more [] (suc k) e = grind (arith, nat_tests, common_steps)
    none_more (n ∷ xs) zero e = grind (arith, nat_tests, common_steps, e)
    none_more (n ∷ xs) (suc k) e =
        let rest = none_more xs k (grind (arith, nat_tests, common_steps, e)) in grind (arith, nat_tests, common_steps, rest)

pub grown_sound : (ns us : List Node) (free : Option ℕ) (b : Bool) → us ≡ cond b (ns ++ fresh ∷ []) ns → free ≡ None → AreSound ns free → AreSound us free
grown_sound ns us free true more is s = subst (λ n. AreSound n free) (sym more) (subst (AreSound (ns ++ fresh ∷ [])) (sym is) (grown_by ns (subst (AreSound ns) is s)))
grown_sound ns us free false same is s = subst (λ n. AreSound n free) (sym same) s

pub longer : (ns us : List Node) (n : Node) → us ≡ ns ++ n ∷ [] → length us ≡ length ns + 1
longer ns us n more = ap length more ∙ by ns
  where
    by : (xs : List Node) → length (xs ++ n ∷ []) ≡ length xs + 1
    by [] = refl
    by (x ∷ xs) = let rest = by xs in omega (arith, rest)

-- ---- the node of one whom nobody has is written

module _ (ns us : List Node) (x : ℕ) (u : Bool) (p n : Option ℕ) (lt : x < length ns) (out : ring_of ns x ≡ None) (len : length us ≡ length ns)
    (writes : (j : ℕ) → node_at us j ≡ cond (nat_lt x (length ns) && (x == j)) (lent u p n (node_at ns x)) (node_at ns j)) where
  next_there : next_at us x (Some x) ≡ n
  next_there = let is : (x == x) ≡ true = eq-eqb x x refl in put ns us x (lent u p n (node_at ns x)) writes (λ (q : Node). q.next) lt x ∙ rw is refl

  elsewhere : (k : ℕ) → (x == k) ≡ false → node_at us k ≡ node_at ns k
  elsewhere k far = apart_from ns us x u p n writes k far

  -- what it says of who uses them
  free_so : (k : ℕ) → is_free us k ≡ cond (x == k) (not u) (is_free ns k)
  free_so k =
      ap (λ m. nat_lt k m && not (is_used us k)) len
      ∙ ap (λ w. nat_lt k (length ns) && not w) (lent_used ns us x u p n writes lt k)
      ∙ by (x == k) refl
    where
      by : (b : Bool) → (x == k) ≡ b → (nat_lt k (length ns) && not (cond b u (is_used ns k))) ≡ cond b (not u) (is_free ns k)
      by true is =
          let yes : nat_lt x (length ns) ≡ true = grind (arith, nat_tests, common_steps, lt) in
          let here : nat_lt k (length ns) ≡ true = ap (λ j. nat_lt j (length ns)) (sym (eqb-true x k is)) ∙ yes in
          rw here refl
      by false far = refl

  nowhere_so : ((k : ℕ) → is_used ns k ≡ false → ring_of ns k ≡ None) → (k : ℕ) → is_used us k ≡ false → ring_of us k ≡ None
  nowhere_so was k e = by (x == k) refl
    where
      by : (b : Bool) → (x == k) ≡ b → ring_of us k ≡ None
      by true is = ap (ring_of us) (sym (eqb-true x k is)) ∙ put ns us x (lent u p n (node_at ns x)) writes (λ (q : Node). q.ring) lt x ∙ same (x == x)
        where
          same : (b : Bool) → cond b (ring_of ns x) (ring_of ns x) ≡ None
          same true = out
          same false = out
      by false far = ap (λ (q : Node). q.ring) (elsewhere k far) ∙ was k (sym (ap (λ (q : Node). q.used) (elsewhere k far)) ∙ e)

-- it is somebody's again
again_by : (ns us : List Node) (x : ℕ) → AreSound ns (Some x) → ((f : Orders) → Stands ns f → Stands us f) → length us ≡ length ns
    → ((j : ℕ) → node_at us j ≡ cond (nat_lt x (length ns) && (x == j)) (lent true None None (node_at ns x)) (node_at ns j)) → AreSound us (next_at ns x (Some x))
again_by ns us x s stands len writes = by s.back s.leads s.once s.all
  where
    lt : x < length ns
    lt = free_there ns x (last_free ns x s)

    out : ring_of ns x ≡ None
    out = s.nowhere x (is_free_so ns x (last_free ns x s))

    by : (back : List ℕ) → Leads ns (Some x) back → distinct back ≡ true → ((k : ℕ) → has k back ≡ is_free ns k) → AreSound us (next_at ns x (Some x))
    by [] h once all = absurd (none-some x (sym h))
    by (y ∷ ys) h once all =
        let same : x ≡ y = some_is h.0 in
        let leads : Leads ns (next_at ns x (Some x)) ys = subst (λ z. Leads ns (next_at ns z (Some z)) ys) (sym same) h.1 in
        let off : has x ys ≡ false = grind (arith, same, once) in record {
          orders = s.orders;
          stands = stands s.orders s.stands;
          back = ys;
          leads = leads_same ns us (next_at ns x (Some x)) ys leads (λ k on. ap (λ (q : Node). q.next) (elsewhere ns us x true None None lt out len writes k (other ys k off on)));
          once = grind (arith, once);
          all = λ k. rest y ys k same off (all k) ∙ sym (free_so ns us x true None None lt out len writes k);
          nowhere = nowhere_so ns us x true None None lt out len writes s.nowhere;
        }
      where
        other : (ys : List ℕ) (k : ℕ) → has x ys ≡ false → has k ys ≡ true → (x == k) ≡ false
        other ys k off on = by_it (x == k) refl
          where
            by_it : (b : Bool) → (x == k) ≡ b → b ≡ false
            by_it true is = clash (ap (λ z. has z ys) (eqb-true x k is) ∙ on) off
            by_it false far = refl

        rest : (y : ℕ) (ys : List ℕ) (k : ℕ) → x ≡ y → has x ys ≡ false → ((y == k) || has k ys) ≡ is_free ns k → has k ys ≡ cond (x == k) false (is_free ns k)
        rest y ys k same off all = by_it (x == k) refl
          where
            by_it : (b : Bool) → (x == k) ≡ b → has k ys ≡ cond b false (is_free ns k)
            by_it true is = ap (λ z. has z ys) (sym (eqb-true x k is)) ∙ off
            by_it false far = let no : (y == k) ≡ false = ap (λ z. z == k) (sym same) ∙ far in rw no at all

pub again_sound : (ns us : List Node) (free : Option ℕ) (x : ℕ) (node : Node) → free ≡ Some x → node ≡ node_at ns x → ((f : Orders) → Stands ns f → Stands us f) → length us ≡ length ns
    → ((j : ℕ) → node_at us j ≡ cond (nat_lt x (length ns) && (x == j)) (lent true None None (node_at ns x)) (node_at ns j)) → AreSound ns free → AreSound us node.next
again_sound ns us free x node is same stands len writes s =
    subst (λ (n : Node). AreSound us n.next) (sym same) (again_by ns us x (subst (AreSound ns) is s) stands len writes)

-- it is nobody's any more
pub back_sound : (ns us : List Node) (x : ℕ) (p free : Option ℕ) (g : Orders) → AreSound ns free → is_used ns x ≡ true → ring_of ns x ≡ None → Stands us g → length us ≡ length ns
    → ((j : ℕ) → node_at us j ≡ cond (nat_lt x (length ns) && (x == j)) (lent false p free (node_at ns x)) (node_at ns j)) → AreSound us (Some x)
back_sound ns us x p free g s used out stands len writes = record {
  orders = g;
  stands = stands;
  back = x ∷ s.back;
  leads = (
    refl,
    subst (λ o. Leads us o s.back) (sym (next_there ns us x false p free lt out len writes))
        (leads_same ns us free s.back s.leads (λ k on. ap (λ (q : Node). q.next) (elsewhere ns us x false p free lt out len writes k (other k on)))),
  );
  once = let off = not_back in grind (arith, off, s.once);
  all = λ k. all_so k (x == k) refl ∙ sym (free_so ns us x false p free lt out len writes k);
  nowhere = nowhere_so ns us x false p free lt out len writes s.nowhere;
}
  where
    lt : x < length ns
    lt = used_there ns x used

    not_back : has x s.back ≡ false
    not_back = s.all x ∙ rw used (by (nat_lt x (length ns)))
      where
        by : (b : Bool) → (b && false) ≡ false
        by true = refl
        by false = refl

    other : (k : ℕ) → has k s.back ≡ true → (x == k) ≡ false
    other k on = by (x == k) refl
      where
        by : (b : Bool) → (x == k) ≡ b → b ≡ false
        by true is = clash (ap (λ z. has z s.back) (eqb-true x k is) ∙ on) not_back
        by false far = refl

    all_so : (k : ℕ) (b : Bool) → (x == k) ≡ b → (b || has k s.back) ≡ cond b true (is_free ns k)
    all_so k true is = refl
    all_so k false far = s.all k
