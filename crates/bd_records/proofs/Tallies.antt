-- Each counter, when a reference came or went.
use Rattle.bd_records.proofs.Words.{Asked, Bool, BuffersAre, Carried, Count, CountsAre, Handshake, Holder, Identity, IsHomed, List, Manager, None, Object, ObjectRow, Option, OwnedAre, Records, RecordsAre, Reference, Some, Target, [], and-false, and-true, ap, arith, asked_of, beq, carried_of, cond}
use Rattle.bd_records.proofs.Words.{count_by, count_by-le-length, false, find, gives_name_to, is_asked, is_asked_by, is_asking, is_carried, is_carried_to, is_carrying, is_handshake, is_managers, is_managing, is_owner, is_shaking, is_some, is_to, length, managed_of, name_at, name_turned, no_count}
use Rattle.bd_records.proofs.Words.{of_strength, option_map, owed_of, owned_in, refl, row_at, same, same_eq, subst, sum_by-cons, sum_by_push, sym, total_of, true, turned, turned_count, turned_if, without_first, ℕ, ◌&&◌, ◌++◌, ◌+◌, ◌-◌, ◌<◌, ◌∙◌, ◌∷◌, ◌≡◌, ◌≤◌}

-- ---- one counter

-- with so many more, or fewer
abbrev pub after : Bool → ℕ → ℕ → ℕ
after true n k = n + k
after false n k = n - k

none_after : (more k : Bool) (n : ℕ) → k ≡ false → after more n (cond k 1 0) ≡ n
none_after true k n e = grind (arith, e)
none_after false k n e = grind (arith, e)

pub none_of_either : (s : Bool) → of_strength s no_count ≡ 0
none_of_either true = refl
none_of_either false = refl

turned_strength : (more s b : Bool) (c : Count) (n : ℕ) → of_strength s c ≡ n → (more ≡ true → n < 18446744073709551615) → of_strength s (turned_count more b c) ≡ after more n (cond (beq b s) 1 0)
turned_strength true true true c n e few = grind (arith, e, few refl)
turned_strength true true false c n e few = grind (arith, e)
turned_strength true false true c n e few = grind (arith, e)
turned_strength true false false c n e few = grind (arith, e, few refl)
turned_strength false true true c n e few = grind (arith, e)
turned_strength false true false c n e few = grind (arith, e)
turned_strength false false true c n e few = grind (arith, e)
turned_strength false false false c n e few = grind (arith, e)

turned_few : (more s b : Bool) (c : Count) (n : ℕ) → of_strength s c ≤ n → of_strength s (turned_count more b c) ≤ after more n (cond (beq b s) 1 0)
turned_few true true true c n e = grind (arith, e)
turned_few true true false c n e = grind (arith, e)
turned_few true false true c n e = grind (arith, e)
turned_few true false false c n e = grind (arith, e)
turned_few false true true c n e = grind (arith, e)
turned_few false true false c n e = grind (arith, e)
turned_few false false true c n e = grind (arith, e)
turned_few false false false c n e = grind (arith, e)

-- d: the record is the reference's; t: the counter is one that it belongs to
module _ {W : Type 0} (f : Option W → Count) (up : W → W) (more b t : Bool) (up_is : (v : W) → f (Some (up v)) ≡ turned_if t more b (f (Some v))) (none : f None ≡ no_count) (s : Bool) (n : ℕ) where
  off : (t : Bool) → ((beq b s && false) && t) ≡ false
  off t = ap (λ k. k && t) (and-false (beq b s))

  on_both : ((beq b s && true) && true) ≡ beq b s
  on_both = and-true (beq b s && true) ∙ and-true (beq b s)

  counted : (d : Bool) (w : Option W) → (more ≡ true → n < 18446744073709551615) → (more ≡ true → (d && t) ≡ true → is_some w ≡ true) → of_strength s (f w) ≡ n
      → of_strength s (f (cond d (option_map up w) w)) ≡ after more n (cond ((beq b s && d) && t) 1 0)
  counted false w few there e = e ∙ sym (none_after more _ n (off t))
  counted true (Some v) few there e = at t (up_is v)
    where
      at : (u : Bool) → f (Some (up v)) ≡ turned_if u more b (f (Some v)) → of_strength s (f (Some (up v))) ≡ after more n (cond ((beq b s && true) && u) 1 0)
      at true is = ap (of_strength s) is ∙ turned_strength more s b (f (Some v)) n e few ∙ ap (λ k. after more n (cond k 1 0)) (sym on_both)
      at false is = ap (of_strength s) is ∙ e ∙ sym (none_after more _ n (and-false (beq b s && true)))
  counted true None few there e = at more t there
    where
      at : (m u : Bool) → (m ≡ true → u ≡ true → false ≡ true) → of_strength s (f None) ≡ after m n (cond ((beq b s && true) && u) 1 0)
      at true true here = absurd (let h = here refl refl in cc)
      at true false here = e ∙ sym (none_after true _ n (and-false (beq b s && true)))
      at false u here = let z = ap (of_strength s) none ∙ none_of_either s in omega (arith, e, z)

  counted_few : (d : Bool) (w : Option W) → of_strength s (f w) ≤ n → of_strength s (f (cond d (option_map up w) w)) ≤ after more n (cond ((beq b s && d) && t) 1 0)
  counted_few false w e = subst (λ k. of_strength s (f w) ≤ k) (sym (none_after more _ n (off t))) e
  counted_few true (Some v) e = at t (up_is v)
    where
      at : (u : Bool) → f (Some (up v)) ≡ turned_if u more b (f (Some v)) → of_strength s (f (Some (up v))) ≤ after more n (cond ((beq b s && true) && u) 1 0)
      at true is = subst (λ c. of_strength s c ≤ after more n (cond ((beq b s && true) && true) 1 0)) (sym is) (subst (λ k. of_strength s (turned_count more b (f (Some v))) ≤ after more n (cond k 1 0)) (sym on_both) (turned_few more s b (f (Some v)) n e))
      at false is = subst (λ c. of_strength s c ≤ after more n (cond ((beq b s && true) && false) 1 0)) (sym is) (subst (λ k. of_strength s (f (Some v)) ≤ k) (sym (none_after more _ n (and-false (beq b s && true)))) e)
  counted_few true None e = subst (λ c. of_strength s c ≤ after more n (cond ((beq b s && true) && t) 1 0)) (sym none) (subst (λ k. k ≤ after more n (cond ((beq b s && true) && t) 1 0)) (sym (none_of_either s)) (omega arith))

-- a counter of a record that may go, where none counts for it
module _ {W : Type 0} (f : Option W → Count) (none : f None ≡ no_count) (b : Bool) (w v : Option W) (is : v ≡ cond b None w) (s : Bool) (n : ℕ) where
  pub without : (b ≡ true → n ≡ 0) → of_strength s (f w) ≡ n → of_strength s (f v) ≡ n
  without gone e = ap (λ x. of_strength s (f x)) is ∙ at b refl
    where
      at : (c : Bool) → b ≡ c → of_strength s (f (cond c None w)) ≡ n
      at true k = ap (of_strength s) none ∙ none_of_either s ∙ sym (gone k)
      at false k = e

  pub without_few : of_strength s (f w) ≤ n → of_strength s (f v) ≤ n
  without_few e = subst (λ x. of_strength s (f x) ≤ n) (sym is) (at b)
    where
      at : (c : Bool) → of_strength s (f (cond c None w)) ≤ n
      at true = subst (λ k. k ≤ n) (sym (ap (of_strength s) none ∙ none_of_either s)) (omega arith)
      at false = e

-- ---- which counters

asked_hit : (p : ℕ) (a b : Bool) (h : Holder) → ((a && (gives_name_to p h && b)) && is_asked h) ≡ ((a && b) && is_asked_by p h)
asked_hit p a b (Asked q) = grind arith
asked_hit p a b (Carried c q) = grind arith
asked_hit p a b (Target c q) = grind arith
asked_hit p a b Handshake = grind arith
asked_hit p a b Manager = grind arith

carried_hit : (p : ℕ) (a b : Bool) (h : Holder) → ((a && (gives_name_to p h && b)) && is_carried h) ≡ ((a && b) && is_carried_to p h)
carried_hit p a b (Asked q) = grind arith
carried_hit p a b (Carried c q) = grind arith
carried_hit p a b (Target c q) = grind arith
carried_hit p a b Handshake = grind arith
carried_hit p a b Manager = grind arith

-- ---- the relation

abbrev pub Test : Type 0
Test = Identity → Bool → Holder → Bool

abbrev pub on : Test → Reference → Bool
on g x = g x.object x.strong x.holder

-- what a change of the object's record leaves of all
pub row_kept : {A : Type 0} (f : Option ObjectRow → A) (up : ObjectRow → ObjectRow) → ((v : ObjectRow) → f (Some (up v)) ≡ f (Some v)) → (o : Identity) (O O' : Identity → Option ObjectRow)
    → ((y : Identity) → O' y ≡ cond (same o y) (option_map up (O y)) (O y)) → (y : Identity) → f (O' y) ≡ f (O y)
row_kept f up alike o O O' rows y = ap f (rows y) ∙ at (same o y) (O y)
  where
    at : (b : Bool) (w : Option ObjectRow) → f (cond b (option_map up w) w) ≡ f w
    at true None = refl
    at true (Some v) = alike v
    at false w = refl

module _ (more : Bool) (t u : Records) (objects : List Object) (l m : List Reference) (r : Reference) (h : RecordsAre t objects l)
    (homed : more ≡ true → (length l < 18446744073709551615) × IsHomed t objects r)
    (comes : (g : Test) → count_by (on g) m ≡ after more (count_by (on g) l) (cond (on g r) 1 0))
    (os : (o : Identity) → row_at u.objects o ≡ cond (same r.object o) (option_map (turned more r) (row_at t.objects o)) (row_at t.objects o))
    (ns : (p : ℕ) (o : Identity) → name_at u.names p o ≡ cond (gives_name_to p r.holder && same r.object o) (option_map (name_turned more r) (name_at t.names p o)) (name_at t.names p o)) where
  short : (f : Reference → Bool) → more ≡ true → count_by f l < 18446744073709551615
  short f e = let a = count_by-le-length f l in let few = (homed e).0 in omega (arith, a, few)

  there : (o : Identity) → more ≡ true → same r.object o ≡ true → is_some (row_at t.objects o) ≡ true
  there o e k = subst (λ x. is_some (row_at t.objects x) ≡ true) (same_eq r.object o k) (homed e).1.here

  -- its name, where another owns the object
  called : (p : ℕ) (o : Identity) → owned_in objects p o ≡ false → more ≡ true → (gives_name_to p r.holder && same r.object o) ≡ true → is_some (name_at t.names p o) ≡ true
  called p o free e k =
      let is : r.object ≡ o = same_eq r.object o (grind (arith, k)) in
      subst (λ x. is_some (name_at t.names p x) ≡ true) is ((homed e).1.named p (grind (arith, k)) (subst (λ x. owned_in objects p x ≡ false) (sym is) free))

  none_more : (p : ℕ) (o : Identity) (s : Bool) → owned_in objects p o ≡ true → (k d : Bool) → more ≡ k → (beq r.strong s && same r.object o && is_asked_by p r.holder) ≡ d → after k (count_by (is_asking p o s) l) (cond d 1 0) ≡ 0
  none_more p o s own false d e f = let z = h.counts.unasked p o s own in omega (arith, z)
  none_more p o s own true false e f = let z = h.counts.unasked p o s own in omega (arith, z)
  none_more p o s own true true e f =
      let free = subst (λ x. owned_in objects p x ≡ false) (same_eq r.object o (grind (arith, f))) ((homed e).1.others p (grind (arith, f))) in
      absurd (let k = sym own ∙ free in cc)

  counts_turned : CountsAre (row_at u.objects) (name_at u.names) objects m
  counts_turned = record {
    totals = λ o s. ap (λ w. of_strength s (total_of w)) (os o) ∙ counted total_of (turned more r) more r.strong true (λ v. refl) refl s _ (same r.object o) (row_at t.objects o) (short (is_to o s)) (λ e k. there o e (grind (arith, k))) (h.counts.totals o s)
        ∙ ap (λ k. after more (count_by (is_to o s) l) (cond k 1 0)) (and-true (beq r.strong s && same r.object o)) ∙ sym (comes (λ x t k. beq t s && same x o));
    owed = λ o s. ap (λ w. of_strength s (owed_of w)) (os o) ∙ counted owed_of (turned more r) more r.strong (is_handshake r.holder) (λ v. refl) refl s _ (same r.object o) (row_at t.objects o) (short (is_shaking o s)) (λ e k. there o e (grind (arith, k))) (h.counts.owed o s)
        ∙ sym (comes (λ x t k. beq t s && same x o && is_handshake k));
    managed = λ o s. ap (λ w. of_strength s (managed_of w)) (os o) ∙ counted managed_of (turned more r) more r.strong (is_managers r.holder) (λ v. refl) refl s _ (same r.object o) (row_at t.objects o) (short (is_managing o s)) (λ e k. there o e (grind (arith, k))) (h.counts.managed o s)
        ∙ sym (comes (λ x t k. beq t s && same x o && is_managers k));
    asked = λ p o s. ap (λ w. of_strength s (asked_of w)) (ns p o) ∙ counted asked_of (name_turned more r) more r.strong (is_asked r.holder) (λ v. refl) refl s _ (gives_name_to p r.holder && same r.object o) (name_at t.names p o) (short (is_asking p o s)) (asked_called p o) (h.counts.asked p o s)
        ∙ ap (λ k. after more (count_by (is_asking p o s) l) (cond k 1 0)) (asked_hit p (beq r.strong s) (same r.object o) r.holder) ∙ sym (comes (λ x t k. beq t s && same x o && is_asked_by p k));
    carried = λ p o s free. ap (λ w. of_strength s (carried_of w)) (ns p o) ∙ counted carried_of (name_turned more r) more r.strong (is_carried r.holder) (λ v. refl) refl s _ (gives_name_to p r.holder && same r.object o) (name_at t.names p o) (short (is_carrying p o s)) (λ e k. called p o free e (grind (arith, k))) (h.counts.carried p o s free)
        ∙ ap (λ k. after more (count_by (is_carrying p o s) l) (cond k 1 0)) (carried_hit p (beq r.strong s) (same r.object o) r.holder) ∙ sym (comes (λ x t k. beq t s && same x o && is_carried_to p k));
    unasked = λ p o s own. comes (λ x t k. beq t s && same x o && is_asked_by p k) ∙ none_more p o s own more _ refl refl;
    carried_few = λ p o s. subst (λ k. of_strength s (carried_of (name_at u.names p o)) ≤ k) (ap (λ k. after more (count_by (is_carrying p o s) l) (cond k 1 0)) (carried_hit p (beq r.strong s) (same r.object o) r.holder) ∙ sym (comes (λ x t k. beq t s && same x o && is_carried_to p k)))
        (subst (λ w. of_strength s (carried_of w) ≤ after more (count_by (is_carrying p o s) l) (cond ((beq r.strong s && (gives_name_to p r.holder && same r.object o)) && is_carried r.holder) 1 0)) (sym (ns p o))
        (counted_few carried_of (name_turned more r) more r.strong (is_carried r.holder) (λ v. refl) refl s _ (gives_name_to p r.holder && same r.object o) (name_at t.names p o) (h.counts.carried_few p o s)));
  }
    where
      asked_called : (p : ℕ) (o : Identity) → more ≡ true → ((gives_name_to p r.holder && same r.object o) && is_asked r.holder) ≡ true → is_some (name_at t.names p o) ≡ true
      asked_called p o e k =
          let by : (same r.object o && is_asked_by p r.holder) ≡ true = sym (asked_hit p true (same r.object o) r.holder) ∙ k in
          let is : r.object ≡ o = same_eq r.object o (grind (arith, by)) in
          subst (λ x. is_some (name_at t.names p x) ≡ true) is ((homed e).1.named p (grind (arith, k)) ((homed e).1.others p (grind (arith, by))))

  -- a reference came or went, and nothing else
  pub turned_stands : u.owned ≡ t.owned → BuffersAre u.held m → length m ≤ u.made → RecordsAre u objects m
  turned_stands own held few = record {
    objects_are = λ o. h.objects_are o ∙ sym (row_kept (option_map (λ (v : ObjectRow). v.object)) (turned more r) (λ v. refl) r.object (row_at t.objects) (row_at u.objects) os o);
    owners = λ p o. h.owners p o ∙ sym (row_kept (is_owner p) (turned more r) (λ v. refl) r.object (row_at t.objects) (row_at u.objects) os o);
    own = subst (λ x. OwnedAre x objects) (sym own) h.own;
    counts = counts_turned;
    held = held;
    few = few;
  }

-- ---- lists

pub count_push : (f : Reference → Bool) (l : List Reference) (r : Reference) → count_by f (l ++ r ∷ []) ≡ count_by f l + cond (f r) 1 0
count_push f l r = sum_by_push (λ x. cond (f x) 1 0) l r

-- what is found is counted
pub in_count : (p f : Reference → Bool) (l : List Reference) (x : Reference) → find p l ≡ Some x → cond (f x) 1 0 ≤ count_by f l
in_count p f [] x e = absurd cc
in_count p f (y ∷ ys) x e = grind (arith, in_count p f ys x, e, sum_by-cons (λ z. cond (f z) 1 0) y ys)

-- the first that passes goes
pub count_first : (p f : Reference → Bool) (l : List Reference) (x : Reference) → find p l ≡ Some x → count_by f (without_first p l) ≡ count_by f l - cond (f x) 1 0
count_first p f [] x e = absurd cc
count_first p f (y ∷ ys) x e = grind (arith, count_first p f ys x, in_count p f ys x, e, sum_by-cons (λ z. cond (f z) 1 0) y ys, sum_by-cons (λ z. cond (f z) 1 0) y (without_first p ys))
