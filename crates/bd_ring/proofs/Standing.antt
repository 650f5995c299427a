-- Rings after one came or left.
use Rattle.std.proofs.Common.{◌≡◌, ℕ, zero, suc, ◌==◌, ◌<◌, ◌&&◌, ◌||◌, not, nat_lt, Bool, true, false, cond, List, [], ◌∷◌, ◌++◌, length, Option, Some, None, refl, sym, ap, ◌∙◌, subst, arith}
use Rattle.std.proofs.lemmas.Bool.{eqb-true, eq-eqb}
use Rattle.bd_chains.specs.{Chain.{is_at, same_end, has, has_end, distinct, without, Linked}, Rows.{hits}}
use Rattle.bd_chains.proofs.Order.{last_in, prev_in, next_in, without_none, distinct_more, distinct_less, linked_same, linked_more, linked_less}
use Rattle.bd_ring.specs.declared.nodes.Node.{Node}
use Rattle.bd_ring.proofs.Setting.{kept, put}
use Rattle.bd_ring.specs.Turns.{wants, after_enter, after_turn, after_pass}
use Rattle.bd_ring.specs.Rings.{Orders, with_ring, without_one, next_in as first_of, node_at, is_used, ring_of, next_at, prev_at, spot, placed, blank, Stands}

pub clash : {A : Type 0} {b : Bool} → b ≡ true → b ≡ false → A
clash a b = absurd cc

-- ---- lists

pub has_wants : (xs : List ℕ) (x : ℕ) → wants xs x ≡ has x xs
has_wants [] x = refl
has_wants (y ∷ ys) x = ap (λ b. (y == x) || b) (has_wants ys x)

has_more : (z x : ℕ) (xs : List ℕ) → has z (xs ++ x ∷ []) ≡ has z xs || (x == z)
has_more z x [] = grind arith
has_more z x (y ∷ ys) = grind (arith, has_more z x ys)

has_less : (z x : ℕ) (xs : List ℕ) → has z (without x xs) ≡ not (x == z) && has z xs
has_less z x [] = grind arith
has_less z x (y ∷ ys) = grind (arith, has_less z x ys)

enter_new : (x : ℕ) (xs : List ℕ) → has x xs ≡ false → after_enter xs x ≡ xs ++ x ∷ []
enter_new x xs off = rw (has_wants xs x ∙ off) refl

-- ---- numbers

pub used_there : (ns : List Node) (k : ℕ) → is_used ns k ≡ true → k < length ns
used_there [] k e = absurd cc
used_there (n ∷ ns) zero e = omega arith
used_there (n ∷ ns) (suc k) e = let rest = used_there ns k e in omega (arith, rest)

pub at_there : (ns : List Node) (l k : ℕ) → is_at l (ring_of ns k) ≡ true → k < length ns
at_there [] l k e = absurd cc
at_there (n ∷ ns) l zero e = omega arith
at_there (n ∷ ns) l (suc k) e = let rest = at_there ns l k e in omega (arith, rest)

one_ring : (l m : ℕ) (r : Option ℕ) → (l == m) ≡ false → is_at l r ≡ true → is_at m r ≡ false
one_ring l m None far on = refl
one_ring l m (Some y) far on = grind arith

pub at_self : (l : ℕ) (r : Option ℕ) → r ≡ Some l → is_at l r ≡ true
at_self l r e = grind (arith, e)

-- a write of a ring's link is of the same ring's where the ends are the same, and of no other ring's
hits_own : (l : ℕ) (a o : Option ℕ) → hits l a l o ≡ same_end o a
hits_own l None None = grind arith
hits_own l None (Some y) = refl
hits_own l (Some x) None = refl
hits_own l (Some x) (Some y) = grind arith

hits_none : (l m : ℕ) (a o : Option ℕ) (ys : List ℕ) → (l == m) ≡ false → (same_end None o || has_end o ys) ≡ true → has_end a ys ≡ false → hits l a m o ≡ false
hits_none l m None None ys differ on off = differ
hits_none l m None (Some y) ys differ on off = refl
hits_none l m (Some x) None ys differ on off = refl
hits_none l m (Some x) (Some y) ys differ on off = grind arith

-- ---- the same orders, said otherwise

pub said_so : (ns : List Node) (f g : Orders) → Stands ns f → ((l : ℕ) → g l ≡ f l) → Stands ns g
said_so ns f g h same = record {
  linked = λ l. subst (Linked (next_at ns l) (prev_at ns l) None) (sym (same l)) (h.linked l);
  apart = λ l. ap distinct (same l) ∙ h.apart l;
  on = λ l x. ap (has x) (same l) ∙ h.on l x;
  empty = λ l e. same l ∙ h.empty l e;
}

-- the same links
pub kept_stands : (ns us : List Node) (f : Orders) → Stands ns f → ((m : ℕ) (o : Option ℕ) → next_at us m o ≡ next_at ns m o) → ((m : ℕ) (o : Option ℕ) → prev_at us m o ≡ prev_at ns m o)
    → ((k : ℕ) → ring_of us k ≡ ring_of ns k) → ((k : ℕ) → is_used us k ≡ false → f k ≡ []) → Stands us f
kept_stands ns us f h nexts prevs rings empty = record {
  linked = λ l. linked_same (next_at ns l) (prev_at ns l) (next_at us l) (prev_at us l) None (f l) (h.linked l) (nexts l None) (prevs l None) (λ z on. (nexts l (Some z), prevs l (Some z)));
  apart = h.apart;
  on = λ l x. h.on l x ∙ ap (is_at l) (sym (rings x));
  empty = empty;
}

module _ (ns us : List Node) (f : Orders) (h : Stands ns f) (x l : ℕ) where
  -- what stands in one ring stands in no other
  one_end : (m : ℕ) (o : Option ℕ) → (l == m) ≡ false → (same_end None o || has_end o (f l)) ≡ true → has_end o (f m) ≡ false
  one_end m None far on = refl
  one_end m (Some z) far on = h.on m z ∙ one_ring l m (ring_of ns z) far (sym (h.on l z) ∙ on)

  pub known : (o : Option ℕ) → l < length ns → (same_end None o || has_end o (f l)) ≡ true → spot l o < length ns
  known None lt on = lt
  known (Some z) lt on = at_there ns l z (sym (h.on l z) ∙ on)

  -- along another ring the links lead as before
  other : (m : ℕ) (p n to from here was : Option ℕ) → (l == m) ≡ false → has x (f m) ≡ false
      → (same_end None p || has_end p (f l)) ≡ true → (same_end None n || has_end n (f l)) ≡ true
      → ((o : Option ℕ) → next_at us m o ≡ cond (hits l p m o) to (cond (is_at x o) here (next_at ns m o)))
      → ((o : Option ℕ) → prev_at us m o ≡ cond (hits l n m o) from (cond (is_at x o) was (prev_at ns m o)))
      → Linked (next_at us m) (prev_at us m) None (f m)
  other m p n to from here was far off prev_on next_on nexts prevs =
      linked_same (next_at ns m) (prev_at ns m) (next_at us m) (prev_at us m) None (f m) (h.linked m)
      (rw (hits_none l m p None (f m) far refl (one_end m p far prev_on)) at (nexts None)) (rw (hits_none l m n None (f m) far refl (one_end m n far next_on)) at (prevs None))
      (λ z on. (
        grind (arith, nexts (Some z), hits_none l m p (Some z) (f m) far on (one_end m p far prev_on)),
        grind (arith, prevs (Some z), hits_none l m n (Some z) (f m) far on (one_end m n far next_on)),
      ))

  -- one came, which stood nowhere
  module _ (used_l : is_used ns l ≡ true) (lt : x < length ns) (nowhere : ring_of ns x ≡ None) where
    pub last_known : spot l (prev_at ns l None) < length ns
    last_known = known (prev_at ns l None) (used_there ns l used_l) (last_in (next_at ns l) (prev_at ns l) None (f l) (h.linked l))

  module _ (used_l : is_used ns l ≡ true) (nowhere : ring_of ns x ≡ None) (used : (k : ℕ) → is_used us k ≡ is_used ns k)
      (nexts : (m : ℕ) (o : Option ℕ) → next_at us m o ≡ cond (hits l (prev_at ns l None) m o) (Some x) (cond (is_at x o) None (next_at ns m o)))
      (prevs : (m : ℕ) (o : Option ℕ) → prev_at us m o ≡ cond (hits l None m o) (Some x) (cond (is_at x o) (prev_at ns l None) (prev_at ns m o)))
      (rings : (k : ℕ) → ring_of us k ≡ cond (x == k) (Some l) (ring_of ns k)) where
    abbrev last : Option ℕ
    last = prev_at ns l None

    off : (m : ℕ) → has x (f m) ≡ false
    off m = h.on m x ∙ ap (is_at m) nowhere

    last_on : (same_end None last || has_end last (f l)) ≡ true
    last_on = last_in (next_at ns l) (prev_at ns l) None (f l) (h.linked l)

    links : (m : ℕ) (b : Bool) → (l == m) ≡ b → Linked (next_at us m) (prev_at us m) None (cond b (f l ++ x ∷ []) (f m))
    links m true is =
        subst (λ n. Linked (next_at us n) (prev_at us n) None (f l ++ x ∷ [])) (eqb-true l m is)
        (linked_more (next_at ns l) (prev_at ns l) (next_at us l) (prev_at us l) x last refl
        (λ o. rw hits_own at (nexts l o)) (λ o. rw hits_own at (prevs l o))
        None (f l) (h.linked l) (h.apart l) refl (off l) refl)
    links m false far = other m last None (Some x) (Some x) None last far (off m) last_on refl (nexts m) (prevs m)

    apart_so : (m : ℕ) (b : Bool) → (l == m) ≡ b → distinct (cond b (f l ++ x ∷ []) (f m)) ≡ true
    apart_so m true is = distinct_more x (f l) (h.apart l) (off l)
    apart_so m false far = h.apart m

    on_so : (m k : ℕ) (b c : Bool) → (l == m) ≡ b → (x == k) ≡ c → has k (cond b (f l ++ x ∷ []) (f m)) ≡ is_at m (cond c (Some l) (ring_of ns k))
    on_so m k true true is same = has_more k x (f l) ∙ ap (λ c. has k (f l) || c) same ∙ yes (has k (f l)) ∙ sym is
      where
        yes : (b : Bool) → (b || true) ≡ true
        yes true = refl
        yes false = refl
    on_so m k true false is far = has_more k x (f l) ∙ ap (λ c. has k (f l) || c) far ∙ no (has k (f l)) ∙ h.on l k ∙ ap (λ n. is_at n (ring_of ns k)) (eqb-true l m is)
      where
        no : (b : Bool) → (b || false) ≡ b
        no true = refl
        no false = refl
    on_so m k false true far same = ap (λ n. has n (f m)) (sym (eqb-true x k same)) ∙ off m ∙ sym far
    on_so m k false false far apart = h.on m k

    empty_so : (m : ℕ) (b : Bool) → (l == m) ≡ b → is_used ns m ≡ false → cond b (f l ++ x ∷ []) (f m) ≡ []
    empty_so m true is free = clash used_l (ap (is_used ns) (eqb-true l m is) ∙ free)
    empty_so m false far free = h.empty m free

    more : Stands us (with_ring f l (f l ++ x ∷ []))
    more = record {
      linked = λ m. links m (l == m) refl;
      apart = λ m. apart_so m (l == m) refl;
      on = λ m k. on_so m k (l == m) (x == k) refl refl ∙ ap (is_at m) (sym (rings k));
      empty = λ m free. empty_so m (l == m) refl (sym (used m) ∙ free);
    }

    pub entered : Stands us (with_ring f l (after_enter (f l) x))
    entered = said_so us (with_ring f l (f l ++ x ∷ [])) (with_ring f l (after_enter (f l) x)) more (λ m. ap (λ xs. cond (l == m) xs (f m)) (enter_new x (f l) (off l)))

  -- one left, which stood there
  module _ (is : ring_of ns x ≡ Some l) (used : (k : ℕ) → is_used us k ≡ is_used ns k)
      (nexts : (m : ℕ) (o : Option ℕ) → next_at us m o ≡ cond (hits l (prev_at ns l (Some x)) m o) (next_at ns l (Some x)) (cond (is_at x o) None (next_at ns m o)))
      (prevs : (m : ℕ) (o : Option ℕ) → prev_at us m o ≡ cond (hits l (next_at ns l (Some x)) m o) (prev_at ns l (Some x)) (cond (is_at x o) None (prev_at ns m o)))
      (rings : (k : ℕ) → ring_of us k ≡ cond (x == k) None (ring_of ns k)) where
    there : has x (f l) ≡ true
    there = h.on l x ∙ at_self l (ring_of ns x) is

    prev_on : (same_end None (prev_at ns l (Some x)) || has_end (prev_at ns l (Some x)) (f l)) ≡ true
    prev_on = prev_in (next_at ns l) (prev_at ns l) x None (f l) (h.linked l) there

    next_on : (same_end None (next_at ns l (Some x)) || has_end (next_at ns l (Some x)) (f l)) ≡ true
    next_on = next_in (next_at ns l) (prev_at ns l) x None (f l) (h.linked l) there

    links_less : (m : ℕ) (b : Bool) → (l == m) ≡ b → Linked (next_at us m) (prev_at us m) None (without x (f m))
    links_less m true same =
        subst (λ n. Linked (next_at us n) (prev_at us n) None (without x (f n))) (eqb-true l m same)
        (linked_less (next_at ns l) (prev_at ns l) (next_at us l) (prev_at us l) x (prev_at ns l (Some x)) (next_at ns l (Some x)) refl refl
        (λ o. rw hits_own at (nexts l o)) (λ o. rw hits_own at (prevs l o))
        None (f l) (h.linked l) (h.apart l) refl there)
    links_less m false far =
        let gone = h.on m x ∙ one_ring l m (ring_of ns x) far (at_self l (ring_of ns x) is) in
        subst (Linked (next_at us m) (prev_at us m) None) (sym (without_none x (f m) gone))
        (other m (prev_at ns l (Some x)) (next_at ns l (Some x)) (next_at ns l (Some x)) (prev_at ns l (Some x)) None None far gone prev_on next_on (nexts m) (prevs m))

    on_less : (m k : ℕ) (c : Bool) → (x == k) ≡ c → (not c && has k (f m)) ≡ is_at m (cond c None (ring_of ns k))
    on_less m k true same = refl
    on_less m k false far = h.on m k

    pub left : Stands us (without_one f x)
    left = record {
      linked = λ m. links_less m (l == m) refl;
      apart = λ m. distinct_less x (f m) (h.apart m);
      on = λ m k. has_less k x (f m) ∙ on_less m k (x == k) refl ∙ ap (is_at m) (sym (rings k));
      empty = λ m free. ap (without x) (h.empty m (sym (used m) ∙ free));
    }

  -- where the neighbours' nodes are
  pub neighbours : ring_of ns x ≡ Some l → l < length ns → (spot l (prev_at ns l (Some x)) < length ns) × (spot l (next_at ns l (Some x)) < length ns)
  neighbours is lt =
      let there : has x (f l) ≡ true = h.on l x ∙ at_self l (ring_of ns x) is in (
        known (prev_at ns l (Some x)) lt (prev_in (next_at ns l) (prev_at ns l) x None (f l) (h.linked l) there),
        known (next_at ns l (Some x)) lt (next_in (next_at ns l) (prev_at ns l) x None (f l) (h.linked l) there),
      )

module _ (ns : List Node) (f : Orders) (h : Stands ns f) where
  -- a ring in which somebody stands is there
  pub ring_there : (l x : ℕ) → ring_of ns x ≡ Some l → l < length ns
  ring_there l x is = by (is_used ns l) refl
    where
      by : (b : Bool) → is_used ns l ≡ b → l < length ns
      by true e = used_there ns l e
      by false e =
          let none : has x (f l) ≡ false = ap (has x) (h.empty l e) in
          clash (h.on l x ∙ at_self l (ring_of ns x) is) none

  -- who stands in no ring leaves none
  pub stays_out : (x : ℕ) → ring_of ns x ≡ None → Stands ns (without_one f x)
  stays_out x none = said_so ns f (without_one f x) h (λ m. without_none x (f m) (h.on m x ∙ ap (is_at m) none))

  -- the first
  pub first_is : (l : ℕ) → next_at ns l None ≡ first_of (f l)
  first_is l = by (f l) (h.linked l)
    where
      by : (xs : List ℕ) → Linked (next_at ns l) (prev_at ns l) None xs → next_at ns l None ≡ first_of xs
      by [] k = k.0
      by (y ∷ ys) k = k.0

  first_on : (l x : ℕ) → first_of (f l) ≡ Some x → has x (f l) ≡ true
  first_on l x e = by (f l) e
    where
      by : (xs : List ℕ) → first_of xs ≡ Some x → has x xs ≡ true
      by [] e = absurd cc
      by (y ∷ ys) e = grind (arith, e)

  pub first_in_ring : (l x : ℕ) → first_of (f l) ≡ Some x → ring_of ns x ≡ Some l
  first_in_ring l x e = by (ring_of ns x) (sym (h.on l x) ∙ first_on l x e)
    where
      by : (o : Option ℕ) → is_at l o ≡ true → o ≡ Some l
      by None q = absurd cc
      by (Some y) q = ap Some (eqb-true y l q)

  pub first_there : (l x : ℕ) → first_of (f l) ≡ Some x → x < length ns
  first_there l x e = at_there ns l x (at_self l (ring_of ns x) (first_in_ring l x e))

  pub first_used : (l x : ℕ) → first_of (f l) ≡ Some x → is_used ns l ≡ true
  first_used l x e = by (is_used ns l) refl
    where
      by : (b : Bool) → is_used ns l ≡ b → is_used ns l ≡ true
      by true q = q
      by false q = clash (first_on l x e) (ap (has x) (h.empty l q))

  less_first : (x : ℕ) (xs : List ℕ) → first_of xs ≡ Some x → distinct xs ≡ true → without x xs ≡ after_turn xs
  less_first x [] e apart = absurd cc
  less_first x (y ∷ ys) e apart =
      let same : y ≡ x = some_is e in
      let off : has x ys ≡ false = grind (arith, same) in
      let yes : (y == x) ≡ true = eq-eqb y x same in
      rw (yes, without_none x ys off) refl
    where
      some_is : {a b : ℕ} → Some a ≡ Some b → a ≡ b
      some_is e = cc

  elsewhere : (l m x : ℕ) → first_of (f l) ≡ Some x → (l == m) ≡ false → has x (f m) ≡ false
  elsewhere l m x e far = h.on m x ∙ one_ring l m (ring_of ns x) far (at_self l (ring_of ns x) (first_in_ring l x e))

  -- the first has its turn
  pub turned : (l x : ℕ) → first_of (f l) ≡ Some x → (m : ℕ) → with_ring f l (after_turn (f l)) m ≡ without_one f x m
  turned l x e m = by (l == m) refl
    where
      by : (b : Bool) → (l == m) ≡ b → cond b (after_turn (f l)) (f m) ≡ without x (f m)
      by true is = sym (less_first x (f l) e (h.apart l)) ∙ ap (λ n. without x (f n)) (eqb-true l m is)
      by false far = sym (without_none x (f m) (elsewhere l m x e far))

  -- the first is passed over
  pub passed : (l x : ℕ) → first_of (f l) ≡ Some x → (m : ℕ) → with_ring f l (after_pass (f l)) m ≡ with_ring (without_one f x) l (after_enter (without_one f x l) x) m
  passed l x e m = by (l == m) refl
    where
      out : has x (without x (f l)) ≡ false
      out = has_less x x (f l) ∙ no (has x (f l))
        where
          no : (b : Bool) → (not (x == x) && b) ≡ false
          no b = let yes : (x == x) ≡ true = eq-eqb x x refl in rw yes refl

      behind : (xs : List ℕ) → first_of xs ≡ Some x → after_pass xs ≡ after_turn xs ++ x ∷ []
      behind [] q = absurd cc
      behind (y ∷ ys) q = ap (λ n. ys ++ n ∷ []) (some_is q)
        where
          some_is : {a b : ℕ} → Some a ≡ Some b → a ≡ b
          some_is e = cc

      by : (b : Bool) → (l == m) ≡ b → cond b (after_pass (f l)) (f m) ≡ cond b (after_enter (without x (f l)) x) (without x (f m))
      by true is = behind (f l) e ∙ ap (λ xs. xs ++ x ∷ []) (sym (less_first x (f l) e (h.apart l))) ∙ sym (enter_new x (without x (f l)) out)
      by false far = sym (without_none x (f m) (elsewhere l m x e far))

  -- nobody stands there
  pub none_turned : (l : ℕ) → first_of (f l) ≡ None → (m : ℕ) → (with_ring f l (after_turn (f l)) m ≡ f m) × (with_ring f l (after_pass (f l)) m ≡ f m)
  none_turned l e m = by (l == m) refl (empty (f l) e)
    where
      empty : (xs : List ℕ) → first_of xs ≡ None → xs ≡ []
      empty [] q = refl
      empty (y ∷ ys) q = absurd cc

      by : (b : Bool) → (l == m) ≡ b → f l ≡ [] → (cond b (after_turn (f l)) (f m) ≡ f m) × (cond b (after_pass (f l)) (f m) ≡ f m)
      by true is none =
          let here : f m ≡ [] = ap f (sym (eqb-true l m is)) ∙ none in
          (ap after_turn none ∙ sym here, ap after_pass none ∙ sym here)
      by false far none = (refl, refl)

-- ---- what the code writes

eq_turned : (a b : ℕ) → (a == b) ≡ (b == a)
eq_turned a b = by (a == b) refl (b == a) refl
  where
    by : (c : Bool) → (a == b) ≡ c → (d : Bool) → (b == a) ≡ d → c ≡ d
    by true e true g = refl
    by false e false g = refl
    by true e false g = clash (eq-eqb b a (sym (eqb-true a b e))) g
    by false e true g = clash (eq-eqb a b (sym (eqb-true b a g))) e

-- one's place was written
module _ (ns us : List Node) (x : ℕ) (r p n : Option ℕ) (lt : x < length ns)
    (writes : (j : ℕ) → node_at us j ≡ cond (nat_lt x (length ns) && (x == j)) (placed r p n (node_at ns x)) (node_at ns j)) where
  abbrev new : Node
  new = placed r p n (node_at ns x)

  pub placed_nexts : (m : ℕ) (o : Option ℕ) → next_at us m o ≡ cond (is_at x o) n (next_at ns m o)
  placed_nexts m None = kept ns us x new writes (λ (q : Node). q.first) refl m
  placed_nexts m (Some y) = put ns us x new writes (λ (q : Node). q.next) lt y ∙ ap (λ b. cond b n (node_at ns y).next) (eq_turned x y)

  pub placed_prevs : (m : ℕ) (o : Option ℕ) → prev_at us m o ≡ cond (is_at x o) p (prev_at ns m o)
  placed_prevs m None = kept ns us x new writes (λ (q : Node). q.last) refl m
  placed_prevs m (Some y) = put ns us x new writes (λ (q : Node). q.prev) lt y ∙ ap (λ b. cond b p (node_at ns y).prev) (eq_turned x y)

  pub placed_rings : (k : ℕ) → ring_of us k ≡ cond (x == k) r (ring_of ns k)
  placed_rings k = put ns us x new writes (λ (q : Node). q.ring) lt k

  pub placed_used : (k : ℕ) → is_used us k ≡ is_used ns k
  placed_used k = kept ns us x new writes (λ (q : Node). q.used) refl k

module _ (ns bs es us : List Node) (f : Orders) (x l : ℕ) (h : Stands ns f) where
  pub appended : (last : Option ℕ) → last ≡ prev_at ns l None → is_used ns l ≡ true → x < length ns → ring_of ns x ≡ None
      → ((j : ℕ) → node_at bs j ≡ cond (nat_lt x (length ns) && (x == j)) (placed (Some l) last None (node_at ns x)) (node_at ns j)) → length bs ≡ length ns
      → (spot l last < length bs → (m : ℕ) (o : Option ℕ) → next_at es m o ≡ cond (hits l last m o) (Some x) (next_at bs m o)) → ((m : ℕ) (o : Option ℕ) → prev_at es m o ≡ prev_at bs m o)
      → ((k : ℕ) → ring_of es k ≡ ring_of bs k) → ((k : ℕ) → is_used es k ≡ is_used bs k) → length es ≡ length bs
      → (l < length es → (m : ℕ) (o : Option ℕ) → prev_at us m o ≡ cond (hits l None m o) (Some x) (prev_at es m o)) → ((m : ℕ) (o : Option ℕ) → next_at us m o ≡ next_at es m o)
      → ((k : ℕ) → ring_of us k ≡ ring_of es k) → ((k : ℕ) → is_used us k ≡ is_used es k)
      → Stands us (with_ring f l (after_enter (f l) x))
  appended last is used_l lt none writes alen enexts eprevs erings eused elen uprevs unexts urings uused =
      entered ns us f h x l used_l none
      (λ k. uused k ∙ eused k ∙ placed_used ns bs x (Some l) last None lt writes k)
      (λ m o. subst (λ p. next_at us m o ≡ cond (hits l p m o) (Some x) (cond (is_at x o) None (next_at ns m o))) is (nexts m o))
      (λ m o. subst (λ p. prev_at us m o ≡ cond (hits l None m o) (Some x) (cond (is_at x o) p (prev_at ns m o))) is (prevs m o))
      (λ k. urings k ∙ erings k ∙ placed_rings ns bs x (Some l) last None lt writes k)
    where
      lt_l : l < length ns
      lt_l = used_there ns l used_l

      in_as : spot l last < length bs
      in_as =
          let here : spot l last < length ns = subst (λ p. spot l p < length ns) (sym is) (last_known ns us f h x l used_l lt none) in
          omega (arith, here, alen)

      in_es : l < length es
      in_es = omega (arith, lt_l, alen, elen)

      nexts : (m : ℕ) (o : Option ℕ) → next_at us m o ≡ cond (hits l last m o) (Some x) (cond (is_at x o) None (next_at ns m o))
      nexts m o = unexts m o ∙ enexts in_as m o ∙ ap (λ n. cond (hits l last m o) (Some x) n) (placed_nexts ns bs x (Some l) last None lt writes m o)

      prevs : (m : ℕ) (o : Option ℕ) → prev_at us m o ≡ cond (hits l None m o) (Some x) (cond (is_at x o) last (prev_at ns m o))
      prevs m o = uprevs in_es m o ∙ ap (λ n. cond (hits l None m o) (Some x) n) (eprevs m o ∙ placed_prevs ns bs x (Some l) last None lt writes m o)

  pub detached : ring_of ns x ≡ Some l
      → ((j : ℕ) → node_at bs j ≡ cond (nat_lt x (length ns) && (x == j)) (placed None None None (node_at ns x)) (node_at ns j)) → length bs ≡ length ns
      → (spot l (prev_at ns l (Some x)) < length bs → (m : ℕ) (o : Option ℕ) → next_at es m o ≡ cond (hits l (prev_at ns l (Some x)) m o) (next_at ns l (Some x)) (next_at bs m o))
      → ((m : ℕ) (o : Option ℕ) → prev_at es m o ≡ prev_at bs m o) → ((k : ℕ) → ring_of es k ≡ ring_of bs k) → ((k : ℕ) → is_used es k ≡ is_used bs k) → length es ≡ length bs
      → (spot l (next_at ns l (Some x)) < length es → (m : ℕ) (o : Option ℕ) → prev_at us m o ≡ cond (hits l (next_at ns l (Some x)) m o) (prev_at ns l (Some x)) (prev_at es m o))
      → ((m : ℕ) (o : Option ℕ) → next_at us m o ≡ next_at es m o) → ((k : ℕ) → ring_of us k ≡ ring_of es k) → ((k : ℕ) → is_used us k ≡ is_used es k)
      → Stands us (without_one f x)
  detached is writes alen enexts eprevs erings eused elen uprevs unexts urings uused =
      left ns us f h x l is
      (λ k. uused k ∙ eused k ∙ placed_used ns bs x None None None lt writes k)
      (λ m o. unexts m o ∙ enexts in_as m o ∙ ap (λ n. cond (hits l (prev_at ns l (Some x)) m o) (next_at ns l (Some x)) n) (placed_nexts ns bs x None None None lt writes m o))
      (λ m o. uprevs in_es m o ∙ ap (λ n. cond (hits l (next_at ns l (Some x)) m o) (prev_at ns l (Some x)) n) (eprevs m o ∙ placed_prevs ns bs x None None None lt writes m o))
      (λ k. urings k ∙ erings k ∙ placed_rings ns bs x None None None lt writes k)
    where
      lt : x < length ns
      lt = at_there ns l x (at_self l (ring_of ns x) is)

      near : (spot l (prev_at ns l (Some x)) < length ns) × (spot l (next_at ns l (Some x)) < length ns)
      near = neighbours ns us f h x l is (ring_there ns f h l x is)

      in_as : spot l (prev_at ns l (Some x)) < length bs
      in_as = let here = near.0 in omega (arith, here, alen)

      in_es : spot l (next_at ns l (Some x)) < length es
      in_es = let here = near.1 in omega (arith, here, alen, elen)

-- the node of one that stands nowhere says otherwise who uses it
abbrev pub lent : Bool → Option ℕ → Option ℕ → Node → Node
lent u p n node = record node { used = u; prev = p; next = n }

module _ (ns us : List Node) (x : ℕ) (u : Bool) (p n : Option ℕ)
    (writes : (j : ℕ) → node_at us j ≡ cond (nat_lt x (length ns) && (x == j)) (lent u p n (node_at ns x)) (node_at ns j)) where
  -- of others nothing is written
  pub apart_from : (j : ℕ) → (x == j) ≡ false → node_at us j ≡ node_at ns j
  apart_from j far = writes j ∙ no (nat_lt x (length ns)) (x == j) far
    where
      no : (a b : Bool) → b ≡ false → cond (a && b) (lent u p n (node_at ns x)) (node_at ns j) ≡ node_at ns j
      no true false e = refl
      no false false e = refl
      no a true e = absurd cc

  pub lent_used : x < length ns → (k : ℕ) → is_used us k ≡ cond (x == k) u (is_used ns k)
  lent_used lt k = put ns us x (lent u p n (node_at ns x)) writes (λ (q : Node). q.used) lt k

  pub lent_stands : (f : Orders) → Stands ns f → ring_of ns x ≡ None → (u ≡ false → f x ≡ []) → Stands us f
  lent_stands f h none empties = record {
    linked = λ l. linked_same (next_at ns l) (prev_at ns l) (next_at us l) (prev_at us l) None (f l) (h.linked l)
        (kept ns us x (lent u p n (node_at ns x)) writes (λ (q : Node). q.first) refl l) (kept ns us x (lent u p n (node_at ns x)) writes (λ (q : Node). q.last) refl l)
        (λ z on. (ap (λ (q : Node). q.next) (apart_from z (others l z on)), ap (λ (q : Node). q.prev) (apart_from z (others l z on))));
    apart = h.apart;
    on = λ l k. h.on l k ∙ ap (is_at l) (sym (kept ns us x (lent u p n (node_at ns x)) writes (λ (q : Node). q.ring) refl k));
    empty = λ k free. empty_so k (x == k) refl free;
  }
    where
      others : (l z : ℕ) → has z (f l) ≡ true → (x == z) ≡ false
      others l z on = by (x == z) refl
        where
          by : (b : Bool) → (x == z) ≡ b → b ≡ false
          by false e = refl
          by true e = clash (ap (λ n. has n (f l)) (eqb-true x z e) ∙ on) (h.on l x ∙ ap (is_at l) none)

      empty_so : (k : ℕ) (b : Bool) → (x == k) ≡ b → is_used us k ≡ false → f k ≡ []
      empty_so k false far free = h.empty k (sym (ap (λ (q : Node). q.used) (apart_from k far)) ∙ free)
      empty_so k true same free = by (nat_lt x (length ns)) refl
        where
          here : is_used us k ≡ cond (nat_lt x (length ns) && (x == k)) u (is_used ns k)
          here = ap (λ (q : Node). q.used) (writes k) ∙ out (nat_lt x (length ns) && (x == k))
            where
              out : (b : Bool) → (cond b (lent u p n (node_at ns x)) (node_at ns k)).used ≡ cond b u (is_used ns k)
              out true = refl
              out false = refl

          by : (b : Bool) → nat_lt x (length ns) ≡ b → f k ≡ []
          by true e = ap f (sym (eqb-true x k same)) ∙ empties (sym (here ∙ rw (e, same) refl) ∙ free)
          by false e = h.empty k (sym (here ∙ rw e refl) ∙ free)

-- a node more
module _ (node : Node) where
  pub more_says : {A : Type 0} (g : Node → A) → g node ≡ g blank → (ns : List Node) (j : ℕ) → g (node_at (ns ++ node ∷ []) j) ≡ g (node_at ns j)
  more_says g same [] zero = same
  more_says g same [] (suc j) = refl
  more_says g same (n ∷ ns) zero = refl
  more_says g same (n ∷ ns) (suc j) = more_says g same ns j

  pub more_used : (ns : List Node) (j : ℕ) → is_used (ns ++ node ∷ []) j ≡ false → is_used ns j ≡ false
  more_used [] j free = refl
  more_used (n ∷ ns) zero free = free
  more_used (n ∷ ns) (suc j) free = more_used ns j free

abbrev pub fresh : Node
fresh = record { used = true; first = None; last = None; ring = None; prev = None; next = None }

pub pushed : (ns : List Node) (f : Orders) → Stands ns f → Stands (ns ++ record { used = true; first = None; last = None; ring = None; prev = None; next = None } ∷ []) f
pushed ns f h =
    kept_stands ns (ns ++ fresh ∷ []) f h nexts prevs (more_says fresh (λ (q : Node). q.ring) refl ns) (λ k free. h.empty k (more_used fresh ns k free))
  where
    nexts : (m : ℕ) (o : Option ℕ) → next_at (ns ++ fresh ∷ []) m o ≡ next_at ns m o
    nexts m None = more_says fresh (λ (q : Node). q.first) refl ns m
    nexts m (Some y) = more_says fresh (λ (q : Node). q.next) refl ns y

    prevs : (m : ℕ) (o : Option ℕ) → prev_at (ns ++ fresh ∷ []) m o ≡ prev_at ns m o
    prevs m None = more_says fresh (λ (q : Node). q.last) refl ns m
    prevs m (Some y) = more_says fresh (λ (q : Node). q.prev) refl ns y

-- nobody stands in a ring that has no first one
pub none_first : (ns : List Node) (f : Orders) (h : Stands ns f) (l : ℕ) → next_at ns l None ≡ None → f l ≡ []
none_first ns f h l none = empty (f l) (sym (first_is ns f h l) ∙ none)
  where
    empty : (xs : List ℕ) → first_of xs ≡ None → xs ≡ []
    empty [] q = refl
    empty (y ∷ ys) q = absurd cc

-- a node that was read, changed and written
pub wrote : (ns us : List Node) (x : ℕ) (change : Node → Node) (node : Node) → node ≡ node_at ns x
    → ((j : ℕ) → node_at us j ≡ cond (nat_lt x (length ns) && (x == j)) (change node) (node_at ns j))
    → (j : ℕ) → node_at us j ≡ cond (nat_lt x (length ns) && (x == j)) (change (node_at ns x)) (node_at ns j)
wrote ns us x change node is writes j = writes j ∙ ap (λ n. cond (nat_lt x (length ns) && (x == j)) (change n) (node_at ns j)) is

pub detached_by : (ns bs es us : List Node) (f : Orders) (x l : ℕ) → Stands ns f → (node : Node) → node ≡ node_at ns x → node.ring ≡ Some l
    → ((j : ℕ) → node_at bs j ≡ cond (nat_lt x (length ns) && (x == j)) (placed None None None (node_at ns x)) (node_at ns j)) → length bs ≡ length ns
    → (spot l node.prev < length bs → (m : ℕ) (o : Option ℕ) → next_at es m o ≡ cond (hits l node.prev m o) node.next (next_at bs m o))
    → ((m : ℕ) (o : Option ℕ) → prev_at es m o ≡ prev_at bs m o) → ((k : ℕ) → ring_of es k ≡ ring_of bs k) → ((k : ℕ) → is_used es k ≡ is_used bs k) → length es ≡ length bs
    → (spot l node.next < length es → (m : ℕ) (o : Option ℕ) → prev_at us m o ≡ cond (hits l node.next m o) node.prev (prev_at es m o))
    → ((m : ℕ) (o : Option ℕ) → next_at us m o ≡ next_at es m o) → ((k : ℕ) → ring_of us k ≡ ring_of es k) → ((k : ℕ) → is_used us k ≡ is_used es k)
    → Stands us (without_one f x)
detached_by ns bs es us f x l h node is on writes alen enexts eprevs erings eused elen uprevs unexts urings uused =
    detached ns bs es us f x l h (sym (ap (λ (n : Node). n.ring) is) ∙ on) writes alen
    (subst (λ (n : Node). spot l n.prev < length bs → (m : ℕ) (o : Option ℕ) → next_at es m o ≡ cond (hits l n.prev m o) n.next (next_at bs m o)) is enexts) eprevs erings eused elen
    (subst (λ (n : Node). spot l n.next < length es → (m : ℕ) (o : Option ℕ) → prev_at us m o ≡ cond (hits l n.next m o) n.prev (prev_at es m o)) is uprevs) unexts urings uused
