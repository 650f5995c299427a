-- Keys in a row, where one is added or taken out, and what leads along them after it.
use Rattle.std.proofs.Common.{◌≡◌, ℕ, ◌==◌, Bool, true, false, not, ◌||◌, cond, List, [], ◌∷◌, ◌++◌, Option, Some, None, refl, sym, subst, ◌∙◌, arith, eqb-true}
use Rattle.bd_chains.specs.Chain.{is_at, same_end, has, has_end, distinct, without, Linked}

-- taking out a key that isn't in the row does nothing
pub without_none : (x : ℕ) (xs : List ℕ) → has x xs ≡ false → without x xs ≡ xs
without_none x [] h = refl
without_none x (y ∷ ys) h = grind (arith, without_none x ys)

has_more : (z x : ℕ) (xs : List ℕ) → has z (xs ++ x ∷ []) ≡ has z xs || (x == z)
has_more z x [] = grind arith
has_more z x (y ∷ ys) = grind (arith, has_more z x ys)

has_less : (z x : ℕ) (xs : List ℕ) → has z (without x xs) ≡ true → has z xs ≡ true
has_less z x [] h = h
has_less z x (y ∷ ys) h = grind (arith, has_less z x ys)

pub distinct_more : (x : ℕ) (xs : List ℕ) → distinct xs ≡ true → has x xs ≡ false → distinct (xs ++ x ∷ []) ≡ true
distinct_more x [] apart off = refl
distinct_more x (y ∷ ys) apart off = grind (arith, distinct_more x ys, has_more y x ys)

pub distinct_less : (x : ℕ) (xs : List ℕ) → distinct xs ≡ true → distinct (without x xs) ≡ true
distinct_less x [] apart = refl
distinct_less x (y ∷ ys) apart = grind (arith, distinct_less x ys, has_less y x ys)

module _ (N P : Option ℕ → Option ℕ) where
  -- the last key is of the row, if there is any
  pub last_in : (p : Option ℕ) (ys : List ℕ) → Linked N P p ys → (same_end p (P None) || has_end (P None) ys) ≡ true
  last_in p [] h = grind (arith, h.1)
  last_in p (y ∷ ys) h = grind (arith, last_in (Some y) ys h.2)

  -- and so is the first
  first_in : (p : Option ℕ) (ys : List ℕ) → Linked N P p ys → (same_end None (N p) || has_end (N p) ys) ≡ true
  first_in p [] h = grind (arith, h.0)
  first_in p (y ∷ ys) h = grind (arith, h.0)

  module _ (x : ℕ) where
    -- the neighbours of a key are of the row, if there are any
    pub prev_in : (p : Option ℕ) (ys : List ℕ) → Linked N P p ys → has x ys ≡ true → (same_end p (P (Some x)) || has_end (P (Some x)) ys) ≡ true
    prev_in p [] h on = grind arith
    prev_in p (y ∷ ys) h on = grind (arith, prev_in (Some y) ys h.2, h.1)

    pub next_in : (p : Option ℕ) (ys : List ℕ) → Linked N P p ys → has x ys ≡ true → (same_end None (N (Some x)) || has_end (N (Some x)) ys) ≡ true
    next_in p [] h on = grind arith
    next_in p (y ∷ ys) h on = grind (arith, next_in (Some y) ys h.2, first_in (Some y) ys h.2)

    -- no key is its own neighbour
    pub prev_other : (p : Option ℕ) (ys : List ℕ) → Linked N P p ys → distinct ys ≡ true → has_end p ys ≡ false → has x ys ≡ true → is_at x (P (Some x)) ≡ false
    prev_other p [] h apart off on = grind arith
    prev_other p (y ∷ ys) h apart off on = grind (arith, prev_other (Some y) ys h.2, h.1)

    pub next_other : (p : Option ℕ) (ys : List ℕ) → Linked N P p ys → distinct ys ≡ true → has x ys ≡ true → is_at x (N (Some x)) ≡ false
    next_other p [] h apart on = grind arith
    next_other p (y ∷ ys) h apart on = grind (arith, next_other (Some y) ys h.2, first_in (Some y) ys h.2)

module _ (N P M Q : Option ℕ → Option ℕ) where
  -- what leads from each of these keys as before leads along them
  pub linked_same : (p : Option ℕ) (ys : List ℕ) → Linked N P p ys → M p ≡ N p → Q None ≡ P None
      → ((z : ℕ) → has z ys ≡ true → (M (Some z) ≡ N (Some z)) × (Q (Some z) ≡ P (Some z))) → Linked M Q p ys
  linked_same p [] h first last same = (first ∙ h.0, last ∙ h.1)
  linked_same p (y ∷ ys) h first last same =
      let own = same y (grind arith) in
      (first ∙ h.0, own.1 ∙ h.1, linked_same (Some y) ys h.2 own.0 last (λ z on. same z (grind arith)))

  -- a key was added at the end
  pub linked_more : (x : ℕ) (last : Option ℕ) → last ≡ P None
      → ((o : Option ℕ) → M o ≡ cond (same_end o last) (Some x) (cond (is_at x o) None (N o)))
      → ((o : Option ℕ) → Q o ≡ cond (same_end o None) (Some x) (cond (is_at x o) last (P o)))
      → (p : Option ℕ) (ys : List ℕ) → Linked N P p ys → distinct ys ≡ true → has_end p ys ≡ false → has x ys ≡ false → is_at x p ≡ false
      → Linked M Q p (ys ++ x ∷ [])
  linked_more x last lasts nexts prevs p [] h apart off new far = (
    grind (arith, nexts p, h.1),
    grind (arith, prevs (Some x), h.1),
    (grind (arith, nexts (Some x), h.1), grind (arith, prevs None)),
  )
  linked_more x last lasts nexts prevs p (y ∷ ys) h apart off new far = (
    grind (arith, nexts p, last_in N P (Some y) ys h.2, h.0),
    grind (arith, prevs (Some y), h.1),
    linked_more x last lasts nexts prevs (Some y) ys h.2 (grind arith) (grind arith) (grind arith) (grind arith),
  )

  -- one was taken out, between a and b
  module _ (x : ℕ) (a b : Option ℕ) (before : a ≡ P (Some x)) (after : b ≡ N (Some x))
      (nexts : (o : Option ℕ) → M o ≡ cond (same_end o a) b (cond (is_at x o) None (N o)))
      (prevs : (o : Option ℕ) → Q o ≡ cond (same_end o b) a (cond (is_at x o) None (P o))) where
    behind : (p : Option ℕ) (ys : List ℕ) → Linked N P (Some x) ys → a ≡ p → distinct ys ≡ true → has_end p ys ≡ false → has x ys ≡ false → is_at x p ≡ false → Linked M Q p ys
    behind p [] h here apart off gone far = (grind (arith, nexts p, h.0), grind (arith, prevs None, h.0))
    behind p (z ∷ ys) h here apart off gone far = (
      grind (arith, nexts p, h.0),
      grind (arith, prevs (Some z), h.0),
      linked_same (Some z) ys h.2 (grind (arith, nexts (Some z))) (grind (arith, prevs None, h.0)) (λ y on. (grind (arith, nexts (Some y)), grind (arith, prevs (Some y), h.0))),
    )

    pub linked_less : (p : Option ℕ) (ys : List ℕ) → Linked N P p ys → distinct ys ≡ true → has_end p ys ≡ false → has x ys ≡ true → Linked M Q p (without x ys)
    linked_less p [] h apart off on = absurd (grind arith)
    linked_less p (y ∷ ys) h apart off on = at (y == x) refl (λ far. linked_less (Some y) ys h.2 (grind arith) (grind arith) (grind arith))
      where
        at : (c : Bool) → (y == x) ≡ c → ((y == x) ≡ false → Linked M Q (Some y) (without x ys)) → Linked M Q p (cond (not c) (y ∷ without x ys) (without x ys))
        at true e rest =
            let gone : has x ys ≡ false = grind arith in
            subst (Linked M Q p) (sym (without_none x ys gone))
            (behind p ys (subst (λ z. Linked N P (Some z) ys) (eqb-true y x e) h.2) (grind (arith, h.1)) (grind arith) (grind arith) gone (grind arith))
        at false e rest = (grind (arith, nexts p, prev_in N P x (Some y) ys h.2, h.0), grind (arith, prevs (Some y), next_in N P x (Some y) ys h.2, h.1), rest e)
