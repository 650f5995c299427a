-- For OwnersHearInOrder: how many elements of a list pass a test. It counts an object's handshakes and the returns that tell
-- of it.
use Rattle.bd_laws.proofs.words.Logic.{ℕ, suc, ◌+◌, ◌≡◌, Bool, true, false, cond, ◌||◌, List, [], ◌∷◌, ◌++◌, inl, inr, refl, filter, arith, list_any}
use Rattle.bd_space.specs.Words.{without_first}
use Rattle.bd_laws.specs.Lists.{In}
use Rattle.bd_laws.proofs.Lists.{any_in}

abbrev pub tally : {A : Type 0} → (A → Bool) → List A → ℕ
tally p [] = 0
tally p (x ∷ xs) = cond (p x) 1 0 + tally p xs

module _ {A : Type 0} (p : A → Bool) where
  pub tally_append : (xs ys : List A) → tally p (xs ++ ys) ≡ tally p xs + tally p ys
  tally_append [] ys = omega arith
  tally_append (x ∷ xs) ys = let e = tally_append xs ys in omega arith

  pub tally_none : (xs : List A) → ((x : A) → In x xs → p x ≡ false) → tally p xs ≡ 0
  tally_none [] h = refl
  tally_none (x ∷ xs) h = let e = tally_none xs (λ y l. h y (inr l)) in rw (h x (inl refl)) omega arith

  -- what is added passes the test nowhere
  pub tally_more : (xs ys : List A) → ((y : A) → In y ys → p y ≡ false) → tally p (xs ++ ys) ≡ tally p xs
  tally_more xs ys h = let e = tally_append xs ys in let n = tally_none ys h in omega arith

  pub tally_unmet : (xs : List A) → list_any p xs ≡ false → tally p xs ≡ 0
  tally_unmet xs h = search (arith, tally_none, any_in)

  module _ (q : A → Bool) where
    kept : (x : A) (xs : List A) (a b : Bool) → p x ≡ a → q x ≡ b → (a ≡ true → b ≡ true) → tally p (cond b (x ∷ xs) xs) ≡ cond a 1 0 + tally p xs
    kept x xs a b e f h = search arith

    pub tally_filter : (xs : List A) → ((x : A) → In x xs → p x ≡ true → q x ≡ true) → tally p (filter q xs) ≡ tally p xs
    tally_filter [] h = refl
    tally_filter (x ∷ xs) h =
        let e = tally_filter xs (λ y l. h y (inr l)) in
        let k = kept x (filter q xs) (p x) (q x) refl refl (h x (inl refl)) in omega arith

    dropped : (x : A) (xs ys : List A) (a b : Bool) → p x ≡ a → q x ≡ b → (a ≡ true → b ≡ false) → tally p ys ≡ tally p xs → tally p (cond b xs (x ∷ ys)) ≡ cond a 1 0 + tally p xs
    dropped x xs ys a b e f h k = search arith

    -- the first that goes is none of those that are counted
    pub tally_without : (xs : List A) → ((x : A) → p x ≡ true → q x ≡ false) → tally p (without_first q xs) ≡ tally p xs
    tally_without [] h = refl
    tally_without (x ∷ xs) h = dropped x xs (without_first q xs) (p x) (q x) refl refl (h x) (tally_without xs h)

  first : (x : A) (xs : List A) (b : Bool) → p x ≡ b → (list_any p xs ≡ true → tally p xs ≡ suc (tally p (without_first p xs))) → (b || list_any p xs) ≡ true
      → cond b 1 0 + tally p xs ≡ suc (tally p (cond b xs (x ∷ without_first p xs)))
  first x xs b e k h = search arith

  -- the first of those that are counted goes
  pub tally_first : (xs : List A) → list_any p xs ≡ true → tally p xs ≡ suc (tally p (without_first p xs))
  tally_first [] h = absurd (cc)
  tally_first (x ∷ xs) h = first x xs (p x) refl (tally_first xs) h
