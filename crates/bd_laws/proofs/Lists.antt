-- For every law: membership in lists, and lists of which each two elements are related.
use Rattle.bd_laws.proofs.words.Logic.{append-nil, append_assoc, ℕ, ◌≡◌, Bool, true, false, cond, List, [], ◌∷◌, ◌++◌, Option, Some, ◌⊎◌, inl, inr, refl, sym, subst, map, filter, find, zero, suc, ◌<◌, length, get_or, arith, list_any, list_all, filter_map, AllPairs, fold, is_some, option_map}
use Rattle.bd_space.specs.Words.{changed, without_first}
use Rattle.bd_laws.specs.Lists.{In, Pairs}

module _ {A : Type 0} where
  pub in_left : (x : A) (xs ys : List A) → In x xs → In x (xs ++ ys)
  in_left x [] ys h = absurd h
  in_left x (y ∷ xs) ys h = search (arith, in_left x xs ys)

  pub in_right : (x : A) (xs ys : List A) → In x ys → In x (xs ++ ys)
  in_right x [] ys h = h
  in_right x (y ∷ xs) ys h = inr (in_right x xs ys h)

  pub in_append : (x : A) (xs ys : List A) → In x (xs ++ ys) → In x xs ⊎ In x ys
  in_append x [] ys h = inr h
  in_append x (y ∷ xs) ys h = search (arith, in_append x xs ys)

  pub in_last : (x : A) (xs : List A) → In x (xs ++ x ∷ [])
  in_last x xs = in_right x xs (x ∷ []) (inl refl)

  -- of the first elements or the last one
  pub in_push : (x y : A) (xs : List A) → In x (xs ++ y ∷ []) → In x xs ⊎ (y ≡ x)
  in_push x y xs h = search (arith, in_append x xs (y ∷ []))

  module _ (xs : List A) (x : A) where
    -- What holds of the first elements and of the last one holds of all.
    pub all_push : (P : A → Type 0) → ((y : A) → In y xs → P y) → P x → (y : A) → In y (xs ++ x ∷ []) → P y
    all_push P old new y l = elim (in_push y x xs l) [ inl i ↦ old y i | inr is ↦ subst P is new ]

    -- of each two: both old, one new, both new
    pub two_push : (P : A → A → Type 0) → ((y z : A) → In y xs → In z xs → P y z) → ((y : A) → In y xs → P y x) → ((z : A) → In z xs → P x z) → P x x
        → (y z : A) → In y (xs ++ x ∷ []) → In z (xs ++ x ∷ []) → P y z
    two_push P old first second new y z l m =
        all_push (λ a. (b : A) → In b (xs ++ x ∷ []) → P a b) (λ a i. all_push (P a) (λ b j. old a b i j) (first a i)) (all_push (P x) second new) y l z m

  module _ (p : A → Bool) where
    pub in_filter : (x : A) (xs : List A) → In x (filter p xs) → In x xs × (p x ≡ true)
    in_filter x [] h = absurd h
    in_filter x (y ∷ ys) h = search (arith, in_filter x ys)

    pub filter_in : (x : A) (xs : List A) → In x xs → p x ≡ true → In x (filter p xs)
    filter_in x [] h t = absurd h
    filter_in x (y ∷ ys) h t = search (arith, filter_in x ys)

    pub in_without : (x : A) (xs : List A) → In x (without_first p xs) → In x xs
    in_without x [] h = absurd h
    in_without x (y ∷ ys) h = search (arith, in_without x ys)

    -- an element that doesn't pass stays
    pub without_in : (x : A) (xs : List A) → In x xs → p x ≡ false → In x (without_first p xs)
    without_in x [] h f = absurd h
    without_in x (y ∷ ys) h f = search (arith, without_in x ys)

    -- a test that finds something, and what it found
    pub any_found : (xs : List A) → list_any p xs ≡ true → (x : A) × In x xs × (p x ≡ true)
    any_found [] h = absurd (cc)
    any_found (y ∷ ys) h = search (arith, any_found ys)

    pub any_in : (x : A) (xs : List A) → In x xs → p x ≡ true → list_any p xs ≡ true
    any_in x [] h t = absurd h
    any_in x (y ∷ ys) h t = search (arith, any_in x ys)

    pub find_in : (x : A) (xs : List A) → find p xs ≡ Some x → In x xs × (p x ≡ true)
    find_in x [] h = absurd (cc)
    find_in x (y ∷ ys) h = search (arith, find_in x ys)

  module _ (p : A → Bool) (f : A → A) where
    -- what an element was before the change
    pub in_changed : (x : A) (xs : List A) → In x (changed p f xs) → (z : A) × In z xs × (x ≡ cond (p z) (f z) z)
    in_changed x [] h = absurd h
    in_changed x (y ∷ ys) h = search (arith, in_changed x ys)

    pub changed_in : (x : A) (xs : List A) → In x xs → In (cond (p x) (f x) x) (changed p f xs)
    changed_in x [] h = absurd h
    changed_in x (y ∷ ys) h = search (arith, changed_in x ys)

    -- a test that the change doesn't matter to
    module _ (q : A → Bool) (keeps : (x : A) → q (f x) ≡ q x) where
      pub any_changed : (xs : List A) → list_any q (changed p f xs) ≡ list_any q xs
      any_changed [] = refl
      any_changed (x ∷ xs) = search (arith, any_changed xs)

      pub find_changed : (xs : List A) → find q (changed p f xs) ≡ option_map (λ x. cond (p x) (f x) x) (find q xs)
      find_changed [] = refl
      find_changed (x ∷ xs) = search (arith, find_changed xs)

module _ {A B : Type 0} (f : A → B) where
  pub in_map : (y : B) (xs : List A) → In y (map f xs) → (x : A) × In x xs × (f x ≡ y)
  in_map y [] h = absurd h
  in_map y (x ∷ xs) h = search (arith, in_map y xs)

  pub map_in : (x : A) (xs : List A) → In x xs → In (f x) (map f xs)
  map_in x [] h = absurd h
  map_in x (y ∷ ys) h = search (arith, map_in x ys)

module _ {A B : Type 0} (f : A → Option B) where
  pub in_filter_map : (y : B) (xs : List A) → In y (filter_map f xs) → (x : A) × In x xs × (f x ≡ Some y)
  in_filter_map y [] h = absurd h
  in_filter_map y (x ∷ xs) h = search (arith, in_filter_map y xs)

  pub filter_map_in : (y : B) (x : A) (xs : List A) → In x xs → f x ≡ Some y → In y (filter_map f xs)
  filter_map_in y x [] h e = absurd h
  filter_map_in y x (z ∷ zs) h e = search (arith, filter_map_in y x zs)

-- ---- each two elements, the earlier and the later one

module _ {A : Type 0} where
  pub pairs_map : (R S : A → A → Type 0) → (xs : List A) → ((x y : A) → In x xs → In y xs → R x y → S x y) → Pairs R xs → Pairs S xs
  pairs_map R S [] k h = tt
  pairs_map R S (x ∷ xs) k h = ((λ y l. k x y (inl refl) (inr l) (h.0 y l)), pairs_map R S xs (λ a b l m. k a b (inr l) (inr m)) h.1)

  module _ (R : A → A → Type 0) where
    pub pairs_push : (y : A) (xs : List A) → Pairs R xs → ((x : A) → In x xs → R x y) → Pairs R (xs ++ y ∷ [])
    pairs_push y [] h k = ((λ z l. absurd l), tt)
    pairs_push y (x ∷ xs) h k = search (arith, in_push, pairs_push y xs h.1 (λ z l. k z (inr l)))

    pub pairs_filter : (p : A → Bool) (xs : List A) → Pairs R xs → Pairs R (filter p xs)
    pairs_filter p [] h = tt
    pairs_filter p (x ∷ xs) h = search (arith, in_filter, pairs_filter p xs h.1)

    pub pairs_changed : (p : A → Bool) (f : A → A) → ((x y : A) → R x y → R (cond (p x) (f x) x) (cond (p y) (f y) y)) → (xs : List A) → Pairs R xs → Pairs R (changed p f xs)
    pairs_changed p f k [] h = tt
    pairs_changed p f k (x ∷ xs) h =
        ((λ y l. let z = in_changed p f y xs l in subst (R (cond (p x) (f x) x)) (sym z.2) (k x z.0 (h.0 z.0 z.1))), pairs_changed p f k xs h.1)

  -- of two elements one is the earlier, or they are one
  pub pairs_either : (R : A → A → Type 0) (xs : List A) → Pairs R xs → (x y : A) → In x xs → In y xs → (x ≡ y) ⊎ (R x y ⊎ R y x)
  pairs_either R [] h x y l m = absurd l
  pairs_either R (z ∷ zs) h x y l m = search (arith, pairs_either R zs h.1 x y)

module _ {A : Type 0} (p : A → Bool) where
  pub all_in : (xs : List A) → ((x : A) → In x xs → p x ≡ true) → list_all p xs ≡ true
  all_in [] h = refl
  all_in (x ∷ xs) h = search (arith, all_in xs)

  pub in_all : (xs : List A) → list_all p xs ≡ true → (x : A) → In x xs → p x ≡ true
  in_all [] h x l = absurd l
  in_all (y ∷ ys) h x l = search (arith, in_all ys)

  pub find_some : (x : A) (xs : List A) → In x xs → p x ≡ true → is_some (find p xs) ≡ true
  find_some x [] h t = absurd h
  find_some x (y ∷ ys) h t = search (arith, find_some x ys)

-- ---- by one more at the end

module _ {A : Type 0} (P : List A → Type 0) (more : (xs : List A) (x : A) → P xs → P (xs ++ x ∷ [])) where
  grown : (rest before : List A) → P before → P (before ++ rest)
  grown [] before h = subst P (sym (append-nil before)) h
  grown (x ∷ rest) before h = subst P (append_assoc before (x ∷ []) rest) (grown rest (before ++ x ∷ []) (more before x h))

  pub by_last : P [] → (xs : List A) → P xs
  by_last h xs = grown xs [] h

-- ---- by index

at_in : {A : Type 0} (xs : List A) (i : ℕ) (d : A) → i < length xs → In (get_or xs i d) xs
at_in [] i d h = absurd (omega arith)
at_in (x ∷ xs) zero d h = inl refl
at_in (x ∷ xs) (suc i) d h = inr (at_in xs i d (omega arith))

in_at : {A : Type 0} (xs : List A) (y d : A) → In y xs → (j : ℕ) × (j < length xs) × (get_or xs j d ≡ y)
in_at [] y d h = absurd h
in_at (x ∷ xs) y d (inl e) = (zero, omega arith, e)
in_at (x ∷ xs) y d (inr h) = let k = in_at xs y d h in let lt = k.1 in (suc k.0, omega arith, k.2)

pub at_pairs : {A : Type 0} (R : A → A → Type 0) (xs : List A) → AllPairs R xs → Pairs R xs
at_pairs R [] h = tt
at_pairs R (x ∷ xs) h = (
  (λ y l. let k = in_at xs y x l in let lt = k.1 in subst (R x) k.2 (h zero (suc k.0) x (omega arith) (omega arith))),
  at_pairs R xs (λ i j d lt le. h (suc i) (suc j) d (omega arith) (omega arith)),
)

pub pairs_at : {A : Type 0} (R : A → A → Type 0) (xs : List A) → Pairs R xs → AllPairs R xs
pairs_at R [] h i j d lt le = absurd (omega arith)
pairs_at R (x ∷ xs) h zero zero d lt le = absurd (omega arith)
pairs_at R (x ∷ xs) h zero (suc j) d lt le = h.0 (get_or xs j d) (at_in xs j d (omega arith))
pairs_at R (x ∷ xs) h (suc i) zero d lt le = absurd (omega arith)
pairs_at R (x ∷ xs) h (suc i) (suc j) d lt le = pairs_at R xs h.1 i j d (omega arith) (omega arith)

-- ---- over a list

-- What holds at the start of a fold, and is kept by each of its steps over the list, holds at the end.
pub fold_keeps : {A B : Type 0} (P : B → Type 0) (f : B → A → B) (xs : List A) → ((b : B) (x : A) → In x xs → P b → P (f b x)) → (b : B) → P b → P (fold f b xs)
fold_keeps P f [] k b h = h
fold_keeps P f (x ∷ xs) k b h = fold_keeps P f xs (λ c y l. k c y (inr l)) (f b x) (k b x (inl refl) h)
