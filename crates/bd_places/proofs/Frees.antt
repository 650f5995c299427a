-- How the free places of a vector change with it, and that the heap's top is the least of them.
use Rattle.std.proofs.Common.{◌≡◌, ℕ, zero, suc, ◌+◌, ◌<◌, ◌≤◌, ◌==◌, true, cond, List, [], ◌∷◌, ◌++◌, length, Option, Some, None, is_some, get_or, set, count_by, refl, sym, ◌∙◌, arith, slice_index_or}
use Rattle.std.specs.BinaryHeap.{IsUpperBound}
use Rattle.std.specs.Ordering.{nat_cmp}
use Rattle.std.specs.List.Sorted.{IsPermutation}
use Rattle.std.specs.declared.cmp.Reverse.{Reverse}
use Rattle.std.proofs.lemmas.List.Sorted.{sum_by_pushed, sum_by_popped}
use Rattle.std.proofs.lemmas.List.Sums.{sum_by-cons, sum_by-set, sum_by_push}
use Rattle.bd_places.specs.Free.{is_place, free_at}

module _ {T : Type 0} where
  -- only the place that is written becomes free, or is so no longer
  pub free_set : (xs : List (Option T)) (i : ℕ) (y : Option T) (j : ℕ) → i < length xs → free_at (set xs i y) j ≡ cond (i == j) (cond (is_some y) 0 1) (free_at xs j)
  free_set [] i y j h = absurd (omega arith)
  free_set (x ∷ xs) zero y zero h = grind arith
  free_set (x ∷ xs) zero y (suc j) h = grind arith
  free_set (x ∷ xs) (suc i) y zero h = grind arith
  free_set (x ∷ xs) (suc i) y (suc j) h = grind (arith, free_set xs i y j)

  pub free_push : (xs : List (Option T)) (v : T) (j : ℕ) → free_at (xs ++ Some v ∷ []) j ≡ free_at xs j
  free_push [] v zero = refl
  free_push [] v (suc j) = refl
  free_push (x ∷ xs) v zero = refl
  free_push (x ∷ xs) v (suc j) = free_push xs v j

  pub count_set : (xs : List (Option T)) (i : ℕ) (y : Option T) → i < length xs
      → count_by is_some (set xs i y) + cond (is_some (get_or xs i None)) 1 0 ≡ count_by is_some xs + cond (is_some y) 1 0
  count_set xs i y h = sum_by-set (λ (x : Option T). cond (is_some x) 1 0) xs i y None h

  pub count_push : (xs : List (Option T)) (v : T) → count_by is_some (xs ++ Some v ∷ []) ≡ count_by is_some xs + 1
  count_push xs v = sum_by_push (λ (x : Option T). cond (is_some x) 1 0) xs (Some v)

  pub get_set : (xs : List (Option T)) (i : ℕ) (y : Option T) (j : ℕ) → i < length xs → get_or (set xs i y) j None ≡ cond (i == j) y (get_or xs j None)
  get_set [] i y j h = absurd (omega arith)
  get_set (x ∷ xs) zero y zero h = grind arith
  get_set (x ∷ xs) zero y (suc j) h = grind arith
  get_set (x ∷ xs) (suc i) y zero h = grind arith
  get_set (x ∷ xs) (suc i) y (suc j) h = grind (arith, get_set xs i y j)

  pub free_within : (xs : List (Option T)) (i : ℕ) → 0 < free_at xs i → i < length xs
  free_within [] i h = absurd (omega arith)
  free_within (x ∷ xs) zero h = grind arith
  free_within (x ∷ xs) (suc i) h = grind (arith, free_within xs i)

  pub free_none : (xs : List (Option T)) (i : ℕ) → 0 < free_at xs i → get_or xs i None ≡ None
  free_none [] i h = refl
  free_none (None ∷ xs) zero h = refl
  free_none (Some x ∷ xs) zero h = absurd (omega arith)
  free_none (x ∷ xs) (suc i) h = free_none xs i h

  pub live_some : (xs : List (Option T)) (i : ℕ) → i < length xs → free_at xs i ≡ 0 → is_some (get_or xs i None) ≡ true
  live_some [] i h e = absurd (omega arith)
  live_some (None ∷ xs) zero h e = absurd (omega arith)
  live_some (Some x ∷ xs) zero h e = refl
  live_some (x ∷ xs) (suc i) h e = grind (arith, live_some xs i)

  pub some_within : (xs : List (Option T)) (i : ℕ) → is_some (get_or xs i None) ≡ true → i < length xs
  some_within [] i h = absurd (cc)
  some_within (x ∷ xs) zero h = grind arith
  some_within (x ∷ xs) (suc i) h = grind (arith, some_within xs i)

  pub some_not_free : (xs : List (Option T)) (i : ℕ) → is_some (get_or xs i None) ≡ true → free_at xs i ≡ 0
  some_not_free [] i h = refl
  some_not_free (None ∷ xs) zero h = absurd (cc)
  some_not_free (Some x ∷ xs) zero h = refl
  some_not_free (x ∷ xs) (suc i) h = some_not_free xs i h

  pub past_none : (xs : List (Option T)) (i : ℕ) → length xs ≤ i → get_or xs i None ≡ None
  past_none [] i h = refl
  past_none (x ∷ xs) zero h = absurd (omega arith)
  past_none (x ∷ xs) (suc i) h = grind (arith, past_none xs i)

-- the top counts among what the heap has
abbrev one : ℕ → Reverse ℕ → ℕ
one i z = cond (is_place i z) 1 0

pub first_in : (x : Reverse ℕ) (ys : List (Reverse ℕ)) → 0 < length ys → x ≡ slice_index_or ys 0 x → 0 < count_by (is_place x.0) ys
first_in x [] h e = absurd (omega arith)
first_in x (y ∷ ys) h e = grind (arith, e, sum_by-cons (one x.0) y ys)

-- below the top the heap has nothing
pub none_before : (x : Reverse ℕ) (ys : List (Reverse ℕ)) → IsUpperBound (λ x y. nat_cmp y.0 x.0) x ys → (j : ℕ) → j < x.0 → count_by (is_place j) ys ≡ 0
none_before x [] h j lt = refl
none_before x (y ∷ ys) h j lt = grind (arith, none_before x ys h.1 j, h.0, sum_by-cons (one j) y ys)

-- a pop counts one of its place less, a push one more
pub popped : (x : Reverse ℕ) (xs ys : List (Reverse ℕ)) → IsPermutation xs (x ∷ ys) → (i : ℕ) → count_by (is_place i) ys + one i x ≡ count_by (is_place i) xs
popped x xs ys h i = sum_by_popped (one i) x xs ys h

pub pushed : (x : Reverse ℕ) (xs ys : List (Reverse ℕ)) → IsPermutation (x ∷ xs) ys → (i : ℕ) → count_by (is_place i) ys ≡ one i x + count_by (is_place i) xs
pushed x xs ys h i = sum_by_pushed (one i) x xs ys h

pub empty_heap : (i : ℕ) (xs : List (Reverse ℕ)) → length xs ≡ 0 → count_by (is_place i) xs ≡ 0
empty_heap i [] h = refl
empty_heap i (x ∷ xs) h = absurd (omega arith)

module _ {T : Type 0} where
  pub free_few : (xs : List (Option T)) (i : ℕ) → free_at xs i ≤ 1
  free_few [] i = omega arith
  free_few (None ∷ xs) zero = omega arith
  free_few (Some x ∷ xs) zero = omega arith
  free_few (x ∷ xs) (suc i) = free_few xs i

  -- still the heap has what is free: after its top was popped and that place written
  pub frees_taken : (xs : List (Option T)) (x : Reverse ℕ) (v : T) (old new : List (Reverse ℕ)) → x.0 < length xs → IsPermutation old (x ∷ new)
      → ((i : ℕ) → count_by (is_place i) old ≡ free_at xs i) → (i : ℕ) → count_by (is_place i) new ≡ free_at (set xs x.0 (Some v)) i
  frees_taken xs x v old new h moved frees i = grind (arith, frees i, popped x old new moved i, free_set xs x.0 (Some v) i h, free_few xs i)

  -- after a value was put behind a vector that is full
  pub frees_behind : (xs : List (Option T)) (v : T) (old new : List (Reverse ℕ)) → length old ≡ 0 → length new ≡ 0
      → ((i : ℕ) → count_by (is_place i) old ≡ free_at xs i) → (i : ℕ) → count_by (is_place i) new ≡ free_at (xs ++ Some v ∷ []) i
  frees_behind xs v old new none none' frees i = empty_heap i new none' ∙ sym (empty_heap i old none) ∙ frees i ∙ sym (free_push xs v i)

  -- after a place was emptied and pushed
  pub frees_given : (xs : List (Option T)) (x : ℕ) (old new : List (Reverse ℕ)) → is_some (get_or xs x None) ≡ true
      → ((j : ℕ) → count_by (is_place j) new ≡ cond (x == j) 1 0 + count_by (is_place j) old)
      → ((i : ℕ) → count_by (is_place i) old ≡ free_at xs i) → (i : ℕ) → count_by (is_place i) new ≡ free_at (set xs x None) i
  frees_given xs x old new here more frees i = grind (arith, frees i, more i, free_set xs x None i (some_within xs x here), some_not_free xs x here)
