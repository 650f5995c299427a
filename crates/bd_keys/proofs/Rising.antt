-- Lists in which a key rises: an element is found by its key alone.
use Rattle.std.proofs.Common.{◌≡◌, ℕ, zero, suc, ◌-◌, ◌<◌, ◌==◌, Bool, false, not, cond, List, [], ◌∷◌, length, get_or, Some, None, find, filter, refl, ap, sym, ◌∙◌, arith, All, eq-eqb, ne_eqb, inl, inr, Result, Ok, Err, Less, Equal, Greater}
use Rattle.std.specs.Prelude.{AllPairs, remove, MatchOption}
use Rattle.std.specs.List.{slice_get}
use Rattle.std.specs.List.Sorted.{IsNonDecreasingBy, IsBinarySearchResult}
use Rattle.std.specs.Ordering.{nat_cmp}
use Rattle.std.specs.Result.{result_ok}
use Rattle.std.proofs.lemmas.Bool.{cases_lt}
use Rattle.std.proofs.lemmas.Bool.Decides.{nat_tests}
use Rattle.std.proofs.lemmas.Cmp.{ranked}
use Rattle.std.proofs.lemmas.Option.{slice_get_within, get_or_from_slice_get}
use Rattle.std.proofs.lemmas.List.Elements.{All-head, All-tail}

module _ {A : Type 0} (R : A → A → Type 0) where
  pub pairs_head : (x : A) (xs : List A) → AllPairs R (x ∷ xs) → All (R x) xs
  pairs_head x xs pairs = λ k d h. pairs zero (suc k) d (omega arith) (omega arith)

  pub pairs_tail : (x : A) (xs : List A) → AllPairs R (x ∷ xs) → AllPairs R xs
  pairs_tail x xs pairs = λ i j d lt h. pairs (suc i) (suc j) d (omega arith) (omega arith)

module _ {A : Type 0} (key : A → ℕ) where
  abbrev pub Rising : List A → Type 0
  Rising xs = AllPairs (λ a b. key a < key b) xs

  -- no two have the same key
  abbrev pub Distinct : List A → Type 0
  Distinct xs = AllPairs (λ a b. key a ≡ key b → ⊥) xs

  abbrev pub has : ℕ → A → Bool
  has m y = key y == m

  -- none has the key
  abbrev pub AllOthers : ℕ → List A → Type 0
  AllOthers m xs = All (λ y. has m y ≡ false) xs

  abbrev pub without : ℕ → List A → List A
  without m xs = filter (λ y. not (has m y)) xs

  pub distinct : (xs : List A) → Rising xs → Distinct xs
  distinct xs rising i j d lt h = λ e. (let up = rising i j d lt h in omega (arith, up, e))

  pub non_decreasing : (xs : List A) → Rising xs → IsNonDecreasingBy key xs
  non_decreasing xs rising i j d le lt =
      elim (cases_lt i j) [
        | inl below ↦ let up = rising i j d below lt in omega (arith, up)
        | inr ge ↦ let same : i ≡ j = omega arith in rw same (omega arith)
      ]

  -- the last has the greatest key
  pub newest_all : (xs : List A) (b : A) (n : ℕ) → Rising xs → slice_get xs (length xs - 1) ≡ Some b → key b < n
      → All (λ x. key x < n) xs
  newest_all xs b n rising is low k d lt =
      let last = ap key (get_or_from_slice_get xs (length xs - 1) b d is) in
      elim (cases_lt k (length xs - 1)) [
        | inl before ↦ let up = rising k (length xs - 1) d before (omega arith) in omega (arith, up, last, low)
        | inr ge ↦ let same : k ≡ length xs - 1 = omega arith in rw same (omega (arith, last, low))
      ]

  pub newest_last : (xs : List A) (b : A) (n : ℕ) → slice_get xs (length xs - 1) ≡ Some b
      → All (λ x. key x < n) xs → key b < n
  newest_last xs b n is all =
      let last = ap key (get_or_from_slice_get xs (length xs - 1) b b is) in
      let low = all (length xs - 1) b (slice_get_within xs (length xs - 1) b is) in
      omega (arith, last, low)

  -- ---- where no element has the key

  pub find_none : (m : ℕ) (xs : List A) → AllOthers m xs → find (has m) xs ≡ None
  find_none m [] none = refl
  find_none m (x ∷ xs) none =
      let P : A → Type 0 = λ y. has m y ≡ false in
      ap (λ b. cond b (Some x) (find (has m) xs)) (All-head P x xs none)
      ∙ find_none m xs (All-tail P x xs none)

  pub filter_none : (m : ℕ) (xs : List A) → AllOthers m xs → without m xs ≡ xs
  filter_none m [] none = refl
  filter_none m (x ∷ xs) none =
      let P : A → Type 0 = λ y. has m y ≡ false in
      ap (λ b. cond (not b) (x ∷ without m xs) (without m xs)) (All-head P x xs none)
      ∙ ap (λ ys. x ∷ ys) (filter_none m xs (All-tail P x xs none))

  -- what a search by halves answers is where an element has the key, or that none has
  pub searched : (m : ℕ) (xs : List A) (r : Result ℕ ℕ) → Rising xs → IsBinarySearchResult (λ x. nat_cmp (key x) m) xs r
      → MatchOption (result_ok r) (AllOthers m xs) (λ i. (d : A) → key (get_or xs i d) ≡ m)
  searched m xs (Ok i) rising found = λ d. ranked (key (get_or xs i d)) m Equal (sym (found d))
  searched m xs (Err i) rising found = λ k d lt.
      let parted = found (λ a b e le within. let up = non_decreasing xs rising a b e le within in grind (arith, nat_tests)) in
      let here = key (get_or xs k d) in
      elim (cases_lt k i) [
        | inl before ↦
            let low = ranked here m Less (sym (parted.0 k d (omega arith) before)) in
            ne_eqb here m (λ e. absurd (omega (arith, e, low)))
        | inr ge ↦
            let high = ranked here m Greater (sym (parted.1 k d ge lt)) in
            ne_eqb here m (λ e. absurd (omega (arith, e, high)))
      ]

  -- ---- where the element at an index has it

  -- In a list without two of one key the first isn't the one that was found further on.
  pub first_differs : (m : ℕ) (x : A) (xs : List A) (i : ℕ) → Distinct (x ∷ xs) → i < length xs
      → ((d : A) → key (get_or xs i d) ≡ m) → has m x ≡ false
  first_differs m x xs i apart lt is =
      ne_eqb (key x) m (λ e. pairs_head (λ a b. key a ≡ key b → ⊥) x xs apart i x lt (e ∙ sym (is x)))

  pub rest_differ : (m : ℕ) (x : A) (xs : List A) → Distinct (x ∷ xs) → key x ≡ m → AllOthers m xs
  rest_differ m x xs apart is = λ k d lt.
      ne_eqb (key (get_or xs k d)) m (λ e. pairs_head (λ a b. key a ≡ key b → ⊥) x xs apart k d lt (is ∙ sym e))

  pub find_at : (m : ℕ) (xs : List A) (i : ℕ) (d : A) → Distinct xs → i < length xs
      → ((d : A) → key (get_or xs i d) ≡ m) → find (has m) xs ≡ Some (get_or xs i d)
  find_at m [] i d apart lt is = absurd (omega arith)
  find_at m (x ∷ xs) zero d apart lt is =
      ap (λ b. cond b (Some x) (find (has m) xs)) (eq-eqb (key x) m (is x))
  find_at m (x ∷ xs) (suc i) d apart lt is =
      ap (λ b. cond b (Some x) (find (has m) xs)) (first_differs m x xs i apart (omega arith) is)
      ∙ find_at m xs i d (pairs_tail (λ a b. key a ≡ key b → ⊥) x xs apart) (omega arith) is

  pub filter_at : (m : ℕ) (xs : List A) (i : ℕ) → Distinct xs → i < length xs
      → ((d : A) → key (get_or xs i d) ≡ m) → without m xs ≡ remove xs i
  filter_at m [] i apart lt is = absurd (omega arith)
  filter_at m (x ∷ xs) zero apart lt is =
      ap (λ b. cond (not b) (x ∷ without m xs) (without m xs)) (eq-eqb (key x) m (is x))
      ∙ filter_none m xs (rest_differ m x xs apart (is x))
  filter_at m (x ∷ xs) (suc i) apart lt is =
      ap (λ b. cond (not b) (x ∷ without m xs) (without m xs)) (first_differs m x xs i apart (omega arith) is)
      ∙ ap (λ ys. x ∷ ys)
      (filter_at m xs i (pairs_tail (λ a b. key a ≡ key b → ⊥) x xs apart) (omega arith) is)
