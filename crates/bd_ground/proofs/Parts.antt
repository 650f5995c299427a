-- What parts are bounded by, where a number is written or more come.
use Rattle.std.proofs.{Common.{All, List, ap, arith, get_or, length, set, subst, ℕ, ◌*◌, ◌+◌, ◌-◌, ◌/◌, ◌<◌, ◌∙◌, ◌≡◌, ◌≤◌}, lemmas.List.{get_or-set_other, get_or-set_same, length-set}}
use Rattle.std.proofs.lemmas.List.Edits.{get_or-between, length-between}
use Rattle.std.specs.List.{between}
use Rattle.bd_ground.specs.Peaks.{AreBelow, ArePeaks}

-- what holds of each of a part holds at its indices
pub part_has : {X : Type 0} (P : X → Type 0) (xs : List X) (i j k : ℕ) (d : X) → All P (between i j xs) → j ≤ length xs → i ≤ k → k < j → P (get_or xs k d)
part_has P xs i j k d all end from to =
    let back : i + (k - i) ≡ k = omega arith in
    subst P (get_or-between xs i j (k - i) d (omega arith) ∙ ap (λ m. get_or xs m d) back) (all (k - i) d (omega (arith, length-between xs i j end)))

-- where a number is written and its part's is made anew
pub below_set : (numbers parts : List ℕ) (i n g : ℕ) → AreBelow numbers parts → i / 64 < length parts
    → ((j : ℕ) → j / 64 ≡ i / 64 → get_or (set numbers i n) j 0 ≤ g) → AreBelow (set numbers i n) (set parts (i / 64) g)
below_set numbers parts i n g below lt made j = search (arith, get_or-set_same, get_or-set_other)

pub below_same : (xs ys ps qs : List ℕ) → ((j : ℕ) → get_or ys j 0 ≡ get_or xs j 0) → ((j : ℕ) → get_or qs j 0 ≡ get_or ps j 0) → AreBelow xs ps → AreBelow ys qs
below_same xs ys ps qs s t below j = rw (s j, t (j / 64)) (below j)

pub peaks_set : (numbers parts wholes : List ℕ) (i n g h : ℕ) → ArePeaks numbers parts wholes → i < length numbers
    → ((j : ℕ) → j / 64 ≡ i / 64 → get_or (set numbers i n) j 0 ≤ g)
    → ((j : ℕ) → j / 64 ≡ i / 64 / 64 → get_or (set parts (i / 64) g) j 0 ≤ h)
    → ArePeaks (set numbers i n) (set parts (i / 64) g) (set wholes (i / 64 / 64) h)
peaks_set numbers parts wholes i n g h p lt made more = grind (arith, below_set, length-set)

-- behind which whole, in it behind which part, and in it behind which number the first is
pub below_first : (numbers parts wholes : List ℕ) (n w p k : ℕ) → ArePeaks numbers parts wholes
    → ((j : ℕ) → 0 ≤ j → j < w → get_or wholes j 0 < n)
    → ((j : ℕ) → w * 64 ≤ j → j < p → get_or parts j 0 < n)
    → ((j : ℕ) → p * 64 ≤ j → j < k → get_or numbers j 0 < n)
    → (j : ℕ) → j < k → get_or numbers j 0 < n
below_first numbers parts wholes n w p k is whole part number j lt = search arith
