-- What rows have, and what each change leaves of it.
use Rattle.bd_buffers.proofs.Words.{All, All-head, All-tail, AllOthers, AllPairs-filter, AreRows, Bool, IsLiveRow, List, None, Option, Record, Rising, Some, all_pairs_push, ap, append-nil, arith, changed, changed_at, cond, distinct, drop, drop-cons, drop_all, ended, ends_empty, false, filter, filter-append}
use Rattle.bd_buffers.proofs.Words.{filter_passes, find, find_at, find_none, get_or, get_or-append, get_or_from_slice_get, get_or_push, hand_over, is_record_at, le-leb, length, length-map, length_changed, length_push, live, live_places, lives, lt-leb, made_of_record, nat_le, newest_all, not, option_map}
use Rattle.bd_buffers.proofs.Words.{option_to_list, pairs_changed, record_in, refl, set, slice_get, slice_get-get_or, slice_get_cases, subst, suc, sym, true, unwrap_or, zero, ℕ, [], ◌++◌, ◌+◌, ◌-◌, ◌<◌, ◌∙◌, ◌∷◌, ◌≡◌, ◌≤◌}
use Rattle.bd_buffers.proofs.{InSpace.{filter_changed, filter_kept}, Made.{find_kept}}

abbrev is_empty : Record → Bool
is_empty r = not (lives r)

abbrev pub InOrder : List Record → Type 0
InOrder rows = Rising made_of_record rows

-- ---- the end

-- the last row
last_row : (rows : List Record) (r : Record) (b : Bool) → ends_empty rows ≡ b → slice_get rows (length rows - 1) ≡ Some r → lives r ≡ not b
last_row rows r b ends is = grind (arith, false, true)

-- where every row has its buffer, so has the last
ends_full : (rows : List Record) → All (λ (r : Record). lives r ≡ true) rows → ends_empty rows ≡ false
ends_full rows all = let last = slice_get_cases rows (length rows - 1) in grind (arith, get_or_from_slice_get)

-- ---- where all were made before

-- what all live buffers have, that of a row has
pub row_has : (P : Record → Type 0) (rows : List Record) (k : ℕ) (r : Record) → slice_get rows k ≡ Some r → lives r ≡ true → All P (live rows) → P r
row_has P [] k r is t all = absurd (cc)
row_has P (x ∷ rows) zero r is t all =
    let same : x ≡ r = cc in
    subst P same (All-head P x (live rows) (subst (λ b. All P (cond b (x ∷ live rows) (live rows))) (ap lives same ∙ t) all))
row_has P (x ∷ rows) (suc k) r is t all = row_has P rows k r is t (rest (lives x) all)
  where
    rest : (b : Bool) → All P (cond b (x ∷ live rows) (live rows)) → All P (live rows)
    rest true h = All-tail P x (live rows) h
    rest false h = h

-- the last row was made before, if all live buffers were
pub last_below : (rows : List Record) (r : Record) (n : ℕ) → AreRows rows → slice_get rows (length rows - 1) ≡ Some r → All (λ b. b.made < n) (live rows) → r.made < n
last_below rows r n is last all = row_has (λ (b : Record). b.made < n) rows (length rows - 1) r last (last_row rows r false is.ends last) all

-- where all live buffers were made before, all rows were
rows_below : (rows : List Record) (n : ℕ) → AreRows rows → All (λ b. b.made < n) (live rows) → All (λ r. r.made < n) rows
rows_below rows n is all k d lt =
    let last = slice_get-get_or rows (length rows - 1) d (omega arith) in newest_all made_of_record rows _ n is.in_order last (last_below rows _ n is last all) k d lt

-- ---- what is found by its place

-- in a live row
pub found_row : (n : ℕ) (rows : List Record) (i : ℕ) (d : Record) → InOrder rows → IsLiveRow rows n i → record_in (live rows) n ≡ Some (get_or rows i d)
found_row n rows i d rising is =
    let apart = distinct made_of_record rows rising in
    let there = find_at made_of_record n rows i d apart is.within is.made_there in let left = find_kept made_of_record lives n rows apart in let t = is.lives_there d in grind arith

-- in an empty one, and where there is none
pub missed_row : (n : ℕ) (rows : List Record) (i : ℕ) (d : Record) → InOrder rows → i < length rows → ((e : Record) → (get_or rows i e).made ≡ n) → lives (get_or rows i d) ≡ false
    → record_in (live rows) n ≡ None
missed_row n rows i d rising lt at dead =
    let apart = distinct made_of_record rows rising in let there = find_at made_of_record n rows i d apart lt at in let left = find_kept made_of_record lives n rows apart in grind arith

pub no_row : (n : ℕ) (rows : List Record) → InOrder rows → AllOthers made_of_record n rows → record_in (live rows) n ≡ None
no_row n rows rising none = let found = find_none made_of_record n rows none in let left = find_kept made_of_record lives n rows (distinct made_of_record rows rising) in grind arith

-- ---- where a buffer ends

ended_live : (n : ℕ) (rows : List Record) → live (changed (is_record_at n) ended rows) ≡ filter (λ r. not (is_record_at n r)) (live rows)
ended_live n [] = refl
ended_live n (x ∷ rows) = grind (arith, ended_live n rows)

-- there is one
some_row : (rows : List Record) (i : ℕ) → i < length rows → Record
some_row rows i lt = grind arith

-- a change of one row is a change of all that were made there
pub one_changed : (f : Record → Record) (n : ℕ) (rows new : List Record) (i : ℕ) → InOrder rows → IsLiveRow rows n i → ((d : Record) → new ≡ set rows i (f (get_or rows i d))) → new ≡ changed (is_record_at n) f rows
one_changed f n rows new i rising is e =
    let d = some_row rows i is.within in
    e d ∙ sym (changed_at made_of_record f n rows i d (distinct made_of_record rows rising) is.within is.made_there)

-- what is left where a row becomes empty
pub end_left : (n : ℕ) (rows new : List Record) (i : ℕ) → InOrder rows → IsLiveRow rows n i → ((d : Record) → new ≡ set rows i (ended (get_or rows i d))) → (live new ≡ filter (λ r. not (is_record_at n r)) (live rows)) × InOrder new
end_left n rows new i rising is set_there =
    let e = one_changed ended n rows new i rising is set_there in
    (ap live e ∙ ended_live n rows, subst InOrder (sym e) (pairs_changed (is_record_at n) ended made_of_record (λ x. refl) (λ a b. a < b) rows rising))

pub packed_live : (rows : List Record) → live (live rows) ≡ live rows
packed_live rows = filter_kept lives lives (λ r t. t) rows

pub packed_rows : (rows : List Record) → AreRows rows → AreRows (live rows)
packed_rows rows is = search (arith, AllPairs-filter, ends_full, filter_passes)

-- ---- where one comes

pub one_there : (rows : List Record) (i : ℕ) (d : Record) → i < length rows → lives (get_or rows i d) ≡ true → 1 ≤ length (live_places rows)
one_there rows i d lt t = let some = row_has (λ r. 1 ≤ length (live rows)) rows i (get_or rows i d) (slice_get-get_or rows i d lt) t (λ k e lt. omega (arith, lt)) in omega (arith, some, length-map (live rows) made_of_record)

get_last : (rows : List Record) (r : Record) → slice_get (rows ++ r ∷ []) (length (rows ++ r ∷ []) - 1) ≡ Some r
get_last rows r = let len = length_push rows r in let at = get_or_push rows r r (length rows) in grind (arith, slice_get-get_or)

pub more_live : (rows : List Record) (b : Record) (t : Bool) → lives b ≡ t → live (rows ++ b ∷ []) ≡ live rows ++ cond t (b ∷ []) []
more_live rows b t e = simp (filter-append lives rows (b ∷ []), e)

pub pushed_rows : (rows : List Record) (b : Record) → AreRows rows → lives b ≡ true → All (λ x. x.made < b.made) (live rows) → AreRows (rows ++ b ∷ [])
pushed_rows rows b is t newest =
    let order = all_pairs_push (λ (x : Record) (y : Record). x.made < y.made) rows b is.in_order (rows_below rows b.made is newest) in
    record { in_order = order; ends = ap (λ o. unwrap_or (option_map is_empty o) false) (get_last rows b) ∙ ap not t }

-- ---- where the last goes, which is empty

pub popped : (rows new : List Record) (o : Option Record) → InOrder rows → ends_empty rows ≡ true → rows ≡ new ++ option_to_list o → (live new ≡ live rows) × InOrder new
popped rows new None rising ends e = grind (arith, append-nil)
popped rows new (Some r) rising ends e =
    let none = last_row rows r true ends (ap (λ xs. slice_get xs (length xs - 1)) e ∙ get_last new r) in
    (sym (ap live e ∙ more_live new r false none ∙ append-nil (live new)), λ i j d lt h. (let up = subst InOrder e rising i j d lt in grind (arith, length_push, get_or-append)))

-- ---- where a buffer is handed out

ends_stay : (p : Record → Bool) (rows : List Record) (k : ℕ) → option_map is_empty (slice_get (changed p hand_over rows) k) ≡ option_map is_empty (slice_get rows k)
ends_stay p [] k = refl
ends_stay p (x ∷ rows) k = grind (arith, ends_stay p rows)

pub handed_rows : (p : Record → Bool) (rows : List Record) → AreRows rows → AreRows (changed p hand_over rows)
handed_rows p rows is =
    let order = pairs_changed p hand_over made_of_record (λ x. refl) (λ a b. a < b) rows is.in_order in
    record { in_order = order; ends = rw (length_changed p hand_over rows, ends_stay p rows (length rows - 1)) is.ends }

pub handed_live : (n : ℕ) (rows : List Record) → live (changed (is_record_at n) hand_over rows) ≡ changed (is_record_at n) hand_over (live rows)
handed_live n rows = filter_changed lives (is_record_at n) hand_over (λ x. refl) rows

-- ---- row after row

-- the first from a place on is the first in the rows that aren't before it
pub from_point : (from : ℕ) (rows : List Record) (i : ℕ) → ((k : ℕ) (d : Record) → k < i → k < length rows → (get_or rows k d).made < from) → ((k : ℕ) (d : Record) → i ≤ k → k < length rows → from ≤ (get_or rows k d).made)
    → find (λ r. nat_le from r.made) (live rows) ≡ find lives (drop i rows)
from_point from [] zero low high = refl
from_point from [] (suc i) low high = refl
from_point from (x ∷ rows) zero low high =
    let rest = from_point from rows zero (λ k d lt h. absurd (omega arith)) (λ k d le h. high (suc k) d (omega arith) (omega arith)) in
    let here = high zero x (omega arith) (omega arith) in
    grind (arith, le-leb)
from_point from (x ∷ rows) (suc i) low high =
    let rest = from_point from rows i (λ k d lt h. low (suc k) d (omega arith) (omega arith)) (λ k d le h. high (suc k) d (omega arith) (omega arith)) in
    let here = low zero x (omega arith) (omega arith) in
    grind (arith, lt-leb)

-- of an empty row nothing is found
pub next_row : (rows : List Record) (i : ℕ) (d : Record) (t : Bool) → i < length rows → lives (get_or rows i d) ≡ t → find lives (drop i rows) ≡ cond t (Some (get_or rows i d)) (find lives (drop (i + 1) rows))
next_row rows i d t lt e = grind (arith, drop-cons)

-- nor past the rows
pub no_more : (rows : List Record) (i : ℕ) → length rows ≤ i → find lives (drop i rows) ≡ None
no_more rows i le = rw (drop_all i rows le) refl
