-- The least place that fits.
use Rattle.bd_buffers.proofs.Words.{All-weaker, AllPass-from_list_all, Bool, Buffer, CanHold, Cause, Err, IfErr, IfOk, IsFree, IsInBudget, IsLeastFree, IsTrue, IsWindow, List, NoRoom, None, Ok, Option, OverBudget, Refuses, Result, Some, Stands, Window, and_then, arith, false, fits_in, least}
use Rattle.bd_buffers.proofs.Words.{list_all-from_AllPass, needed, ok_or, one_way_size, option_map, over_budget_in, refl, start_for, start_in, suc, sym, true, unless, when, zero, ℕ, ◌%◌, ◌&&◌, ◌*◌, ◌+◌, ◌/◌, ◌<◌, ◌≡◌, ◌≤◌}

-- ---- the least number that passes

-- what the least number is
pub least_says : (p : ℕ → Bool) (n k m : ℕ) → least n k p ≡ Some m → (k ≤ m) × (m < k + n) × (p m ≡ true) × ((j : ℕ) → k ≤ j → j < m → p j ≡ false)
least_says p zero k m e = cc
least_says p (suc n) k m e = let rest = least_says p n (k + 1) m in grind (arith, true, false)

pub least_misses : (p : ℕ → Bool) (n k : ℕ) → least n k p ≡ None → (j : ℕ) → k ≤ j → j < k + n → p j ≡ false
least_misses p zero k e j low high = absurd (omega arith)
least_misses p (suc n) k e j low high = let rest = least_misses p n (k + 1) in grind (arith, true, false)

-- ---- room

pub fits_free : (size : ℕ) (buffers : List Buffer) (n p : ℕ) → p % 8 ≡ 0 → fits_in size buffers n p ≡ true → IsFree size buffers n p
fits_free size buffers n p aligned fits = search (arith, AllPass-from_list_all, All-weaker)

pub free_fits : (size : ℕ) (buffers : List Buffer) (n p : ℕ) → IsFree size buffers n p → fits_in size buffers n p ≡ true
free_fits size buffers n p room = search (arith, list_all-from_AllPass, All-weaker)

-- ---- the place

eight_times : (q : ℕ) → q % 8 ≡ 0 → q ≡ 8 * (q / 8)
eight_times q aligned = omega arith

some_place : (size : ℕ) (buffers : List Buffer) (n p : ℕ) (o : Option ℕ) → least (size / 8) 0 (λ j. fits_in size buffers n (8 * j)) ≡ o
    → option_map (λ j. 8 * j) o ≡ Some p → IsLeastFree size buffers n p
some_place size buffers n p None e f = cc
some_place size buffers n p (Some k) e f =
    let is = least_says (λ j. fits_in size buffers n (8 * j)) (size / 8) 0 k e in
    let at : 8 * k ≡ p = cc in
    rw (← at) (record {
      room = fits_free size buffers n (8 * k) (omega arith) is.2;
      least = λ q room. (let missed = is.3 (q / 8) in let met = free_fits size buffers n (8 * (q / 8)) (rw (← eight_times q room.aligned) room) in grind arith);
    })

-- the place has the least room
pub start_says : (size : ℕ) (buffers : List Buffer) (n p : ℕ) → start_in size buffers n ≡ Some p → IsLeastFree size buffers n p
unfolding start_in
start_says size buffers n p e = some_place size buffers n p _ refl e

no_place : (size : ℕ) (buffers : List Buffer) (n p : ℕ) (o : Option ℕ) → 8 ≤ n → least (size / 8) 0 (λ j. fits_in size buffers n (8 * j)) ≡ o
    → option_map (λ j. 8 * j) o ≡ None → IsFree size buffers n p → ⊥
no_place size buffers n p (Some k) filled e f room = cc
no_place size buffers n p None filled e f room =
    let missed = least_misses (λ j. fits_in size buffers n (8 * j)) (size / 8) 0 e (p / 8) in
    let met = free_fits size buffers n (8 * (p / 8)) (rw (← eight_times p room.aligned) room) in
    grind arith

-- where there is no place, there is no room
pub no_start_says : (size : ℕ) (buffers : List Buffer) (n : ℕ) → 8 ≤ n → start_in size buffers n ≡ None → (p : ℕ) → IsFree size buffers n p → ⊥
unfolding start_in
no_start_says size buffers n filled e p room = no_place size buffers n p _ filled refl e room

-- where the least room is, there is the place
pub start_at : (size : ℕ) (buffers : List Buffer) (n p : ℕ) (o : Option ℕ) → start_in size buffers n ≡ o → 8 ≤ n → IsLeastFree size buffers n p → o ≡ Some p
start_at size buffers n p None e filled is = absurd (no_start_says size buffers n filled e p is.room)
start_at size buffers n p (Some q) e filled is = let found = start_says size buffers n q e in let up = is.least q found.room in let down = found.least p is.room in grind arith

-- where there is no room, there is no place
pub no_start_at : (size : ℕ) (buffers : List Buffer) (n : ℕ) (o : Option ℕ) → start_in size buffers n ≡ o → ((p : ℕ) → IsFree size buffers n p → ⊥) → o ≡ None
no_start_at size buffers n None e none = refl
no_start_at size buffers n (Some p) e none = absurd (none p (start_says size buffers n p e).room)

-- ---- the place and the budget

pub record IsGiven (size : ℕ) (buffers : List Buffer) (one_way : Bool) (n p : ℕ) : Type 0 where
  pub least : IsLeastFree size buffers n p
  pub budget : IsTrue one_way → IsInBudget size buffers n

in_budget : (size : ℕ) (buffers : List Buffer) (n : ℕ) (one_way : Bool) → (one_way && over_budget_in size buffers n) ≡ false → IsTrue one_way → IsInBudget size buffers n
unfolding over_budget_in
in_budget size buffers n one_way e t = grind arith

over_budget : (size : ℕ) (buffers : List Buffer) (n : ℕ) (one_way : Bool) → (one_way && over_budget_in size buffers n) ≡ true → IsTrue one_way × (size < 2 * (one_way_size buffers + n))
unfolding over_budget_in
over_budget size buffers n one_way e = search arith

refused : (size : ℕ) (buffers : List Buffer) (one_way : Bool) (n : ℕ) (x : Cause) (o : Option ℕ) (over : Bool) → 8 ≤ n → start_in size buffers n ≡ o
    → (one_way && over_budget_in size buffers n) ≡ over → and_then (ok_or o NoRoom) (unless (when over OverBudget)) ≡ Err x → Refuses size buffers one_way n x
refused size buffers one_way n x None over filled e f g = grind (arith, no_start_says)
refused size buffers one_way n x (Some q) true filled e f g =
    let same : OverBudget ≡ x = cc in
    let over = over_budget size buffers n one_way f in
    rw (← same) (over.0, (q, (start_says size buffers n q e).room), over.1)
refused size buffers one_way n x (Some q) false filled e f g = cc

-- what a place that is given has
pub given_says : (size : ℕ) (buffers : List Buffer) (one_way : Bool) (n p : ℕ) → start_for size buffers one_way n ≡ Ok p → IsGiven size buffers one_way n p
unfolding start_for
given_says size buffers one_way n p e = let says = start_says size buffers n p in let budget = in_budget size buffers n one_way in grind arith

-- when a place is refused
pub refused_says : (size : ℕ) (buffers : List Buffer) (one_way : Bool) (n : ℕ) (x : Cause) → 8 ≤ n → start_for size buffers one_way n ≡ Err x → Refuses size buffers one_way n x
unfolding start_for
refused_says size buffers one_way n x filled e = refused size buffers one_way n x _ _ filled refl refl e

-- what is larger than the window has no place
pub too_large : (size : ℕ) (buffers : List Buffer) (one_way : Bool) (n : ℕ) → size < n → start_for size buffers one_way n ≡ Err NoRoom
unfolding start_for
too_large size buffers one_way n large = let none = no_start_at size buffers n _ refl in grind arith

-- ---- what the answers of `place` say

-- the answer in the words of what the window stands for
pub for_all : (w : Window) (size : ℕ) (live : List Buffer) (one_way : Bool) (n : ℕ) (r : Result ℕ Cause) → r ≡ start_for w.size w.buffers one_way n → Stands w size live
    → r ≡ start_for size live one_way n
for_all w size live one_way n r e is = rw (← is.size_is, ← is.buffers_are) e

pub can_take_of : (w : Window) (one_way : Bool) (n : ℕ) (r : Result ℕ Cause) → r ≡ start_for w.size w.buffers one_way n → IfOk r (λ p. CanHold w one_way n p)
unfolding CanHold
can_take_of w one_way n r e = grind arith

pub least_of : (size : ℕ) (buffers : List Buffer) (one_way : Bool) (n : ℕ) (r : Result ℕ Cause) → r ≡ start_for size buffers one_way n → IfOk r (λ p. IsLeastFree size buffers n p)
least_of size buffers one_way n r e = let says = given_says size buffers one_way n in grind arith

pub budget_of : (size : ℕ) (buffers : List Buffer) (one_way : Bool) (n : ℕ) (r : Result ℕ Cause) → r ≡ start_for size buffers one_way n → IfOk r (λ p. IsTrue one_way → IsInBudget size buffers n)
budget_of size buffers one_way n (Ok p) e = (given_says size buffers one_way n p (sym e)).budget
budget_of size buffers one_way n (Err x) e = tt

pub cause_of : (size : ℕ) (buffers : List Buffer) (one_way : Bool) (bytes offsets : ℕ) (r : Result ℕ Cause) → r ≡ start_for size buffers one_way (needed bytes offsets)
    → IfErr r (λ x. Refuses size buffers one_way (needed bytes offsets) x)
cause_of size buffers one_way bytes offsets r e = grind (arith, refused_says)

-- what a window can hold lies inside it
pub holds_inside : (w : Window) (one_way : Bool) (n p : ℕ) → CanHold w one_way n p → p + n ≤ w.size
unfolding CanHold
holds_inside w one_way n p can = (given_says w.size w.buffers one_way n p can).least.room.inside

pub fits_whole : (size : ℕ) (bs : List Buffer) (n : ℕ) (r : Result ℕ Cause) → IsWindow size bs → IfOk r (λ p. IsLeastFree size bs n p) → IfOk r (λ p. n ≤ 4194304)
fits_whole size bs n r is least = search arith
