-- A script's number of seats: 1 to 31.
use Rattle.std.proofs.Common.{◌≡◌, ℕ, ◌+◌, ◌≤◌, List, [], ◌∷◌, Option, Some, None, refl, arith, Result, Ok, Err}
use Rattle.std.proofs.lemmas.Bool.Decides.{nat_tests}
use Rattle.bd_uapi.specs.Limits.{most_seats}
use Rattle.bd_script.specs.Numbers.{number_of}
use Rattle.bd_script.specs.Scripts.{Read, seats_by, seats_of, with_line, read_from, goes_on, ends, script_of}
use Rattle.bd_script.specs.Text.{lines, words}

number_at_most : (most : ℕ) (word : List ℕ) (n : ℕ) → number_of most word ≡ Some n → n ≤ most
unfolding number_of
number_at_most most word n e = grind (arith, nat_tests)

seats_by_most : (line : List (List ℕ)) (n : ℕ) → seats_by line ≡ Some n → n ≤ most_seats
seats_by_most [] n e = absurd cc
seats_by_most (name ∷ []) n e = absurd cc
seats_by_most (name ∷ count ∷ []) n e = let h = number_at_most most_seats count n in grind (arith, nat_tests)
seats_by_most (name ∷ count ∷ more ∷ rest) n e = absurd cc

seats_of_most : (line : List ℕ) (n : ℕ) → seats_of line ≡ Some n → n ≤ most_seats
unfolding seats_of
seats_of_most line n e = seats_by_most (words line) n e

with_line_most : (number : ℕ) (line : List ℕ) (so_far more : Read) → with_line number line so_far ≡ Some more → so_far.seats ≤ most_seats → more.seats ≤ most_seats
unfolding with_line
with_line_most number line so_far more e le = let h = seats_of_most line more.seats in grind (arith, nat_tests)

read_from_most : (number : ℕ) (all : List (List ℕ)) (so_far more : Read) → read_from number all so_far ≡ Ok more → so_far.seats ≤ most_seats → more.seats ≤ most_seats
read_from_most number [] so_far more e le = grind arith
read_from_most number (line ∷ rest) so_far more e le = by (with_line number line so_far) refl (λ one. read_from_most (number + 1) rest one more) e
  where
    by : (o : Option Read) → with_line number line so_far ≡ o → ((one : Read) → read_from (number + 1) rest one ≡ Ok more → one.seats ≤ most_seats → more.seats ≤ most_seats) → goes_on (read_from (number + 1) rest) number o ≡ Ok more → more.seats ≤ most_seats
    by None was then is = absurd cc
    by (Some one) was then is = then one is (with_line_most number line so_far one was le)

pub script_seats : (text : List ℕ) (all : Read) → script_of text ≡ Ok all → (1 ≤ all.seats) × (all.seats ≤ most_seats)
unfolding script_of
script_seats text all e = by (read_from 1 (lines text) (record { seats = 0; lines = [] })) refl e
  where
    by : (r : Result Read ℕ) → read_from 1 (lines text) (record { seats = 0; lines = [] }) ≡ r → ends r ≡ Ok all → (1 ≤ all.seats) × (all.seats ≤ most_seats)
    by (Err number) was is = absurd cc
    by (Ok one) was is = let h = read_from_most 1 (lines text) (record { seats = 0; lines = [] }) one was (omega arith) in grind (arith, nat_tests)
