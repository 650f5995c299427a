-- The lines of each seat, in a pile of their own.
use Rattle.std.specs.Prelude.{◌≡◌, ◌==◌, ◌<◌, ℕ, List, [], ◌∷◌, ◌++◌, length, get_or, if◌then◌else◌}
use Rattle.bd_script.specs.declared.script.Line.{Line}

-- one seat's lines, in their order, each as a line of the first of one seat
abbrev pub lines_of : ℕ → List Line → List Line
lines_of seat [] = []
lines_of seat (l ∷ ls) = if l.seat == seat then (record l { seat = 0 }) ∷ lines_of seat ls else lines_of seat ls

abbrev pub pile_at : List (List Line) → ℕ → List Line
pile_at piles seat = get_or piles seat []

-- each seat has a pile, of its lines
pub record ArePiles (seats : ℕ) (lines : List Line) (piles : List (List Line)) : Type 0 where
  pub many : length piles ≡ seats
  pub each : (k : ℕ) → k < seats → pile_at piles k ≡ lines_of k lines

-- one line more is in the pile of its seat, behind all others there
pub record IsPut (line : Line) (old new : List (List Line)) : Type 0 where
  pub many : length new ≡ length old
  pub each : (k : ℕ) → k < length old → pile_at new k ≡ pile_at old k ++ lines_of k (line ∷ [])
