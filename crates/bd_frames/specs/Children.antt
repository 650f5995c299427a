-- How many children the frames have, counted in their rows.
use Rattle.std.specs.{Prelude.{ℕ, ◌≡◌, ◌==◌, Bool, List}, List.{All, count_by}}
use Rattle.bd_ways.specs.Words.{Frame, is_some_and}
use Rattle.bd_frames.specs.{declared.frame.Row.{Row}, Places.{place}}

-- the frame's parent was made there
abbrev pub is_child_at : ℕ → Frame → Bool
is_child_at made f = is_some_and f.parent (λ m. m == made)

-- each row counts how many of the frames have it as their parent
abbrev pub AreChildren : List Frame → List Row → Type 0
AreChildren l = All (λ r. r.children ≡ count_by (is_child_at (place r)) l)
