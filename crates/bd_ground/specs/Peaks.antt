-- Bounds of numbers, 64 by 64.
use Rattle.std.specs.Prelude.{ℕ, ◌*◌, ◌/◌, ◌≤◌, List, length, slice_index}

-- each number is bounded by its part's
abbrev pub AreBelow : List ℕ → List ℕ → Type 0
AreBelow numbers parts = (i : ℕ) → slice_index numbers i ≤ slice_index parts (i / 64)

pub record ArePeaks (numbers parts wholes : List ℕ) : Type 0 where
  pub lower : AreBelow numbers parts
  pub upper : AreBelow parts wholes
  pub long : length numbers ≤ 64 * length parts
  pub longer : length parts ≤ 64 * length wholes
