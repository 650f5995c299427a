-- Lists of codes.
use Rattle.std.specs.Prelude.{ℕ, List, [], ◌∷◌, Bool, true, false, ◌==◌, if◌then◌else◌}

-- is the code one of these?
abbrev pub is_in : List ℕ → ℕ → Bool
is_in [] code = false
is_in (x ∷ xs) code = if code == x then true else is_in xs code
