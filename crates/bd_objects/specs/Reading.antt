-- What an owner owes once it has read what it is to be told.
use Rattle.std.specs.Prelude.{◌≡◌, Bool, true, false, List, [], ◌∷◌, ◌++◌, if◌then◌else◌}
use Rattle.bd_ways.specs.Words.{Identity, Reference}
use Rattle.bd_space.specs.References.{held_in, strong_in}

-- the strengths of the acknowledgements: a weak one, and a strong one
abbrev pub owed : Bool → Bool → List Bool
owed weak strong = (if weak then (false ∷ []) else []) ++ (if strong then (true ∷ []) else [])

-- these hold what the others do, and strongly what those do
abbrev pub HoldsAlike : List Reference → List Reference → Type 0
HoldsAlike these others = (o : Identity) → (held_in others o ≡ held_in these o) × (strong_in others o ≡ strong_in these o)
