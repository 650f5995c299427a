-- The objects that a buffer carries.
use Rattle.std.specs.Prelude.{ℕ, ◌==◌, Bool, false, List, map, filter}
use Rattle.bd_ways.specs.Words.{Identity, Reference, Holder, Carried}

-- the buffer made there carries the object
abbrev pub is_carried_by : ℕ → Holder → Bool
is_carried_by made (Carried b q) = b == made
is_carried_by made _ = false

-- the objects that the buffer made there carries, by their references in the order of their identities: one for each
-- object of its parcel, in the parcel's order
abbrev pub carried_in : List Reference → ℕ → List Identity
carried_in references made = map (λ r. r.object) (filter (λ r. is_carried_by made r.holder) references)
