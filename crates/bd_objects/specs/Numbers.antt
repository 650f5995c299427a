-- The limit of the numbers (handles) that new names get.
use Rattle.std.specs.Prelude.{◌≡◌, true, List, filter}
use Rattle.bd_ways.specs.Words.{Object, Reference, Name, Space}
use Rattle.bd_space.specs.Names.{is_named_in, names_go, has_number_past_limit}

-- of the names that stay one has a number past the limit
abbrev pub IsPastLimit : List Object → List Reference → List Name → Type 0
IsPastLimit objects references names =
    has_number_past_limit (filter (λ m. is_named_in objects references m.process m.object) names) ≡ true

abbrev pub SpaceIsPastLimit : Space → Type 0
SpaceIsPastLimit s = has_number_past_limit (names_go s).names ≡ true
