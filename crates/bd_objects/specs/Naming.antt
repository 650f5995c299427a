-- The names that come with references: of each object that a process comes to refer to, unless it is its own.
use Rattle.std.specs.Prelude.{ℕ, ◌≡◌, true, Bool, List, [], ◌∷◌, Option, ◌&&◌, if◌then◌else◌}
use Rattle.bd_ways.specs.Words.{list_any, Identity, Object, Reference, Name, same}
use Rattle.bd_space.specs.References.{owned_in, gives_name_to}
use Rattle.bd_space.specs.Names.{is_managers}
use Rattle.bd_records.specs.Numbers.{with_number}

-- p has a name for o afterwards, unless o is its own
abbrev pub with_name_unless : Bool → Option Identity → ℕ → List Name → Identity → List Name
with_name_unless own manager p names o = if own then names else with_number (is_managers manager o) p names o

abbrev pub with_other_name : Option Identity → List Object → ℕ → List Name → Identity → List Name
with_other_name manager objects p names o = with_name_unless (owned_in objects p o) manager p names o

-- p asked for the object, or a buffer that it received carries it
abbrev pub is_referred : List Reference → ℕ → Identity → Bool
is_referred references p o = list_any (λ r. same r.object o && gives_name_to p r.holder) references

-- each of these
abbrev pub AreReferred : List Reference → ℕ → List Identity → Type 0
AreReferred references p [] = Unit {0}
AreReferred references p (o ∷ os) = (is_referred references p o ≡ true) × AreReferred references p os
