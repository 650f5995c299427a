-- The objects of a parcel that its own step doesn't make: what follows from a delivery, follows at these.
use Rattle.std.specs.Prelude.{ℕ, ◌==◌, ◌&&◌, List, Option, Some, None, if◌then◌else◌}
use Rattle.std.specs.List.{filter_map}
use Rattle.bd_ways.specs.Words.{Identity, Item}
use Rattle.bd_uapi.specs.Kinds.{is_own}
use Rattle.bd_ways.specs.Local.{ObjectTest, is_among}

-- an own object made by the step of this place isn't known before
abbrev pub known_before : ℕ → Item → Option Identity
known_before place x = if is_own x.flat.kind && (x.object.place == place) then None else Some x.object

abbrev pub are_known_before : ℕ → List Item → ObjectTest
are_known_before place items = is_among (filter_map (known_before place) items)
