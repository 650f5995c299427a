-- The objects, references and names of a delivery.
use Rattle.std.specs.Prelude.{ℕ, ◌≡◌, ◌&&◌, ◌||◌, Bool, true, List, Option, is_some, map}
use Rattle.bd_ways.specs.Words.{list_all, Identity, Item, Name, Object, Space}
use Rattle.bd_space.specs.References.{object_in, owned_in}
use Rattle.bd_space.specs.Names.{assign_numbers, number_in}
use Rattle.bd_space.specs.Parcels.{object_of_item}
use Rattle.bd_space.specs.Delivery.{make_objects, refer}

-- these are made, the receiver's new buffer refers to the items' objects and the target, and each that the receiver is
-- to name gets a number
abbrev pub delivered : Space → ℕ → List Object → List Item → Option Identity → Space
delivered s receiver made items target =
    assign_numbers (refer (make_objects s made) receiver items target) receiver (map object_of_item items)

-- the object is there, and the receiver's own or named by it
abbrev pub is_ready : List Object → List Name → ℕ → Identity → Bool
is_ready objects names q o = is_some (object_in objects o) && (owned_in objects q o || is_some (number_in names q o))

-- each item's object
abbrev pub AreReady : List Object → List Name → ℕ → List Item → Type 0
AreReady objects names q items = list_all (λ x. is_ready objects names q x.object) items ≡ true
