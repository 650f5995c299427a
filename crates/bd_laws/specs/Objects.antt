-- Objects, and what refers to them, between two steps.
use Rattle.std.specs.Prelude.{◌≡◌, List, ℕ, ◌<◌, ◌==◌, Bool, true, false, ◌&&◌, ◌||◌, nat_lt, Option, Some}
use Rattle.bd_ways.specs.Words.{Identity, Object, Reference, Manager, Name, Space}
use Rattle.bd_laws.specs.Lists.{In, Pairs}

-- One of these objects has this identity.
abbrev pub Here : List Object → Identity → Type 0
Here objects o = (x : Object) × In x objects × (x.id ≡ o)

-- The two objects don't have one identity.
abbrev pub Differ : Object → Object → Type 0
Differ x y = x.id ≡ y.id → ⊥

-- Whether the first object was made before the second: by an earlier step, or before it by the same one.
abbrev pub is_earlier : Identity → Identity → Bool
is_earlier o i = nat_lt o.place i.place || ((o.place == i.place) && nat_lt o.index i.index)

abbrev pub Earlier : Object → Object → Type 0
Earlier x y = is_earlier x.id y.id ≡ true

-- The second object wasn't made before the first.
abbrev pub NotLater : Identity → Identity → Type 0
NotLater o i = is_earlier i o ≡ false

-- One of these references is to the object.
abbrev pub Held : List Reference → Identity → Type 0
Held references o = (r : Reference) × In r references × (r.object ≡ o)

-- each reference's object is there, the manager's is held strongly by the context, and objects stand in the order in which
-- they were made, by steps below n
pub record Kept (n : ℕ) (manager : Option Identity) (objects : List Object) (references : List Reference) : Type 0 where
  pub refs : (r : Reference) → In r references → Here objects r.object
  pub manages : (o : Identity) → manager ≡ Some o → (r : Reference) × In r references × (r.object ≡ o) × (r.holder ≡ Manager) × (r.strong ≡ true)
  pub below : (x : Object) → In x objects → x.id.place < n
  pub in_order : Pairs Earlier objects

-- what a name stands for is held
abbrev pub Named : List Name → List Reference → Type 0
Named names references = (m : Name) → In m names → Held references m.object

-- `Kept`, of the space's own objects and references and for as many steps as it counts; and each name's object is held.
pub record KeptBefore (z : Space) : Type 0 where
  pub kept : Kept z.steps z.manager z.objects z.references
  pub named : Named z.names z.references
