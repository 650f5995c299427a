-- When the records are those of a space's objects and references.
use Rattle.std.specs.Prelude.{Bool, List, None, Option, Some, false, is_some, length, min, option_map, true, ℕ, ◌-◌, ◌==◌, ◌≡◌, ◌≤◌}
use Rattle.bd_ways.specs.Words.{Identity, Object, Reference}
use Rattle.bd_space.specs.References.{gives_name_to, is_asked_by, object_in, owned_in}
use Rattle.bd_records.specs.{Buffers.{BuffersAre, buffer_room}, Counted.{CountsAre}, Names.{name_at}, Objects.{object_room, row_at}, Owned.{OwnedAre, own_room}, declared.{records.Records.{Records}, row.ObjectRow.{ObjectRow}}}

-- there is a record, and the process owns its object
abbrev pub is_owner : ℕ → Option ObjectRow → Bool
is_owner p None = false
is_owner p (Some w) = w.object.owner == p

pub record RecordsAre (t : Records) (objects : List Object) (l : List Reference) : Type 0 where
  pub objects_are : (o : Identity) → object_in objects o ≡ option_map (λ w. w.object) (row_at t.objects o)
  pub owners : (p : ℕ) (o : Identity) → owned_in objects p o ≡ is_owner p (row_at t.objects o)
  pub own : OwnedAre t.owned objects
  pub counts : CountsAre (row_at t.objects) (name_at t.names) objects l
  pub held : BuffersAre t.held l
  -- so many came in ever: no counter can have passed it
  pub few : length l ≤ t.made

-- There is a record for each counter that the reference belongs to: the object's, and where it is another's the name's. Nobody asks
-- for its own.
pub record IsHomed (t : Records) (objects : List Object) (r : Reference) : Type 0 where
  pub here : is_some (row_at t.objects r.object) ≡ true
  pub named : (p : ℕ) → gives_name_to p r.holder ≡ true → owned_in objects p r.object ≡ false → is_some (name_at t.names p r.object) ≡ true
  pub others : (p : ℕ) → is_asked_by p r.holder ≡ true → owned_in objects p r.object ≡ false

-- how many objects more take no memory
abbrev pub new_room : Records → ℕ
new_room t = min (object_room t.objects) (own_room t.owned)

-- the room for more references
abbrev pub reference_room : Records → ℕ
reference_room t = min (buffer_room t.held) (18446744073709551615 - t.made)

-- whatever references there were, f makes of them what there are
abbrev pub Makes : Records → Records → (List Reference → List Reference) → Type 0
Makes old new f = (objects : List Object) (l : List Reference) → RecordsAre old objects l → RecordsAre new objects (f l)

-- whatever references there are, x is what f tells of them
abbrev pub Tells : {A : Type 0} → Records → A → (List Reference → A) → Type 0
Tells t x f = (objects : List Object) (l : List Reference) → RecordsAre t objects l → x ≡ f l

-- the same of an object that isn't the process's
abbrev pub TellsOfOthers : {A : Type 0} → Records → ℕ → Identity → A → (List Reference → A) → Type 0
TellsOfOthers t p o x f = (objects : List Object) (l : List Reference) → RecordsAre t objects l → owned_in objects p o ≡ false → x ≡ f l
