-- What is so of a sending that was read, and of a delivery that its receiver's window can take.
use Rattle.std.specs.Prelude.{ℕ, ◌≡◌, ◌+◌, ◌*◌, ◌≤◌, true, List, [], ◌++◌, Option, Some, None, is_some, length, All}
use Rattle.bd_ways.specs.Words.{list_all, TransactionData, Identity, Parcel, Object, Item, Space}
use Rattle.bd_space.specs.References.{object_in}
use Rattle.bd_space.specs.Seats.{process_in}
use Rattle.bd_space.specs.Windows.{needed}
use Rattle.bd_space.specs.Parcels.{Sending}
use Rattle.bd_space.specs.Delivery.{Delivery}
use Rattle.bd_ways.specs.Tables as tables
use Rattle.bd_records.specs.New.{AreNewIn}
use Rattle.bd_objects.specs.New.{IsHere}
use Rattle.bd_objects.specs.Room as object_rooms
use Rattle.bd_calls.specs.Room as call_rooms
use Rattle.bd_calls.specs.Stacked.{TakesCalls}
use Rattle.bd_buffers.specs.WindowsStand.{CanAdd, HasBufferRoom}
use Rattle.bd_step.specs.declared.tables.Tables.{Tables}
use Rattle.bd_step.specs.Stands.{Before, Within, HasRoom}

abbrev pub sending : Parcel → List Object → List Item → Sending
sending q made items = record { bytes = q.bytes; offsets = q.offsets; made = made; items = items }

-- the item's 24 bytes lie inside the data
abbrev pub IsInside : List ℕ → Item → Type 0
IsInside bytes x = x.at + 24 ≤ length bytes

-- the data once more, or nothing where no object is to be written over them
abbrev pub IsCopy : Option (List ℕ) → List ℕ → List Item → Type 0
IsCopy None bytes items = items ≡ []
IsCopy (Some copy) bytes items = copy ≡ bytes

-- data of its own, or else a parcel's
abbrev pub laid_bytes : Option (List ℕ) → List ℕ → List ℕ
laid_bytes None bytes = bytes
laid_bytes (Some own) bytes = own

-- the sizes are those of the record, and each object lies inside the data
pub record IsSound (d : TransactionData) (x : Sending) : Type 0 where
  pub bytes_sized : length x.bytes ≡ d.data_size
  pub offsets_sized : length x.offsets ≡ d.offsets_size
  pub inside : All (IsInside x.bytes) x.items

-- the room that its buffer takes
abbrev pub size_of : TransactionData → ℕ
size_of d = needed d.data_size d.offsets_size

-- the receiver's window can take it now
pub record IsDeliverable (t : Tables) (d : TransactionData) (v : Delivery) : Type 0 where
  pub sound : IsSound d v.sending
  pub can_add : CanAdd t.windows v.receiver.made v.one_way (size_of d) v.start
  pub fits : size_of d ≤ 4194304

-- memory for all that a delivery and what follows from it take
pub record IsReady (t : Tables) (d : TransactionData) (v : Delivery) : Type 0 where
  pub room : HasRoom t (object_rooms.delivery_room v.receiver.made v.sending.made v.sending.items) (2 * length v.sending.items + 3)
  pub buffer : HasBufferRoom t.windows v.receiver.made v.start (size_of d)

-- the space of a delivery: what it makes is new there, and with that all is there that its buffer is to refer to
pub record CanSend (v : Delivery) (s : Space) : Type 0 where
  pub new : AreNewIn s.objects v.sending.made
  pub carried : list_all (λ x. is_some (object_in (s.objects ++ v.sending.made) x.object)) v.sending.items ≡ true
  pub aimed : (o : Identity) → v.target ≡ Some o → IsHere o (s.objects ++ v.sending.made)

-- from before a step to within it a delivery makes what f makes of each space that can be its
abbrev pub Delivers : Tables → Tables → Delivery → (Space → Space) → Type 0
Delivers old new v f = tables.MakesWhere (Before old) (CanSend v) (Within new) f

-- the space of a call: of its delivery, its receiver lives there, and it takes calls
pub record CanCall (v : Delivery) (s : Space) : Type 0 where
  pub sends : CanSend v s
  pub lives : process_in s.processes v.receiver.made ≡ Some v.receiver
  pub takes : TakesCalls s

-- the same of a call's delivery
abbrev pub DeliversCall : Tables → Tables → Delivery → (Space → Space) → Type 0
DeliversCall old new v f = tables.MakesWhere (Before old) (CanCall v) (Within new) f

-- a change takes room for so many frames, one-way calls and work items
pub record Spends (old new : Tables) (frames turns works : ℕ) : Type 0 where
  pub calls : call_rooms.Uses old.calls new.calls (record call_rooms.nothing { frames = frames; turns = turns; works = works })

abbrev pub SpendsNothing : Tables → Tables → Type 0
SpendsNothing old new = Spends old new 0 0 0

-- a change of work items alone takes room for at most so many
pub record OnlyWorks (old new : Tables) (works : ℕ) : Type 0 where
  pub calls : call_rooms.Uses old.calls new.calls (record call_rooms.nothing { works = works })
  pub objects_are : new.objects ≡ old.objects
  pub windows_are : new.windows ≡ old.windows

-- a change of objects, references and names alone
pub record OnlyObjects (old new : Tables) : Type 0 where
  pub calls_are : new.calls ≡ old.calls
  pub windows_are : new.windows ≡ old.windows
