-- What a receiver gets of a parcel with PTR, FD and FDA objects, and which parcels are refused: as Linux's driver has it.
use Rattle.std.specs.Prelude.{◌≡◌, ◌+◌, ◌-◌, ◌*◌, ◌%◌, ◌≤◌, ℕ, List, [], ◌∷◌, ◌++◌, length, take, drop, Option, Some, None, Bool, true, false, nat_le, ◌==◌, ◌&&◌, ◌||◌, if◌then◌else◌}
use Rattle.bd_uapi.specs.Bytes.{word_at, long_at}
use Rattle.bd_parcel.specs.Parcels.{offsets_in, is_placed}
use Rattle.bd_layout.specs.declared.buffer.OpenBuffer.{OpenBuffer}
use Rattle.bd_layout.specs.declared.fixup.Fixup.{Fixup}
use Rattle.bd_layout.specs.declared.fixup.Fixup.TheVariants.{Pointer, Descriptor, Descriptors}
use Rattle.bd_layout.specs.Writable.{EndWithin, Claim, claimed}

-- ---- bytes up to a multiple of 8

abbrev pub padding : ℕ → ℕ
padding n = (8 - n % 8) % 8

abbrev pub eight_zeros : List ℕ
eight_zeros = 0 ∷ 0 ∷ 0 ∷ 0 ∷ 0 ∷ 0 ∷ 0 ∷ 0 ∷ []

abbrev pub aligned : List ℕ → List ℕ
aligned bytes = bytes ++ take (padding (length bytes)) eight_zeros

-- ---- the parcel, as far as its objects were gone through

pub record Plan : Type 0 where
  -- what the receiver sees, but for the fix-ups
  pub bytes : List ℕ
  -- where the last object ends
  pub reach : ℕ
  -- how much of the room for buffers, and how many descriptors, were taken
  pub used : ℕ
  pub taken : ℕ
  pub writable : List OpenBuffer
  pub fixups : List Fixup
  -- where the objects lie that the engine knows
  pub known : List ℕ

-- before any object: the data, and behind it the offsets
abbrev pub begun : List ℕ → List ℕ → Plan
begun body offsets = record { bytes = aligned body ++ aligned offsets; reach = 0; used = 0; taken = 0; writable = []; fixups = []; known = [] }

abbrev pub with_fixup : Fixup → Plan → Plan
with_fixup f s = record s { fixups = s.fixups ++ f ∷ [] }

-- the next n bytes of the room, behind all that the receiver sees so far
abbrev pub with_buffer : ℕ → List ℕ → Plan → Plan
with_buffer n room s = record s { bytes = s.bytes ++ aligned (take n (drop s.used room)); used = s.used + n + padding n }

-- bytes of a buffer were claimed, for these fix-ups
abbrev pub with_claim : Option Claim → (ℕ → List Fixup) → Plan → Option Plan
with_claim None f s = None
with_claim (Some c) f s = Some (record s { writable = c.writable; fixups = s.fixups ++ f c.place })

-- ---- PTR objects

-- The address of a buffer goes into its parent, if it has one, at a multiple of 4. A buffer without a parent closes all that were open.
abbrev pub pointed : Bool → ℕ → ℕ → ℕ → Plan → Option Plan
pointed has_parent parent offset to s =
    if has_parent then (if offset % 4 == 0 then with_claim (claimed parent offset 8 s.writable) (λ place. Pointer (place + offset) to ∷ []) s else None)
    else Some (record s { writable = [] })

-- From then on it may be written to. But where its object is the very first thing in the data nothing may: where the driver looks for the last
-- buffer, that place stands for none.
abbrev pub then_writable : ℕ → OpenBuffer → Option Plan → Option Plan
then_writable o b None = None
then_writable o b (Some s) = Some (record s { writable = if o == 0 then [] else b ∷ s.writable })

-- the object of index i at place o: flags, address, length, parent, offset in the parent
abbrev pub pointer : List ℕ → List ℕ → ℕ → ℕ → Plan → Option Plan
pointer body room i o s =
    if nat_le (s.used + long_at (o + 16) body) (length room) then
    then_writable o (record { index = i; place = length s.bytes; length = long_at (o + 16) body; least = 0 })
    (pointed (word_at (o + 4) body % 2 == 1) (long_at (o + 24) body) (long_at (o + 32) body) (length s.bytes)
    (with_fixup (Pointer (o + 8) (length s.bytes)) (with_buffer (long_at (o + 16) body) room s)))
    else None

-- ---- FD objects: the next descriptor that came

abbrev pub descriptor : ℕ → ℕ → Plan → Option Plan
descriptor count o s = if nat_le (s.taken + 1) count then Some (with_fixup (Descriptor (o + 8)) (record s { taken = s.taken + 1 })) else None

-- ---- FDA objects: the next n, whose numbers stand in a buffer, at a multiple of 4

abbrev pub numbers_at : ℕ → ℕ → List Fixup
numbers_at at n = if n == 0 then [] else Descriptors at n ∷ []

abbrev pub array : ℕ → ℕ → ℕ → ℕ → Plan → Option Plan
array n parent offset count s =
    if nat_le (s.taken + n) count && (n == 0 || offset % 4 == 0) then
    with_claim (claimed parent offset (4 * n) s.writable) (λ place. numbers_at (place + offset) n) (record s { taken = s.taken + n })
    else None

-- ---- all objects

abbrev pub object_of_type : ℕ → List ℕ → List ℕ → ℕ → ℕ → ℕ → Plan → Option Plan
object_of_type t body room count i o s =
    if t == 0x70742a85 then (if nat_le (o + 40) (length body) then pointer body room i o (record s { reach = o + 40 }) else None)
    else if t == 0x66646185 then
    (if nat_le (o + 32) (length body) then array (long_at (o + 8) body) (long_at (o + 16) body) (long_at (o + 24) body) count (record s { reach = o + 32 }) else None)
    else if t == 0x66642a85 then descriptor count o (record s { reach = o + 24 })
    else Some (record s { reach = o + 24; known = s.known ++ o ∷ [] })

abbrev pub object : List ℕ → List ℕ → ℕ → ℕ → ℕ → Plan → Option Plan
object body room count i o s = if is_placed body s.reach o then object_of_type (word_at o body) body room count i o s else None

abbrev pub then_object : List ℕ → List ℕ → ℕ → ℕ → ℕ → Option Plan → Option Plan
then_object body room count i o None = None
then_object body room count i o (Some s) = object body room count i o s

-- those at these places, counted from i
abbrev pub planned_from : List ℕ → List ℕ → ℕ → ℕ → List ℕ → Option Plan → Option Plan
planned_from body room count i [] s = s
planned_from body room count i (o ∷ os) s = planned_from body room count (i + 1) os (then_object body room count i o s)

-- offsets and room are whole eights
abbrev pub is_whole : List ℕ → List ℕ → Bool
is_whole offsets room = (length offsets % 8 == 0) && (length room % 8 == 0)

-- a parcel's data, the bytes of its offsets, what came for its buffers, and how many descriptors came
abbrev pub plan_of : List ℕ → List ℕ → List ℕ → ℕ → Option Plan
plan_of body offsets room count = if is_whole offsets room then planned_from body room count 0 (offsets_in offsets) (Some (begun body offsets)) else None

-- what came of an object: whether it was taken, and the plan then
abbrev pub IsNext : Bool → Plan → Option Plan → Type 0
IsNext true after next = next ≡ Some after
IsNext false after next = next ≡ None

-- ---- all that is written lies within the parcel

abbrev pub LiesWithin : ℕ → Fixup → Type 0
LiesWithin n (Pointer at to) = (at + 8 ≤ n) × (to ≤ n)
LiesWithin n (Descriptor at) = at + 8 ≤ n
LiesWithin n (Descriptors at count) = at + 4 * count ≤ n

abbrev pub AllWithin : ℕ → List Fixup → Type 0
AllWithin n [] = Unit {0}
AllWithin n (f ∷ fs) = LiesWithin n f × AllWithin n fs

pub record IsSound (s : Plan) : Type 0 where
  pub buffers : EndWithin (length s.bytes) s.writable
  pub fixups : AllWithin (length s.bytes) s.fixups
