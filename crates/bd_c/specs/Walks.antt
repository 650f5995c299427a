-- The objects of a parcel, as C has them, and the walk from one to the next.
use Rattle.std.specs.Prelude.{◌≡◌, ◌==◌, ◌+◌, ◌++◌, ◌%◌, ℕ, Bool, true, false, List, length, take, drop, Option, Some, None, Result, Ok, Err, slice_get, if◌then◌else◌}
use Rattle.bd_uapi.specs.Codes.{is_in}
use Rattle.bd_uapi.specs.Records.{type_of, object_bytes}
use Rattle.bd_uapi.specs.declared.object.FlatObject.{FlatObject}
use Rattle.bd_uapi.specs.declared.object.ObjectKind.{ObjectKind}
use Rattle.bd_parcel.specs.declared.fault.WalkFault.{WalkFault}
use Rattle.bd_parcel.specs.declared.fault.WalkFault.TheVariants.{Size, Bad, Unsupported}
use Rattle.bd_parcel.specs.Parcels.{offsets_in, supported_types, unsupported_types, is_placed, fault_at, fault_from}
use Rattle.bd_parcel.specs.Reading.{kind_of, object_at}
use Rattle.bd_space.specs.Parcels.{cause_of_walk}
use Rattle.bd_spelling.specs.Codes.{cause_number}
use Rattle.bd_c.specs.declared.walks.FlatObjectInC.{FlatObjectInC}
use Rattle.bd_c.specs.declared.walks.WalkInC.{WalkInC}

-- the number of the cause by which a transaction with such a parcel is refused
abbrev pub walk_number : WalkFault → ℕ
walk_number fault = cause_number (cause_of_walk fault)

-- ---- the next object

abbrev pub flat_told : FlatObject → ℕ → FlatObjectInC
flat_told x start = record { kind = type_of x.kind; flags = x.flags; binder = x.binder; cookie = x.cookie; start = start }

abbrev pub judged : List ℕ → Option WalkFault → ℕ → Result (Option (FlatObject × ℕ)) WalkFault
judged bytes None start = Ok (Some (object_at start bytes, start))
judged bytes (Some fault) start = Err fault

abbrev pub judged_at : List ℕ → WalkInC → Option ℕ → Result (Option (FlatObject × ℕ)) WalkFault
judged_at bytes w None = Ok None
judged_at bytes w (Some start) = judged bytes (fault_at bytes w.end w.index start) start

-- the next object and where it begins, if there is one more, or the fault of its offset
abbrev pub next_object : List ℕ → List ℕ → WalkInC → Result (Option (FlatObject × ℕ)) WalkFault
next_object bytes offsets w = if length offsets % 8 == 0 then judged_at bytes w (slice_get (offsets_in offsets) w.index) else Err Size

-- the object is told, and the walk is behind it; or it stays, with the number of the cause, 0 at the end
abbrev pub TellsNext : Result (Option (FlatObject × ℕ)) WalkFault → WalkInC → WalkInC → FlatObjectInC → FlatObjectInC → Bool → Type 0
TellsNext (Ok (Some x)) w v a b result =
    (result ≡ true) × (v ≡ record { index = w.index + 1; end = x.1 + 24; cause = 0 }) × (b ≡ flat_told x.0 x.1)
TellsNext (Ok None) w v a b result = (result ≡ false) × (v ≡ record w { cause = 0 }) × (b ≡ a)
TellsNext (Err fault) w v a b result = (result ≡ false) × (v ≡ record w { cause = walk_number fault }) × (b ≡ a)

-- The same fault, told of the offset of this index.
abbrev pub with_index : WalkFault → ℕ → WalkFault
with_index Size i = Size
with_index (Bad j) i = Bad i
with_index (Unsupported j) i = Unsupported i

-- the earliest fault from here on
abbrev pub fault_ahead : List ℕ → List ℕ → WalkInC → Option WalkFault
fault_ahead bytes offsets w = fault_from bytes w.end w.index (drop w.index (offsets_in offsets))

-- What the earliest fault ahead is before and after a walk's step: behind an object it is the same; at the end there is none; and a
-- refusal is for that fault, unless the offsets are no whole numbers.
abbrev pub Ahead : Result (Option (FlatObject × ℕ)) WalkFault → Option WalkFault → Option WalkFault → Type 0
Ahead (Ok (Some x)) here next = here ≡ next
Ahead (Ok None) here next = here ≡ None
Ahead (Err Size) here next = Unit {0}
Ahead (Err (Bad index)) here next = here ≡ Some (Bad index)
Ahead (Err (Unsupported index)) here next = here ≡ Some (Unsupported index)

-- ---- writing an object

abbrev pub flat_given : FlatObjectInC → FlatObject
flat_given g = record { kind = kind_of g.kind; flags = g.flags; binder = g.binder; cookie = g.cookie }

-- the type that has this word, or why a walk refuses it
abbrev pub kind_found : ℕ → Result ObjectKind WalkFault
kind_found n = if is_in supported_types n then Ok (kind_of n) else Err (if is_in unsupported_types n then Unsupported 0 else Bad 0)

-- Why a walk would refuse this object at its place, if it were the parcel's first.
abbrev pub fault_given : List ℕ → FlatObjectInC → Option WalkFault
fault_given bytes g =
    if is_placed bytes 0 g.start then
    (if is_in supported_types g.kind then None
    else Some (if is_in unsupported_types g.kind then Unsupported 0 else Bad 0))
    else Some (Bad 0)

-- The object's 24 bytes stand at its place, and the answer is 0; or the answer is the number of a cause, and the bytes are as they were.
abbrev pub Puts : FlatObjectInC → Option WalkFault → List ℕ → List ℕ → ℕ → Type 0
Puts g None old new answer = (answer ≡ 0) × (new ≡ take g.start old ++ object_bytes (flat_given g) ++ drop (g.start + 24) old)
Puts g (Some fault) old new answer = (answer ≡ walk_number fault) × (new ≡ old)
