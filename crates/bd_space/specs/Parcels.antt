-- What a parcel sends: its objects, each known to the sender or made by the sending, or the first cause against it; and how its
-- receiver is to see them.
use Rattle.std.specs.Prelude.{ℕ, ◌%◌, ◌^◌, ◌==◌, Bool, false, not, ◌&&◌, List, [], ◌∷◌, ◌++◌, length, Option, Some, None, Result, Ok, Err, if◌then◌else◌, find, fold, unwrap_or}
use Rattle.bd_space.specs.Words.{TransactionData, FlatObject, Binder, WeakBinder, Handle, WeakHandle, Cause, WalkFault, offsets_in, fault_in, object_at, Identity, Parcel, Object, Item, Resolved, option_to_list, and_then, Space, is_strong_kind, object_bytes, Name, same, overwritten}
use Rattle.bd_space.specs.{References.own_in, Names.{named, strongly_named, number_in}}

abbrev pub object_of_item : Item → Identity
object_of_item x = x.object

-- what is sent: the parcel's bytes, the objects that its sender makes by it, and all its objects in their order
pub record Sending : Type 0 where
  pub bytes : List ℕ
  pub offsets : List ℕ
  pub made : List Object
  pub items : List Item

-- an object that the step at this place makes after these
abbrev pub new_object : ℕ → ℕ → List Object → FlatObject → Object
new_object place p made x = record {
  id = record { place = place; index = length made };
  owner = p;
  ptr = x.binder;
  cookie = x.cookie;
  told_weak = false;
  told_strong = false;
}

-- an own object is known by its ptr, and then has to have the same cookie; else it is made
abbrev pub resolve_own : Space → ℕ → List Object → FlatObject → Result Resolved Cause
resolve_own s p made x =
    elim (own_in (s.objects ++ made) p x.binder) [
      | None ↦ let o = new_object s.steps p made x in Ok (record { object = o.id; new = Some o })
      | Some o ↦ if o.cookie == x.cookie then Ok (record { object = o.id; new = None }) else Err Cause.OtherCookie
    ]

abbrev pub resolve_handle : Option Identity → Result Resolved Cause
resolve_handle None = Err Cause.NotHeld
resolve_handle (Some o) = Ok (record { object = o; new = None })

-- the object that p sends, where it has made these already; a strong handle has to be strongly named
unfoldable pub resolve : Space → ℕ → List Object → FlatObject → Result Resolved Cause
resolve s p made x =
    elim x.kind [
      | Binder ↦ resolve_own s p made x
      | WeakBinder ↦ resolve_own s p made x
      | Handle ↦ resolve_handle (strongly_named s p (x.binder % 2 ^ 32))
      | WeakHandle ↦ resolve_handle (named s p (x.binder % 2 ^ 32))
    ]

-- the objects at the offsets, one after the other
abbrev pub resolve_all : Space → ℕ → List ℕ → List ℕ → List Object → List Item → List ℕ → Result Sending Cause
resolve_all s p bytes offsets made items [] = Ok (record { bytes = bytes; offsets = offsets; made = made; items = items })
resolve_all s p bytes offsets made items (at ∷ ats) =
    and_then (resolve s p made (object_at at bytes))
    (λ r. resolve_all s p bytes offsets (made ++ option_to_list r.new) (items ++ record { at = at; flat = object_at at bytes; object = r.object } ∷ []) ats)

abbrev pub cause_of_walk : WalkFault → Cause
cause_of_walk WalkFault.Size = Cause.OffsetsSize
cause_of_walk (WalkFault.Bad index) = Cause.BadObject
cause_of_walk (WalkFault.Unsupported index) = Cause.UnsupportedObject

-- the parcel has the sizes that its record says
abbrev pub has_sizes : TransactionData → Parcel → Bool
has_sizes d q = (length q.bytes == d.data_size) && (length q.offsets == d.offsets_size)

abbrev pub resolve_walked : Space → ℕ → Parcel → Option WalkFault → Result Sending Cause
resolve_walked s p q (Some fault) = Err (cause_of_walk fault)
resolve_walked s p q None = resolve_all s p q.bytes q.offsets [] [] (offsets_in q.offsets)

-- what p sends by this parcel, or the first cause against it
unfoldable pub sending_of : Space → ℕ → TransactionData → Option Parcel → Result Sending Cause
sending_of s p d None = Err Cause.OutsideArea
sending_of s p d (Some q) =
    if not (has_sizes d q) then Err Cause.OutsideArea
    else (if not (length q.offsets % 8 == 0) then Err Cause.OffsetsSize
    else resolve_walked s p q (fault_in q.bytes (offsets_in q.offsets)))

-- an object as it is translated: the receiver's own object, and anybody else's
abbrev pub as_own : FlatObject → Object → FlatObject
as_own x o = record x { kind = if is_strong_kind x.kind then Binder else WeakBinder; binder = o.ptr; cookie = o.cookie }

abbrev pub as_handle : FlatObject → ℕ → FlatObject
as_handle x n = record x { kind = if is_strong_kind x.kind then Handle else WeakHandle; binder = n; cookie = 0 }

abbrev pub translated : List Object → List Name → ℕ → Item → FlatObject
translated objects names q x =
    elim (find (λ o. same o.id x.object && (o.owner == q)) objects) [
      | Some o ↦ as_own x.flat o
      | None ↦ as_handle x.flat (unwrap_or (number_in names q x.object) 0)
    ]

-- the data with each object translated
unfoldable pub translation : Space → ℕ → List ℕ → List Item → List ℕ
translation s q bytes items = fold (λ bytes x. overwritten bytes x.at (object_bytes (translated s.objects s.names q x))) bytes items
