-- What of a parcel its receiver sees.
use Rattle.std.specs.Prelude.{◌≡◌, ◌+◌, ℕ, List, [], ◌∷◌, ◌++◌, take, drop, Some, ◌==◌, if◌then◌else◌}
use Rattle.bd_uapi.specs.Bytes.{word_at, long_at}
use Rattle.bd_parcel.specs.Parcels.{offsets_in}
use Rattle.bd_layout.specs.Plans.{Plan, padding, aligned, plan_of}

-- of the room, from a place on, what each PTR object says is its own
abbrev pub own_bytes : List ℕ → List ℕ → ℕ → List ℕ → List ℕ
own_bytes body room used [] = []
own_bytes body room used (o ∷ os) =
    if word_at o body == 0x70742a85 then
    aligned (take (long_at (o + 16) body) (drop used room)) ++ own_bytes body room (used + long_at (o + 16) body + padding (long_at (o + 16) body)) os
    else own_bytes body room used os

-- data, offsets, and the buffers' own bytes, each up to a multiple of 8 with zeros
abbrev pub CarriesWhatWasSent : Type 0
CarriesWhatWasSent = (body offsets room : List ℕ) (count : ℕ) (s : Plan) → plan_of body offsets room count ≡ Some s
    → s.bytes ≡ (aligned body ++ aligned offsets) ++ own_bytes body room 0 (offsets_in offsets)
