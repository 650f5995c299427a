-- Which way a parcel goes.
use Rattle.std.specs.Prelude.{◌+◌, ◌/◌, ◌%◌, ℕ, List, [], ◌∷◌, length, Bool, not, nat_le, nat_lt, is_some, ◌==◌, ◌&&◌, ◌||◌, if◌then◌else◌}
use Rattle.bd_uapi.specs.Bytes.{word_at}
use Rattle.bd_parcel.specs.Parcels.{offsets_in}
use Rattle.bd_wrapping.specs.Trailers.{trailer_in}
use Rattle.bd_wrapping.specs.declared.way.Way.{Way}
use Rattle.bd_wrapping.specs.declared.way.Way.TheVariants.{Plain, Wrapped, Lost}

-- PTR, FDA and FD objects
abbrev pub is_other_type : ℕ → Bool
is_other_type t = (t == 0x70742a85) || (t == 0x66646185) || (t == 0x66642a85)

-- what doesn't lie within the body is none of these
abbrev pub is_known : List ℕ → ℕ → Bool
is_known body o = not (nat_le (o + 24) (length body) && is_other_type (word_at o body))

abbrev pub known_among : List ℕ → List ℕ → ℕ
known_among body [] = 0
known_among body (o ∷ os) = (if is_known body o then 1 else 0) + known_among body os

abbrev pub has_others : List ℕ → List ℕ → Bool
has_others body offsets = nat_lt (known_among body (offsets_in offsets)) (length offsets / 8)

-- A parcel is wrapped that has objects which the engine doesn't know, or tells another effective uid. One that looks as if it were is as well:
-- so who has it from the engine can tell.
abbrev pub way_of : List ℕ → List ℕ → ℕ → Bool → Way
way_of body offsets most tells =
    if nat_lt most (known_among body (offsets_in offsets)) then Lost
    else if tells then Wrapped
    else if (length offsets % 8 == 0) && (has_others body offsets || is_some (trailer_in body offsets)) then Wrapped
    else Plain
