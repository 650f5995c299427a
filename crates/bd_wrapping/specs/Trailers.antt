-- What stands behind a parcel that goes through the engine as more data than its client sent.
use Rattle.std.specs.Prelude.{◌≡◌, ◌+◌, ◌-◌, ◌*◌, ◌/◌, ◌%◌, ◌<◌, ◌^◌, ℕ, List, ◌++◌, length, take, drop, replicate, Option, Some, None, Bool, true, false, nat_le, nat_lt, ◌==◌, ◌&&◌, ◌||◌, if◌then◌else◌}
use Rattle.bd_uapi.specs.Bytes.{word, long, word_at, long_at}
use Rattle.bd_wrapping.specs.declared.trailer.Trailer.{Trailer}

-- `trailer` and a 0, as a number
abbrev pub mark : ℕ
mark = 0x0072656c69617274

abbrev pub trailer_bytes : Trailer → List ℕ
trailer_bytes t = long t.body ++ long t.offsets ++ long t.buffers ++ word (t.step % 2 ^ 32) ++ word t.descriptors ++ word t.euid ++ word (t.step / 2 ^ 32) ++ long mark

abbrev pub trailer_at : ℕ → List ℕ → Trailer
trailer_at i bytes = record {
  body = long_at i bytes;
  offsets = long_at (i + 8) bytes;
  buffers = long_at (i + 16) bytes;
  step = word_at (i + 24) bytes + word_at (i + 36) bytes * 2 ^ 32;
  descriptors = word_at (i + 28) bytes;
  euid = word_at (i + 32) bytes;
}

-- Whether the last of the objects at these offsets ends at a place or before. The engine takes none whose objects don't stand in order.
abbrev pub is_clear : List ℕ → ℕ → Bool
is_clear offsets place = nat_lt (length offsets) 8 || nat_le (long_at (8 * (length offsets / 8 - 1)) offsets + 24) place

-- data have one that end with the mark, where no object reaches into the last 48 bytes
abbrev pub trailer_in : List ℕ → List ℕ → Option Trailer
trailer_in body offsets =
    if nat_le 48 (length body) && (long_at (length body - 48 + 40) body == mark) && is_clear offsets (length body - 48) then Some (trailer_at (length body - 48) body)
    else None

-- ---- writing

abbrev pub round_8 : ℕ → ℕ
round_8 n = (n + 7) / 8 * 8

-- data, offsets and the room for buffers
abbrev pub wrapped_size : Trailer → ℕ
wrapped_size t = round_8 t.body + round_8 t.offsets + t.buffers

abbrev pub is_small : Trailer → Bool
is_small t = nat_lt t.body (2 ^ 32) && nat_lt t.offsets (2 ^ 32) && nat_lt t.buffers (2 ^ 32)

abbrev pub has_room : ℕ → Trailer → ℕ → Bool
has_room laid t room = is_small t && nat_le laid (wrapped_size t) && nat_le (wrapped_size t + 48) room

-- what is laid out stays, zeros follow, and the trailer
abbrev pub wrapped : ℕ → Trailer → List ℕ → List ℕ
wrapped laid t bytes = take laid bytes ++ replicate (wrapped_size t - laid) 0 ++ trailer_bytes t ++ drop (wrapped_size t + 48) bytes

abbrev pub IsPut : ℕ → Trailer → List ℕ → List ℕ → Option ℕ → Type 0
IsPut laid t old new None = (has_room laid t (length old) ≡ false) × (new ≡ old)
IsPut laid t old new (Some n) = (has_room laid t (length old) ≡ true) × (n ≡ wrapped_size t + 48) × (new ≡ wrapped laid t old)

-- ---- laws

-- the numbers that fit in it
pub record IsTrailer (t : Trailer) : Type 0 where
  pub body : t.body < 2 ^ 64
  pub offsets : t.offsets < 2 ^ 64
  pub buffers : t.buffers < 2 ^ 64
  pub step : t.step < 2 ^ 64
  pub descriptors : t.descriptors < 2 ^ 32
  pub euid : t.euid < 2 ^ 32

-- Whatever the engine has done to the objects before it, of which none reaches into it, a trailer is found as it was put.
abbrev pub TrailersAreFoundAgain : Type 0
TrailersAreFoundAgain = (t : Trailer) (front offsets : List ℕ) → IsTrailer t → is_clear offsets (length front) ≡ true → trailer_in (front ++ trailer_bytes t) offsets ≡ Some t

-- So much of what a trailer was put into is a parcel in which it is found, whatever the engine has done to the objects before it.
abbrev pub PutTrailersAreFoundAgain : Type 0
PutTrailersAreFoundAgain = (laid n : ℕ) (t : Trailer) (old new front offsets : List ℕ) → IsTrailer t → IsPut laid t old new (Some n)
    → length front ≡ n - 48 → is_clear offsets (length front) ≡ true → trailer_in (front ++ drop (n - 48) (take n new)) offsets ≡ Some t

-- Whether there is one, and which, doesn't depend on what stands before the last 48 bytes: so the engine makes none by what it does to objects,
-- and no receiver's cookie does.
abbrev pub TrailersStandBehindAllObjects : Type 0
TrailersStandBehindAllObjects = (before after tail offsets : List ℕ) → length before ≡ length after → length tail ≡ 48
    → trailer_in (before ++ tail) offsets ≡ trailer_in (after ++ tail) offsets
