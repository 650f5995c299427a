-- The buffers that may be written to: the last one, and those that it hangs on, innermost first.
use Rattle.std.specs.Prelude.{◌≡◌, ◌+◌, ◌≤◌, ℕ, List, [], ◌∷◌, Option, Some, None, Bool, nat_le, ◌==◌, ◌&&◌, ◌||◌, if◌then◌else◌}
use Rattle.bd_layout.specs.declared.buffer.OpenBuffer.{OpenBuffer}

-- that of object i, and those outside of it; none where it isn't among them
abbrev pub outward_from : ℕ → List OpenBuffer → List OpenBuffer
outward_from i [] = []
outward_from i (b ∷ bs) = if b.index == i then b ∷ bs else outward_from i bs

-- Whether so many bytes may be put there: behind all that was, and within the buffer. Where there are none, how far it reaches doesn't
-- matter.
abbrev pub takes : ℕ → ℕ → OpenBuffer → Bool
takes offset size b = nat_le b.least offset && (size == 0 || nat_le (offset + size) b.length)

-- the buffer in which they are put, by its place, and what may be written to then
pub record Claim : Type 0 where
  pub place : ℕ
  pub writable : List OpenBuffer

abbrev pub claimed_first : ℕ → ℕ → List OpenBuffer → Option Claim
claimed_first offset size [] = None
claimed_first offset size (b ∷ bs) =
    if takes offset size b then Some (record { place = b.place; writable = (record b { least = offset + size }) ∷ bs }) else None

-- so many bytes of the buffer of object `parent`, from an offset on
abbrev pub claimed : ℕ → ℕ → ℕ → List OpenBuffer → Option Claim
claimed parent offset size bs = claimed_first offset size (outward_from parent bs)

-- what a search that came to a place, or to none, says of it
abbrev pub IsClaim : Option ℕ → List OpenBuffer → Option Claim → Type 0
IsClaim None after c = c ≡ None
IsClaim (Some place) after c = c ≡ Some (record { place = place; writable = after })

-- all of them end within the first n bytes
abbrev pub EndWithin : ℕ → List OpenBuffer → Type 0
EndWithin n [] = Unit {0}
EndWithin n (b ∷ bs) = (b.place + b.length ≤ n) × EndWithin n bs
