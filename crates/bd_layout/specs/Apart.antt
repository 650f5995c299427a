-- That no byte is put right twice, and what a receiver then reads.
use Rattle.std.specs.Prelude.{◌≡◌, ◌+◌, ◌*◌, ◌≤◌, ◌⊎◌, ℕ, List, [], ◌∷◌, length, take, drop, replicate, Some}
use Rattle.bd_uapi.specs.Bytes.{long}
use Rattle.bd_layout.specs.declared.fixup.Fixup.{Fixup}
use Rattle.bd_layout.specs.declared.fixup.Fixup.TheVariants.{Pointer, Descriptor, Descriptors}
use Rattle.bd_layout.specs.{Plans.{Plan, plan_of}, Landed.{landed}}

abbrev pub start_of : Fixup → ℕ
start_of (Pointer at to) = at
start_of (Descriptor at) = at
start_of (Descriptors at count) = at

abbrev pub size_of : Fixup → ℕ
size_of (Pointer at to) = 8
size_of (Descriptor at) = 8
size_of (Descriptors at count) = 4 * count

abbrev pub Each : (Fixup → Type 0) → List Fixup → Type 0
Each P [] = Unit {0}
Each P (f ∷ fs) = P f × Each P fs

-- k bytes from a place on, and what is put right, don't meet
abbrev pub IsClearOf : ℕ → ℕ → Fixup → Type 0
IsClearOf at k f = (at + k ≤ start_of f) ⊎ (start_of f + size_of f ≤ at)

abbrev pub AllApart : List Fixup → Type 0
AllApart [] = Unit {0}
AllApart (f ∷ fs) = Each (IsClearOf (start_of f) (size_of f)) fs × AllApart fs

-- what stands there is what was put: the address of a byte of this parcel, or -1
abbrev pub Stands : ℕ → List ℕ → Fixup → Type 0
Stands base bytes (Pointer at to) = take 8 (drop at bytes) ≡ long (base + to)
Stands base bytes (Descriptor at) = take 8 (drop at bytes) ≡ long 0xffffffff
Stands base bytes (Descriptors at count) = take (4 * count) (drop at bytes) ≡ replicate (4 * count) 255

-- a parcel that has come to its place
pub record HasLanded (base : ℕ) (fixups : List Fixup) (sent bytes : List ℕ) : Type 0 where
  pub stand : Each (Stands base bytes) fixups
  -- all else is as it was sent
  pub others : (at k : ℕ) → Each (IsClearOf at k) fixups → take k (drop at bytes) ≡ take k (drop at sent)

abbrev pub LandsWhole : Type 0
LandsWhole = (body offsets room : List ℕ) (count : ℕ) (s : Plan) → plan_of body offsets room count ≡ Some s
    → AllApart s.fixups × ((base : ℕ) (sent : List ℕ) → length sent ≡ length s.bytes → HasLanded base s.fixups sent (landed base s.fixups sent))
