-- A parcel with PTR, FD and FDA objects, as C has it laid out.
use Rattle.std.specs.Prelude.{◌≡◌, ◌==◌, ◌+◌, ◌<◌, ◌^◌, ℕ, Bool, true, false, List, map, length, Option, Some, None, if◌then◌else◌}
use Rattle.bd_layout.specs.Plans.{Plan, LiesWithin}
use Rattle.bd_layout.specs.Landed.{put_at}
use Rattle.bd_layout.specs.declared.fixup.Fixup.{Fixup}
use Rattle.bd_layout.specs.declared.fixup.Fixup.TheVariants.{Pointer, Descriptor, Descriptors}
use Rattle.bd_c.specs.Parts.{Fetches}
use Rattle.bd_c.specs.declared.layouts.{FixupTold.{FixupTold}, LayoutTold.{LayoutTold}}
use Rattle.bd_c.specs.declared.status.Status.{Status}
use Rattle.bd_c.specs.declared.status.Status.TheVariants as status

abbrev pub fixup_told : Fixup → FixupTold
fixup_told (Pointer at to) = record { kind = 1; at = at; to = to }
fixup_told (Descriptor at) = record { kind = 2; at = at; to = 0 }
fixup_told (Descriptors at count) = record { kind = 3; at = at; to = count }

abbrev pub refused_told : LayoutTold
refused_told = record { is_refused = true; size = 0; known = 0; fixups = 0; taken = 0 }

-- the memory that a call fills
pub record Given : Type 0 where
  pub out : List ℕ
  pub known : List ℕ
  pub fixups : List FixupTold
  pub told : LayoutTold

-- what goes on, the places of known objects and the fix-ups are told, each where all of it fits, and how many there are of each
pub record TellsPlan (p : Plan) (old new : Given) : Type 0 where
  pub taken : new.told.is_refused ≡ false
  pub descriptors : new.told.taken ≡ p.taken
  pub out : Fetches p.bytes old.out new.out new.told.size
  pub known : Fetches p.known old.known new.known new.told.known
  pub fixups : Fetches (map fixup_told p.fixups) old.fixups new.fixups new.told.fixups

-- a parcel for which there is no plan is refused
abbrev pub IsLaidOut : Option Plan → Given → Given → Type 0
IsLaidOut None old new = new ≡ record old { told = refused_told }
IsLaidOut (Some p) old new = TellsPlan p old new

-- the parcel was laid out, or it is told that it is refused; or there was no memory, or more than 32 bits tell of room or descriptors
abbrev pub LaysOut : Option Plan → Given → Given → Status → Type 0
LaysOut o old new status.Done = IsLaidOut o old new
LaysOut o old new status.NoMemory = new ≡ old
LaysOut o old new status.NoSuchRequest = new ≡ old
LaysOut o old new _ = ⊥

abbrev pub TellsLayout : Plan → Given → Given → Status → Type 0
TellsLayout p old new status.Done = TellsPlan p old new
TellsLayout p old new status.NoMemory = new ≡ old
TellsLayout p old new _ = ⊥

-- ---- landing

-- what C gives as a fix-up, if it is one
abbrev pub fixup_given : FixupTold → Option Fixup
fixup_given f =
    if f.kind == 1 then Some (Pointer f.at f.to)
    else if f.kind == 2 then Some (Descriptor f.at)
    else if f.kind == 3 then Some (Descriptors f.at f.to)
    else None

-- It was written, within the parcel. Or nothing was: it is no fix-up, or doesn't lie within, or the parcel's addresses have more than 64 bits.
abbrev pub PutsFixup : Option Fixup → ℕ → List ℕ → List ℕ → Bool → Type 0
PutsFixup None base old new true = ⊥
PutsFixup (Some f) base old new true = LiesWithin (length old) f × (new ≡ put_at base f old)
PutsFixup None base old new false = new ≡ old
PutsFixup (Some f) base old new false = (new ≡ old) × (LiesWithin (length old) f → base + length old < 2 ^ 64 → ⊥)
