-- How a parcel with buffers and descriptors goes through the engine, as C is told it.
use Rattle.std.specs.Prelude.{◌≡◌, ◌==◌, ℕ, Bool, true, false, List, Option, Some, None, if◌then◌else◌}
use Rattle.bd_wrapping.specs.Trailers.{IsPut}
use Rattle.bd_wrapping.specs.declared.trailer.Trailer.{Trailer}
use Rattle.bd_wrapping.specs.declared.way.Way.{Way}
use Rattle.bd_wrapping.specs.declared.way.Way.TheVariants.{Plain, Wrapped, Lost}
use Rattle.bd_wrapping.specs.declared.parts.Parts.{Parts}

abbrev pub way_number : Way → ℕ
way_number Plain = 0
way_number Wrapped = 1
way_number Lost = 2

-- they are told, or there are none
abbrev pub TellsParts : Option Parts → Parts → Parts → Bool → Type 0
TellsParts (Some p) old new true = new ≡ p
TellsParts None old new false = new ≡ old
TellsParts _ old new _ = ⊥

abbrev pub TellsTrailer : Option Trailer → Trailer → Trailer → Bool → Type 0
TellsTrailer (Some t) old new true = new ≡ t
TellsTrailer None old new false = new ≡ old
TellsTrailer _ old new _ = ⊥

-- so much there is then, or it wasn't put
abbrev pub put_told : ℕ → Option ℕ
put_told size = if size == 0 then None else Some size

abbrev pub PutsTrailer : ℕ → Trailer → List ℕ → List ℕ → ℕ → Type 0
PutsTrailer laid t old new size = IsPut laid t old new (put_told size)
