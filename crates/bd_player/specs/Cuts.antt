-- What is said of a journal that was cut off, and when that is so.
use Rattle.std.specs.Prelude.{◌≡◌, ℕ, List, length, Option, IfSome}
use Rattle.bd_spelling.specs.declared.record.Record.{Record}
use Rattle.bd_space.specs.Histories.{IsLawful}
use Rattle.bd_spelling.specs.Records.{history_in}
use Rattle.bd_journal.specs.Cut.{HasHeading, IsCut}
use Rattle.bd_player.specs.Verdicts.{Holds}
use Rattle.bd_player.specs.declared.{cuts.Whole.{Whole}, verdicts.Verdict.{Verdict}}
use Rattle.bd_player.specs.declared.faults.ProgramFault.{ProgramFault}
use Rattle.bd_player.specs.declared.faults.ProgramFault.TheVariants.{Journal, Memory}

-- the entries are those that are whole in the bytes, and so many bytes are left
abbrev pub IsWhole : List ℕ → Whole → Type 0
IsWhole bytes w = (left : List ℕ) × IsCut bytes w.record left × (w.left ≡ length left)

-- with the status 0 the entries that are whole in the bytes, where they are known, are lawful
abbrev pub IsLawfulCutAt0 : Option (List ℕ) → ℕ → Type 0
IsLawfulCutAt0 known status = status ≡ 0 → IfSome known (λ bytes. (r : Record) × (left : List ℕ) × IsCut bytes r left × IsLawful (history_in r))

-- the verdict holds of the entries that are whole in the bytes, and so many bytes are left
abbrev pub IsCutVerdict : List ℕ → Verdict → ℕ → Type 0
IsCutVerdict bytes v so_many = (r : Record) × (left : List ℕ) × IsCut bytes r left × Holds r v × (so_many ≡ length left)

-- why nothing is said of what is whole: the bytes begin with no heading, or memory was refused, which nobody asks for before one was read
abbrev pub IsCutUnjudged : List ℕ → ProgramFault → Type 0
IsCutUnjudged bytes Journal = HasHeading bytes → ⊥
IsCutUnjudged bytes Memory = HasHeading bytes
IsCutUnjudged bytes _ = ⊥

-- where the fault is that the bytes are no journal, they begin with no heading, where they are known
abbrev pub SaysNoHeading : Option (List ℕ) → ProgramFault → Type 0
SaysNoHeading known f = f ≡ Journal → IfSome known (λ bytes. HasHeading bytes → ⊥)
