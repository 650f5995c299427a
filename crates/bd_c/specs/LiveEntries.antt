-- The bytes that C fetches of a live engine.
use Rattle.std.specs.Prelude.{ℕ, List, [], Option, Some, None}
use Rattle.bd_space.specs.declared.step.StepAnswer.{StepAnswer}
use Rattle.bd_space.specs.declared.step.StepAnswer.TheVariants.{Got}
use Rattle.bd_space.specs.declared.step.Entry.{Entry}
use Rattle.bd_spelling.specs.Spelling.{IsEntry, entry_bytes}
use Rattle.bd_c.specs.Parts.{part_of}

abbrev pub part_of_answer : ℕ → StepAnswer → List ℕ
part_of_answer part (Got stream bytes offsets) = part_of part stream bytes offsets
part_of_answer part _ = []

-- what the latest step got, if it was a read
abbrev pub got_of : ℕ → Option Entry → List ℕ
got_of part None = []
got_of part (Some e) = part_of_answer part e.answer

-- the entry's bytes in a journal of so many seats; none where there is no entry
abbrev pub IsSpelled : ℕ → Option Entry → Type 0
IsSpelled seats None = Unit {0}
IsSpelled seats (Some e) = IsEntry seats e

abbrev pub spelled : Option Entry → List ℕ
spelled None = []
spelled (Some e) = entry_bytes e
