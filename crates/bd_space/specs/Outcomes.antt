-- What a step answers, and the space after it.
use Rattle.std.specs.Prelude.{Result, Ok, Err}
use Rattle.bd_space.specs.{Words.{Note, Fault, Cause, StepAnswer, Space}, Turns.ripen, Notices.follow, Settle.settle}

pub record Outcome : Type 0 where
  pub answer : StepAnswer
  pub space : Space

-- what follows from an accepted command's change
unfoldable pub completed : Space → Space
completed s = settle (follow (ripen s))

abbrev pub accepted : Space → Outcome
accepted s = record { answer = StepAnswer.Accepted; space = completed s }

-- a note changes nothing
abbrev pub noted : Space → Note → Outcome
noted s n = record { answer = StepAnswer.Noted n; space = s }

-- what a check found is done; what it noted changes nothing
abbrev pub by_check : {A : Type 0} → Space → (A → Space) → Result A Note → Outcome
by_check s f (Err n) = noted s n
by_check s f (Ok x) = accepted (f x)

-- a cause leaves what it leaves
abbrev pub stopped : Cause → Space → Outcome
stopped x s = record { answer = StepAnswer.Stopped x; space = settle s }

-- a refused step changes nothing
abbrev pub refused : Space → Fault → Outcome
refused s x = record { answer = StepAnswer.Refused x; space = s }
