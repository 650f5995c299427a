-- Answers that take no memory, and answers in brief.
use Rattle.std.specs.Prelude.{◌≡◌, Result, Ok, Err}
use Rattle.bd_ways.specs.Words.{Step, StepAnswer}
use Rattle.bd_space.specs.declared.step.Step.TheVariants.{Command, Read}
use Rattle.bd_space.specs.declared.step.StepAnswer.TheVariants as gave
use Rattle.bd_step.specs.declared.answer.Plain.{Plain}
use Rattle.bd_step.specs.declared.answer.Brief.{Brief}
use Rattle.bd_step.specs.declared.answer.Brief.TheVariants as brief
use Rattle.bd_step.specs.declared.step_error.StepError.{StepError}
use Rattle.bd_step.specs.declared.answer.Plain.TheVariants.{Opened, Set, Exited, Accepted, Noted, Stopped, Refused}

abbrev pub answer_of : Plain → StepAnswer
answer_of Opened = gave.Opened
answer_of Set = gave.Set
answer_of Exited = gave.Exited
answer_of Accepted = gave.Accepted
answer_of (Noted n) = gave.Noted n
answer_of (Stopped x) = gave.Stopped x
answer_of (Refused x) = gave.Refused x

-- the step is no command's, and reads nothing
abbrev pub IsRare : Step → Type 0
IsRare (Command command parcel) = ⊥
IsRare (Read limit) = ⊥
IsRare _ = Unit {0}

-- it is what was read
abbrev pub IsGot : StepAnswer → Type 0
IsGot (gave.Got stream bytes offsets) = Unit {0}
IsGot _ = ⊥

-- it is this answer in brief
abbrev pub IsBrief : Brief → StepAnswer → Type 0
IsBrief (brief.Plain x) answer = answer ≡ answer_of x
IsBrief brief.Got answer = IsGot answer

-- an answer that takes no memory was written, and is had in brief; or the refusal is
abbrev pub IsWritten : Result Plain StepError → Result Brief StepError → StepAnswer → Type 0
IsWritten (Ok x) r answer = (r ≡ Ok (brief.Plain x)) × (answer ≡ answer_of x)
IsWritten (Err why) r answer = r ≡ Err why
