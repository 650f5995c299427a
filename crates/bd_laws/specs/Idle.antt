-- Answers of steps that change nothing.
use Rattle.std.specs.Prelude.{Bool, true, false}
use Rattle.bd_space.specs.declared.step.StepAnswer.{StepAnswer}
use Rattle.bd_space.specs.declared.step.StepAnswer.TheVariants.{Noted, Refused}

-- The answer is a note, or a fault: it says that nothing has changed.
abbrev pub is_note_or_fault : StepAnswer → Bool
is_note_or_fault (Noted n) = true
is_note_or_fault (Refused f) = true
is_note_or_fault _ = false
