-- What C is told of an outcome, or of a step.
use Rattle.std.specs.Prelude.{ℕ, List, length, Option, Some, None}
use Rattle.bd_uapi.specs.declared.fault.Fault.{Fault}
use Rattle.bd_space.specs.declared.step.Answer.{Answer}
use Rattle.bd_space.specs.declared.step.Answer.TheVariants.{Opened, Set, Exited, Wrote, Got, Refused}
use Rattle.bd_space.specs.declared.step.StepAnswer.{StepAnswer}
use Rattle.bd_space.specs.declared.step.StepAnswer.TheVariants as gave
use Rattle.bd_space.specs.declared.step.Stop.{Stop}
use Rattle.bd_space.specs.declared.step.Stop.TheVariants as stop
use Rattle.bd_driver.specs.declared.outcome.Outcome.{Outcome}
use Rattle.bd_driver.specs.declared.outcome.Outcome.TheVariants.{Done, Back, Handed}
use Rattle.bd_driver.specs.declared.outcome.Why.{Why}
use Rattle.bd_driver.specs.declared.outcome.Why.TheVariants.{Taken, NoMemory, HistoryFull, Withdrawn}
use Rattle.bd_spelling.specs.Codes.{note_number, cause_number, fault_number}
use Rattle.bd_c.specs.declared.answers.Told.{Told}

abbrev pub stop_kind : Option Stop → ℕ
stop_kind None = 0
stop_kind (Some (stop.Fault fault)) = 1
stop_kind (Some (stop.Cause cause)) = 2

abbrev pub stop_number : Option Stop → ℕ
stop_number None = 0
stop_number (Some (stop.Fault fault)) = fault_number fault
stop_number (Some (stop.Cause cause)) = cause_number cause

abbrev pub why_number : Why → ℕ
why_number Taken = 1
why_number NoMemory = 2
why_number HistoryFull = 3
why_number Withdrawn = 4

-- What is told of an answer of this kind, with the places of its steps and nothing else yet.
abbrev pub placed : ℕ → ℕ → ℕ → Told
placed kind start end = record { kind = kind; from = start; to = end; consumed = 0; notes = 0; stop = 0; number = 0; why = 0; stream = 0; bytes = 0; offsets = 0 }

abbrev pub got_of : List ℕ → List ℕ → List ℕ → ℕ → ℕ → Told
got_of stream bytes offsets start end = record (placed 5 start end) { stream = length stream; bytes = length bytes; offsets = length offsets }

abbrev pub refused_of : Fault → ℕ → ℕ → Told
refused_of fault start end = record (placed 6 start end) { number = fault_number fault }

abbrev pub done_of : Answer → ℕ → ℕ → Told
done_of Opened start end = placed 1 start end
done_of Set start end = placed 2 start end
done_of Exited start end = placed 3 start end
done_of (Wrote consumed notes stop) start end = record (placed 4 start end) { consumed = consumed; notes = length notes; stop = stop_kind stop; number = stop_number stop }
done_of (Got stream bytes offsets) start end = got_of stream bytes offsets start end
done_of (Refused fault) start end = refused_of fault start end

abbrev pub told_of : Outcome → Told
told_of Handed = placed 0 0 0
told_of (Done answer start end) = done_of answer start end
told_of (Back request why) = record (placed 7 0 0) { why = why_number why }

-- a step is told as the request of that name, a command as a write of it; its note, if it changed nothing, by its number
abbrev pub told_of_step : StepAnswer → ℕ → ℕ → Told
told_of_step gave.Opened start end = placed 1 start end
told_of_step gave.Set start end = placed 2 start end
told_of_step gave.Exited start end = placed 3 start end
told_of_step gave.Accepted start end = placed 4 start end
told_of_step (gave.Noted note) start end = record (placed 4 start end) { notes = 1; number = note_number note }
told_of_step (gave.Stopped cause) start end = record (placed 4 start end) { stop = 2; number = cause_number cause }
told_of_step (gave.Got stream bytes offsets) start end = got_of stream bytes offsets start end
told_of_step (gave.Refused fault) start end = refused_of fault start end
