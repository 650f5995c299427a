-- Histories in which nothing has come to be, however long they are.
use Rattle.std.specs.Prelude.{ℕ, replicate}
use Rattle.bd_ways.specs.Words.{Entry}
use Rattle.bd_uapi.specs.declared.fault.Fault.TheVariants as fault
use Rattle.bd_space.specs.declared.step.Step.TheVariants.{ExitThread}
use Rattle.bd_space.specs.declared.step.StepAnswer.TheVariants.{Refused}
use Rattle.bd_space.specs.Histories.{History, history_of}

-- a seat without a process wants to end its thread
abbrev pub refused_entry : Entry
refused_entry = record { seat = 0; step = ExitThread; answer = Refused fault.NoProcess }

-- so many steps, each refused
abbrev pub refusals : ℕ → ℕ → History
refusals seats steps = history_of seats (replicate steps refused_entry)
