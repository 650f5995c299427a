-- A write: its commands, read from its stream with their parcels cut from its area, and its run.
use Rattle.std.specs.Prelude.{ℕ, suc, ◌+◌, nat_lt, List, [], ◌∷◌, ◌++◌, length, Option, Some, option_map, if◌then◌else◌, zero, nat_le, ◌&&◌, take, drop, None, Ok, Err}
use Rattle.bd_space.specs.{Words.{Command, Note, Fault, StepAnswer, Entry, Stop, Answer, Space, TransactionData, command_at, Parcel, Step}, Steps.step}

-- the parcel cut from the area, if it lies inside
abbrev pub parcel_of : List ℕ → TransactionData → Option Parcel
parcel_of area d =
    if nat_le (d.buffer + d.data_size) (length area) && nat_le (d.offsets + d.offsets_size) (length area)
    then Some (record { bytes = take d.data_size (drop d.buffer area); offsets = take d.offsets_size (drop d.offsets area) })
    else None

unfoldable pub parcel_for : List ℕ → Command → Option Parcel
parcel_for area (Command.Transaction d) = parcel_of area d
parcel_for area (Command.Reply d) = parcel_of area d
parcel_for area _ = None

-- what is read from a stream's beginning: commands with their lengths, and the fault that the reading ended in, if in one
pub record Readable : Type 0 where
  pub commands : List (Command × ℕ)
  pub fault : Option Fault

-- each command has 4 bytes at least, so that no more than n are looked for in n bytes
abbrev pub readable : ℕ → List ℕ → Readable
readable zero bytes = record { commands = []; fault = None }
readable (suc n) [] = record { commands = []; fault = None }
readable (suc n) (b ∷ bs) =
    elim (command_at (b ∷ bs)) [
      | Ok c ↦ (let rest = readable n (drop c.1 (b ∷ bs)) in record { commands = c ∷ rest.commands; fault = rest.fault })
      | Err x ↦ record { commands = []; fault = Some x }
    ]

unfoldable pub commands_of : List ℕ → Readable
commands_of stream = readable (length stream) stream

abbrev pub step_of_command : List ℕ → Command → Step
step_of_command area c = Step.Command c (parcel_for area c)

-- ---- the run: each command one step, up to one that is refused

-- what a write has done: its entries, the bytes of its commands, the notes, and why it stopped
pub record Written : Type 0 where
  pub entries : List Entry
  pub consumed : ℕ
  pub notes : List (ℕ × Note)
  pub stop : Option Stop

abbrev pub goes_on : Entry → ℕ → List (ℕ × Note) → Written → Written
goes_on e size notes rest = record { entries = e ∷ rest.entries; consumed = size + rest.consumed; notes = notes ++ rest.notes; stop = rest.stop }

-- the i-th command and those after it, each one step, up to one that is refused; this fault stands after the last
abbrev pub written : Space → ℕ → List ℕ → ℕ → List (Command × ℕ) → Option Fault → Written
written s seat area i [] fault = record { entries = []; consumed = 0; notes = []; stop = option_map Stop.Fault fault }
written s seat area i (c ∷ cs) fault =
    let x = step_of_command area c.0 in
    let o = step s seat x in
    let e : Entry = record { seat = seat; step = x; answer = o.answer } in
    elim o.answer [
      | StepAnswer.Stopped y ↦ record { entries = e ∷ []; consumed = c.1; notes = []; stop = Some (Stop.Cause y) }
      | StepAnswer.Refused y ↦ record { entries = e ∷ []; consumed = c.1; notes = []; stop = Some (Stop.Fault y) }
      | StepAnswer.Noted n ↦ goes_on e c.1 ((i, n) ∷ []) (written o.space seat area (suc i) cs fault)
      | _ ↦ goes_on e c.1 [] (written o.space seat area (suc i) cs fault)
    ]

-- a request's entries and answer
pub record Run : Type 0 where
  pub entries : List Entry
  pub answer : Answer

-- a seat without a process has its first command refused, and with it the whole write
abbrev pub wrote : Written → List Entry → Answer
wrote w [] = Answer.Wrote w.consumed w.notes w.stop
wrote w (e ∷ es) = elim e.answer [ StepAnswer.Refused x ↦ Answer.Refused x | _ ↦ Answer.Wrote w.consumed w.notes w.stop ]

abbrev pub run_of_written : Written → Run
run_of_written w = record { entries = w.entries; answer = wrote w w.entries }

unfoldable pub write : Space → ℕ → List ℕ → List ℕ → Run
write s seat stream area =
    if nat_lt 4096 (length stream) then record { entries = []; answer = Answer.Refused Fault.StreamTooLong }
    else run_of_written (written s seat area 0 (commands_of stream).commands (commands_of stream).fault)
