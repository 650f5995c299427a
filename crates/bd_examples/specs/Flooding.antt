-- Worked examples of reports of one-way flooding, and of a driver with the most seats. The manager's window has 4096 bytes, so that 1024
-- are a quarter of it, which one sender's one-way calls may take without a report.
use Rattle.std.specs.Prelude.{ℕ, ◌≡◌, true, false, List, [], ◌∷◌, ◌++◌, map}
use Rattle.bd_uapi.specs.declared.command.Return.TheVariants as br
use Rattle.bd_uapi.specs.declared.command.Command.TheVariants as bc
use Rattle.bd_uapi.specs.declared.fault.Cause.TheVariants as cause
use Rattle.bd_uapi.specs.declared.fault.Fault.TheVariants as fault
use Rattle.bd_space.specs.declared.step.Entry.{Entry}
use Rattle.bd_space.specs.declared.step.StepAnswer.{StepAnswer}
use Rattle.bd_space.specs.declared.step.StepAnswer.TheVariants.{Opened, Set, Exited, Accepted, Stopped, Got, Refused}
use Rattle.bd_space.specs.declared.step.Step.{Step}
use Rattle.bd_space.specs.declared.step.Step.TheVariants.{Open, SetManager, SetSpam, Read, ExitProcess}
use Rattle.bd_space.specs.Histories.{history_of, ready_bits}
use Rattle.bd_examples.specs.Histories.{History, Stands}
use Rattle.bd_examples.specs.Worked.{Plays, to_manager}
use Rattle.bd_examples.specs.Common.{complete_read, told_read, object_sent, second_thread}
use Rattle.bd_examples.specs.Script.{hex, tx, reply, act, enter, OBJ, zeros, seen, reads}

-- A call is reported as flooding: BR_ONEWAY_SPAM_SUSPECT is read in place of BR_TRANSACTION_COMPLETE.
abbrev pub suspect_read : StepAnswer
suspect_read = Got (hex "0c720000 13720000") [] []

-- A seat makes a one-way call of so many zero bytes to the manager, and then reads its completion, or the report in place of that.
abbrev pub one_way : ℕ → ℕ → StepAnswer → History
one_way seat size completion = (seat, tx 0 1 1 (zeros size) [], Accepted) ∷ (seat, Read 256, completion) ∷ []

-- The manager reads such a call, of the process with this user id, and frees its buffer.
abbrev pub read_and_freed : ℕ → ℕ → History
read_and_freed euid size = (0, Read 256, to_manager 1 1 0 euid 0 (zeros size) []) ∷ (0, act (bc.FreeBuffer 65536), Accepted) ∷ []

-- Seat 2 opens another process.
abbrev pub third_process : History
third_process = (2, Open 300 3000 4096, Opened) ∷ []

-- ---- the whole course

-- A quarter isn't reported, and 8 bytes more are; once the quarter is freed a further call isn't. A seat without a process sets no mark.
abbrev pub flooding_reported : Type 0
flooding_reported =
    Plays ((1, SetSpam true, Set)
    ∷ (1, tx 0 1 1 (zeros 1024) [], Accepted)
    ∷ (1, tx 0 1 1 [] [], Accepted)
    ∷ (1, Read 256, Got (hex "0c720000 06720000 13720000") [] [])
    ∷ read_and_freed 2000 1024
    ++ (1, tx 0 1 1 [] [], Accepted)
    ∷ (1, Read 256, Got (hex "0c720000 06720000") [] [])
    ∷ (1, SetSpam false, Set)
    ∷ (2, SetSpam true, Refused fault.NoProcess)
    ∷ (2, SetSpam false, Refused fault.NoProcess) ∷ [])

-- ---- how much is too much

-- Exactly a quarter, in one call, isn't reported.
abbrev pub quarter_of_the_window : Type 0
quarter_of_the_window = Plays ((1, SetSpam true, Set) ∷ one_way 1 1024 complete_read)

-- One byte more than a quarter takes 8 bytes more of the window, and is reported.
abbrev pub more_than_a_quarter : Type 0
more_than_a_quarter = Plays ((1, SetSpam true, Set) ∷ one_way 1 1025 suspect_read)

-- Offsets count with the data: the 24 bytes of an object and the 8 of its offset make 992 bytes a quarter. An empty call takes 8 bytes, and
-- is too much then.
abbrev pub offsets_count : Type 0
offsets_count =
    Plays ((1, SetSpam true, Set)
    ∷ one_way 1 992 complete_read
    ++ (1, tx 0 1 1 OBJ (0 ∷ []), Accepted)
    ∷ (1, Read 256, told_read)
    ∷ (1, tx 0 1 1 [] [], Accepted)
    ∷ (1, Read 256, suspect_read) ∷ [])

-- The report stands where the completion would: behind what the owner is told of its objects.
abbrev pub report_behind_notices : Type 0
report_behind_notices =
    Plays ((1, SetSpam true, Set)
    ∷ one_way 1 1024 complete_read
    ++ (1, tx 0 1 1 OBJ (0 ∷ []), Accepted)
    ∷ (1, Read 256, Got (hex "0c720000 07721080 0010000000000000 0020000000000000 08721080 0010000000000000 0020000000000000 13720000") [] []) ∷ [])

-- ---- whose buffers count

-- Neither sender has more than a quarter of the window, and so neither is reported, though together they have.
abbrev pub senders_apart : Type 0
senders_apart =
    Plays (third_process
    ++ (1, SetSpam true, Set)
    ∷ (2, SetSpam true, Set)
    ∷ one_way 1 1000 complete_read
    ++ one_way 2 1024 complete_read
    ++ one_way 1 24 complete_read)

-- Of two processes only the one that asked for reports gets one.
abbrev pub one_of_two_marked : Type 0
one_of_two_marked =
    Plays (third_process
    ++ (1, SetSpam true, Set)
    ∷ one_way 2 2048 complete_read
    ++ read_and_freed 3000 2048
    ++ one_way 1 2048 suspect_read)

-- What was read counts until it is freed, and then no longer.
abbrev pub freed_counts_no_longer : Type 0
freed_counts_no_longer =
    Plays ((1, SetSpam true, Set)
    ∷ one_way 1 1024 complete_read
    ++ read_and_freed 2000 1024
    ++ one_way 1 1024 complete_read
    ++ (0, Read 256, to_manager 1 1 0 2000 0 (zeros 1024) [])
    ∷ one_way 1 0 suspect_read
    ++ (0, act (bc.FreeBuffer 65536), Accepted)
    ∷ one_way 1 0 complete_read)

-- A two-way call isn't reported behind a flood of one-way ones, and its own buffer doesn't count.
abbrev pub two_way_calls_apart : Type 0
two_way_calls_apart =
    Plays ((1, SetSpam true, Set)
    ∷ (1, tx 0 1 0 (zeros 2048) [], Accepted)
    ∷ (1, Read 256, complete_read)
    ∷ (0, Read 256, to_manager 1 0 200 2000 0 (zeros 2048) [])
    ∷ (0, reply 0 0 [] [], Accepted)
    ∷ (1, Read 256, reads (br.Reply (seen 0 0 0 0 0 1000 0 0 0) ∷ []) [] [])
    ∷ one_way 1 1024 complete_read
    ++ one_way 1 0 suspect_read
    ++ (1, tx 0 1 0 [] [], Accepted)
    ∷ (1, Read 256, complete_read) ∷ [])

-- A reply isn't reported, though the manager that answers floods its caller.
abbrev pub replies_apart : Type 0
replies_apart =
    Plays (object_sent
    ++ (0, SetSpam true, Set)
    ∷ (0, tx 1 1 1 (zeros 1032) [], Accepted)
    ∷ (0, Read 256, suspect_read)
    ∷ (1, tx 0 1 0 [] [], Accepted)
    ∷ (1, Read 256, complete_read)
    ∷ (0, Read 256, to_manager 1 0 200 2000 32 [] [])
    ∷ (0, reply 0 0 [] [], Accepted)
    ∷ (0, Read 256, complete_read) ∷ [])

-- A one-way call that is over the budget (X14) is refused, and not reported.
abbrev pub refused_calls_apart : Type 0
refused_calls_apart =
    Plays ((1, SetSpam true, Set)
    ∷ (1, tx 0 1 1 (zeros 2048) [], Accepted)
    ∷ (1, tx 0 1 1 [] [], Stopped cause.OverBudget)
    ∷ (1, Read 256, Got (hex "0c720000 13720000 11720000") [] []) ∷ [])

-- ---- whose mark counts, and when

-- Any thread of a process asks for its reports, and what another thread of it sent counts.
abbrev pub mark_of_the_process : Type 0
mark_of_the_process =
    Plays (second_thread
    ++ (2, SetSpam true, Set)
    ∷ one_way 1 1024 complete_read
    ++ one_way 2 0 suspect_read
    ++ one_way 1 0 suspect_read
    ++ (1, SetSpam false, Set)
    ∷ one_way 2 0 complete_read)

-- What counts is the mark when the call is accepted, not when its completion is read.
abbrev pub marked_when_accepted : Type 0
marked_when_accepted =
    Plays ((1, tx 0 1 1 (zeros 1032) [], Accepted)
    ∷ (1, SetSpam true, Set)
    ∷ (1, tx 0 1 1 [] [], Accepted)
    ∷ (1, SetSpam false, Set)
    ∷ (1, Read 256, Got (hex "0c720000 06720000 13720000") [] []) ∷ [])

-- A process that opens has no mark, though the one before it, at its seat and with its pid, had.
abbrev pub mark_ends_with_the_process : Type 0
mark_ends_with_the_process =
    Plays ((1, SetSpam true, Set)
    ∷ (1, ExitProcess, Exited)
    ∷ (1, Open 200 2000 4096, Opened)
    ∷ one_way 1 1032 complete_read)

-- What the process before sent doesn't count either, though it lies in the manager's window still.
abbrev pub buffers_of_the_process_before : Type 0
buffers_of_the_process_before =
    Plays ((1, tx 0 1 1 (zeros 1024) [], Accepted)
    ∷ (1, ExitProcess, Exited)
    ∷ (1, Open 200 2000 4096, Opened)
    ∷ (1, SetSpam true, Set)
    ∷ one_way 1 1024 complete_read)

-- ---- the most seats

-- The manager is at the last of 31 seats, and is called by the first.
abbrev pub last_seat_called : History
last_seat_called =
    (30, Open 100 1000 4096, Opened)
    ∷ (30, SetManager, Set)
    ∷ (30, enter, Accepted)
    ∷ (0, Open 200 2000 4096, Opened)
    ∷ (0, tx 0 7 1 (hex "6869") [], Accepted) ∷ []

abbrev pub entry_of : ℕ × Step × StepAnswer → Entry
entry_of x = record { seat = x.0; step = x.1; answer = x.2 }

-- Bits 30 and 0 of the ready word are set: the call is there for seat 30, and its completion for seat 0.
abbrev pub last_seat_ready : Type 0
last_seat_ready = ready_bits (history_of 31 (map entry_of last_seat_called)) ≡ 1073741825
