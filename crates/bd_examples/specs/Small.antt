-- Worked examples of a few steps each. What each shows is said at its theorem, in src/small.rt.
use Rattle.std.specs.Prelude.{[], ◌∷◌, ◌++◌}
use Rattle.bd_uapi.specs.declared.command.Return.TheVariants as br
use Rattle.bd_uapi.specs.declared.command.Command.TheVariants as bc
use Rattle.bd_uapi.specs.declared.fault.Note.TheVariants as note
use Rattle.bd_uapi.specs.declared.fault.Cause.TheVariants as cause
use Rattle.bd_uapi.specs.declared.fault.Fault.TheVariants as fault
use Rattle.bd_space.specs.declared.step.StepAnswer.TheVariants.{Set, Exited, Accepted, Noted, Stopped, Got, Refused}
use Rattle.bd_space.specs.declared.step.Step.TheVariants.{Open, Attach, SetManager, Read, ExitProcess}
use Rattle.bd_examples.specs.Worked.{Runs, completes, to_manager, object_steps, object_answers}
use Rattle.bd_examples.specs.Script.{hex, tx, reply, act, enter, OBJ, HOBJ, OBJ2, zeros, seen, reads}

abbrev pub reply_before_refusal : Type 0
reply_before_refusal =
    Runs ((1, tx 0 1 0 [] []) ∷ (0, Read 256) ∷ (0, reply 0 0 (hex "2a") []) ∷ (1, tx 0 2 0 [] []) ∷ (1, Read 256) ∷ (1, Read 256) ∷ [])
    (Accepted ∷ to_manager 1 0 200 2000 0 [] [] ∷ Accepted ∷ Stopped cause.Unread ∷ reads (br.TransactionComplete ∷ br.Reply (seen 0 0 0 0 0 1000 1 0 0) ∷ []) (hex "2a") [] ∷ reads (br.FailedReply ∷ []) [] [] ∷ [])

abbrev pub leaves_the_loop : Type 0
leaves_the_loop =
    Runs ((0, act bc.ExitLooper) ∷ (1, tx 0 1 1 [] []) ∷ (0, Read 256) ∷ [])
    (Accepted ∷ Accepted ∷ Refused fault.Again ∷ [])

abbrev pub no_such_handle : Type 0
no_such_handle =
    Runs ((1, tx 0 1 1 HOBJ (0 ∷ [])) ∷ [])
    (Stopped cause.NotHeld ∷ [])

abbrev pub manager_in_a_reply : Type 0
manager_in_a_reply =
    Runs ((1, tx 0 1 0 [] []) ∷ (0, Read 256) ∷ (0, reply 0 0 (hex "852a62730000000000000000000000000000000000000000") (0 ∷ [])) ∷ (1, Read 256) ∷ [])
    (Accepted ∷ to_manager 1 0 200 2000 0 [] [] ∷ Accepted ∷ reads (br.TransactionComplete ∷ br.Reply (seen 0 0 0 0 0 1000 24 1 0) ∷ []) (hex "852a68730000000000000000000000000000000000000000") (0 ∷ []) ∷ [])

abbrev pub asking_for_the_manager : Type 0
asking_for_the_manager =
    Runs ((1, act (bc.Acquire 0)) ∷ (1, act (bc.Release 0)) ∷ (1, act (bc.Release 0)) ∷ (0, act (bc.Increfs 0)) ∷ (1, act (bc.IncrefsDone 4096 8192)) ∷ (1, act (bc.Increfs 0)) ∷ (1, act (bc.Release 0)) ∷ (1, act (bc.Decrefs 0)) ∷ [])
    (Accepted ∷ Accepted ∷ Noted note.NoSuchNumber ∷ Noted note.OwnManager ∷ Noted note.NoSuchObject ∷ Accepted ∷ Noted note.NothingAsked ∷ Accepted ∷ [])

abbrev pub handshakes : Type 0
handshakes =
    Runs (object_steps ++ (1, act (bc.IncrefsDone 4096 8192)) ∷ (1, act (bc.IncrefsDone 4096 8192)) ∷ (1, act (bc.AcquireDone 4096 8193)) ∷ [])
    (object_answers ++ Accepted ∷ Noted note.NoHandshake ∷ Noted note.NoSuchObject ∷ [])

abbrev pub not_handed_out : Type 0
not_handed_out =
    Runs ((1, tx 0 7 1 (hex "6869") []) ∷ (0, act (bc.FreeBuffer 65536)) ∷ [])
    (Accepted ∷ Noted note.NotHandedOut ∷ [])

abbrev pub released_in_the_end : Type 0
released_in_the_end =
    Runs (object_steps ++ (1, act (bc.IncrefsDone 4096 8192)) ∷ (1, act (bc.AcquireDone 4096 8192)) ∷ (0, act (bc.FreeBuffer 65536)) ∷ (1, Read 256) ∷ (1, enter) ∷ (1, Read 256) ∷ (0, act (bc.FreeBuffer 65536)) ∷ [])
    (object_answers ++ Accepted ∷ Accepted ∷ Accepted ∷ Refused fault.Again ∷ Accepted ∷ Got (hex "0c720000 09721080 0010000000000000 0020000000000000 0a721080 0010000000000000 0020000000000000") [] [] ∷ Noted note.NoSuchBuffer ∷ [])

abbrev pub held_by_handshakes : Type 0
held_by_handshakes =
    Runs (object_steps ++ (0, act (bc.FreeBuffer 65536)) ∷ (1, enter) ∷ (1, Read 256) ∷ [])
    (object_answers ++ Accepted ∷ Accepted ∷ Refused fault.Again ∷ [])

abbrev pub first_fit : Type 0
first_fit =
    Runs ((1, tx 0 1 1 (zeros 8) []) ∷ (1, tx 0 1 1 (zeros 8) []) ∷ (1, tx 0 1 1 (zeros 16) []) ∷ (0, Read 256) ∷ (0, act (bc.FreeBuffer 65536)) ∷ (1, tx 0 1 1 (zeros 16) []) ∷ (1, tx 0 1 1 (zeros 8) []) ∷ (0, Read 256) ∷ (0, act (bc.FreeBuffer 65544)) ∷ (0, Read 256) ∷ (0, act (bc.FreeBuffer 65552)) ∷ (0, Read 256) ∷ (0, act (bc.FreeBuffer 65568)) ∷ (0, Read 256) ∷ (0, act (bc.FreeBuffer 65536)) ∷ [])
    (Accepted ∷ Accepted ∷ Accepted ∷ to_manager 1 1 0 2000 0 (zeros 8) [] ∷ Accepted ∷ Accepted ∷ Accepted ∷ to_manager 1 1 0 2000 8 (zeros 8) [] ∷ Accepted ∷ to_manager 1 1 0 2000 16 (zeros 16) [] ∷ Accepted ∷ to_manager 1 1 0 2000 32 (zeros 16) [] ∷ Accepted ∷ to_manager 1 1 0 2000 0 (zeros 8) [] ∷ Accepted ∷ [])

abbrev pub turns_by_object : Type 0
turns_by_object =
    Runs ((1, enter) ∷ (1, tx 0 1 1 (OBJ ++ OBJ2) (0 ∷ 24 ∷ [])) ∷ (1, Read 256) ∷ (0, Read 256) ∷ (0, tx 1 1 1 [] []) ∷ (0, tx 2 2 1 [] []) ∷ (0, tx 1 3 1 [] []) ∷ (1, Read 256) ∷ (1, Read 256) ∷ (1, Read 256) ∷ (1, act (bc.FreeBuffer 65536)) ∷ (1, Read 256) ∷ [])
    (Accepted ∷ Accepted ∷ reads (br.Increfs 4096 8192 ∷ br.Acquire 4096 8192 ∷ br.Increfs 4104 8200 ∷ br.Acquire 4104 8200 ∷ br.TransactionComplete ∷ []) [] [] ∷ to_manager 1 1 0 2000 0 (HOBJ ++ hex "852a6873000000000200000000000000 0000000000000000") (0 ∷ 24 ∷ []) ∷ Accepted ∷ Accepted ∷ Accepted ∷ reads (br.Transaction (seen 4096 8192 1 1 0 1000 0 0 0) ∷ []) [] [] ∷ reads (br.Transaction (seen 4104 8200 2 1 0 1000 0 0 8) ∷ []) [] [] ∷ Refused fault.Again ∷ Accepted ∷ reads (br.Transaction (seen 4096 8192 3 1 0 1000 0 0 16) ∷ []) [] [] ∷ [])

abbrev pub death_asked : Type 0
death_asked =
    Runs (object_steps ++ (0, act (bc.RequestDeathNotification 1 77)) ∷ (0, act (bc.RequestDeathNotification 1 78)) ∷ (0, act (bc.ClearDeathNotification 1 78)) ∷ (0, act (bc.DeadBinderDone 77)) ∷ (0, act (bc.ClearDeathNotification 1 77)) ∷ (0, Read 256) ∷ [])
    (object_answers ++ Accepted ∷ Noted note.AlreadyAsked ∷ Noted note.NoneAsked ∷ Noted note.NoneTold ∷ Accepted ∷ reads (br.ClearDeathNotificationDone 77 ∷ []) [] [] ∷ [])

abbrev pub manager_ends : Type 0
manager_ends =
    Runs ((1, tx 0 1 0 [] []) ∷ (0, ExitProcess) ∷ (1, Read 256) ∷ (1, tx 0 1 1 [] []) ∷ (1, SetManager) ∷ [])
    (Accepted ∷ Exited ∷ reads (br.TransactionComplete ∷ br.DeadReply ∷ []) [] [] ∷ Stopped cause.NoManager ∷ Set ∷ [])

abbrev pub small_reads : Type 0
small_reads =
    Runs ((1, tx 0 1 1 OBJ (0 ∷ [])) ∷ (1, Read 71) ∷ (1, Read 72) ∷ (1, Read 72) ∷ [])
    (Accepted ∷ Refused fault.ReadTooSmall ∷ reads (br.Increfs 4096 8192 ∷ br.Acquire 4096 8192 ∷ []) [] [] ∷ completes ∷ [])

abbrev pub refusals : Type 0
refusals =
    Runs ((1, SetManager) ∷ (2, Read 256) ∷ (2, Open 0 0 4096) ∷ (2, Open 300 0 4097) ∷ (2, Open 200 0 4096) ∷ (2, Attach 300) ∷ (1, Attach 100) ∷ [])
    (Refused fault.ManagerBusy ∷ Refused fault.NoProcess ∷ Refused fault.PidRange ∷ Refused fault.WindowSize ∷ Refused fault.PidTaken ∷ Refused fault.NoSuchPid ∷ Refused fault.HasProcess ∷ [])

abbrev pub own_manager : Type 0
own_manager =
    Runs ((0, tx 0 1 1 [] []) ∷ (1, reply 0 0 [] []) ∷ (1, Read 256) ∷ [])
    (Stopped cause.OwnManager ∷ Stopped cause.NoCall ∷ reads (br.FailedReply ∷ []) [] [] ∷ [])

abbrev pub faulty_reply : Type 0
faulty_reply =
    Runs ((1, tx 0 1 0 [] []) ∷ (0, Read 256) ∷ (0, reply 0 0 OBJ (2 ∷ [])) ∷ (0, Read 256) ∷ (1, Read 256) ∷ [])
    (Accepted ∷ to_manager 1 0 200 2000 0 [] [] ∷ Stopped cause.BadObject ∷ completes ∷ reads (br.TransactionComplete ∷ br.FailedReply ∷ []) [] [] ∷ [])

abbrev pub falling_offsets : Type 0
falling_offsets =
    Runs ((1, tx 0 1 1 (OBJ ++ OBJ2) (24 ∷ 0 ∷ [])) ∷ (1, tx 0 1 0 [] []) ∷ (1, tx 0 1 0 [] []) ∷ [])
    (Stopped cause.BadObject ∷ Accepted ∷ Stopped cause.NotServing ∷ [])
