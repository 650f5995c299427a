-- Worked examples of rules in which a slip went unseen by the examples before.
use Rattle.std.specs.Prelude.{ℕ, ◌≡◌, List, [], ◌∷◌, ◌++◌, Some, None}
use Rattle.bd_uapi.specs.declared.command.Command.TheVariants as bc
use Rattle.bd_uapi.specs.declared.fault.Note.TheVariants as note
use Rattle.bd_uapi.specs.declared.fault.Cause.TheVariants as cause
use Rattle.bd_uapi.specs.declared.fault.Fault.TheVariants as fault
use Rattle.bd_space.specs.declared.step.StepAnswer.TheVariants.{Opened, Exited, Accepted, Noted, Stopped, Got, Refused}
use Rattle.bd_space.specs.declared.step.Step.{Step}
use Rattle.bd_space.specs.declared.step.Step.TheVariants.{Open, Attach, SetManager, Command, Read, ExitThread, ExitProcess}
use Rattle.bd_space.specs.Space.{Space, opening}
use Rattle.bd_space.specs.Steps.{step}
use Rattle.bd_space.specs.Histories.{ready_below}
use Rattle.bd_examples.specs.Playing.{ends}
use Rattle.bd_examples.specs.Worked.{Plays}
use Rattle.bd_examples.specs.Common.{complete_read, told_read, untold_read, object_read, call_read, death_read, cleared_read, object_sent, handshakes_done, kept_weakly, second_thread, objects_of_two}
use Rattle.bd_examples.specs.Script.{hex, sending, parcel, tx, reply, act, enter, base, OBJ, HOBJ, OBJ2, HOBJ2, OBJ3, zeros}

-- The owner that got its own object back has no name for it: its number 1 is free (N1, X1), and goes to the next object
-- of another process.
abbrev pub own_object_in_the_own_window : Type 0
own_object_in_the_own_window =
    Plays (object_sent
    ++ (1, enter, Accepted)
    ∷ (0, tx 1 5 1 HOBJ (0 ∷ []), Accepted)
    ∷ (1, Read 256, Got (hex "0c720000 02724080 0010000000000000 0020000000000000 05000000 01000000 00000000 e8030000 1800000000000000 0800000000000000 0000010000000000 1800010000000000") OBJ (hex "0000000000000000"))
    ∷ (1, act (bc.Increfs 1), Noted note.NoSuchNumber)
    ∷ (1, tx 1 1 1 [] [], Stopped cause.NotStronglyNamed)
    ∷ (1, act (bc.FreeBuffer 65536), Accepted)
    ∷ (0, tx 1 6 1 OBJ3 (0 ∷ []), Accepted)
    ∷ (1, Read 256, Got (hex "0c720000 11720000") [] [])
    ∷ (1, Read 256, Got (hex "0c720000 02724080 0010000000000000 0020000000000000 06000000 01000000 00000000 e8030000 1800000000000000 0800000000000000 0000010000000000 1800010000000000") HOBJ (hex "0000000000000000")) ∷ [])

-- What one process asked for, and what its buffers carry, gives no other process a name, makes none strong, and can't
-- be released by it; nor can what was asked of another object (N2).
abbrev pub references_of_others : Type 0
references_of_others =
    Plays (objects_of_two
    ++ (0, act (bc.Acquire 1), Accepted)
    ∷ (0, act (bc.FreeBuffer 65536), Accepted)
    ∷ (0, Read 256, Got (hex "0c720000 02724080 0000000000000000 0000000000000000 01000000 01000000 00000000 b80b0000 1800000000000000 0800000000000000 2000010000000000 3800010000000000") HOBJ2 (hex "0000000000000000"))
    ∷ (0, act (bc.Release 2), Noted note.NothingAsked)
    ∷ (0, tx 2 1 1 HOBJ (0 ∷ []), Accepted)
    ∷ (2, enter, Accepted)
    ∷ (2, Read 256, Got (hex "0c720000 07721080 0810000000000000 0820000000000000 08721080 0810000000000000 0820000000000000 06720000") [] [])
    ∷ (2, Read 256, Got (hex "0c720000 02724080 0810000000000000 0820000000000000 01000000 01000000 00000000 e8030000 1800000000000000 0800000000000000 0000010000000000 1800010000000000") HOBJ (hex "0000000000000000"))
    ∷ (2, act (bc.Increfs 1), Accepted)
    ∷ (2, act (bc.FreeBuffer 65536), Accepted)
    ∷ (1, tx 0 1 1 OBJ (0 ∷ []), Accepted)
    ∷ (2, tx 1 1 1 [] [], Stopped cause.NotStronglyNamed)
    ∷ (2, act (bc.Release 1), Noted note.NothingAsked)
    ∷ (2, act (bc.Acquire 1), Accepted)
    ∷ (2, act (bc.Release 1), Accepted)
    ∷ (2, act (bc.Decrefs 1), Accepted)
    ∷ (2, act (bc.Decrefs 1), Noted note.NoSuchNumber)
    ∷ (0, act (bc.Release 1), Accepted)
    ∷ (0, act (bc.Release 1), Noted note.NothingAsked) ∷ [])

-- What a process asked for goes with it, the strong reference and the weak one, and the owner is told.
abbrev pub references_asked_by_a_process_that_ended : Type 0
references_asked_by_a_process_that_ended =
    Plays (object_sent
    ++ handshakes_done
    ++ (0, act (bc.Acquire 1), Accepted)
    ∷ kept_weakly
    ++ (1, enter, Accepted)
    ∷ (1, Read 256, Refused fault.Again)
    ∷ (0, ExitProcess, Exited)
    ∷ (1, Read 256, untold_read) ∷ [])

-- A Notice goes with its object, and when what the owner was told is so again: there is nothing to read (F12).
abbrev pub notices_no_longer_wanted : Type 0
notices_no_longer_wanted =
    Plays (second_thread
    ++ (1, tx 0 1 1 OBJ (0 ∷ []), Accepted)
    ∷ (1, ExitThread, Exited)
    ∷ (0, Read 256, object_read)
    ∷ (0, act (bc.FreeBuffer 65536), Accepted)
    ∷ (2, Read 256, Refused fault.Again)
    ∷ (2, tx 0 2 1 OBJ (0 ∷ []), Accepted)
    ∷ (2, Read 256, told_read)
    ∷ (2, act (bc.IncrefsDone 4096 8192), Accepted)
    ∷ (2, act (bc.AcquireDone 4096 8192), Accepted)
    ∷ (0, Read 256, Got (hex "0c720000 02724080 0000000000000000 0000000000000000 02000000 01000000 00000000 d0070000 1800000000000000 0800000000000000 0000010000000000 1800010000000000") HOBJ (hex "0000000000000000"))
    ∷ (0, act (bc.FreeBuffer 65536), Accepted)
    ∷ (2, tx 0 3 1 OBJ (0 ∷ []), Accepted)
    ∷ (2, Read 256, complete_read)
    ∷ (2, Read 256, Refused fault.Again) ∷ [])

-- When an owner ends, only notifications on its own objects are told, and they are acknowledged only by the process
-- that was told (N11), each once, though all have one cookie.
abbrev pub notifications_of_others : Type 0
notifications_of_others =
    Plays (objects_of_two
    ++ (0, act (bc.RequestDeathNotification 1 77), Accepted)
    ∷ kept_weakly
    ++ (0, Read 256, Got (hex "0c720000 02724080 0000000000000000 0000000000000000 01000000 01000000 00000000 b80b0000 1800000000000000 0800000000000000 2000010000000000 3800010000000000") HOBJ2 (hex "0000000000000000"))
    ∷ (0, act (bc.RequestDeathNotification 2 77), Accepted)
    ∷ (2, ExitProcess, Exited)
    ∷ (0, Read 256, death_read)
    ∷ (0, Read 256, Refused fault.Again)
    ∷ (1, act (bc.DeadBinderDone 77), Noted note.NoneTold)
    ∷ (0, act (bc.DeadBinderDone 77), Accepted)
    ∷ (0, act (bc.DeadBinderDone 77), Noted note.NoneTold)
    ∷ (0, act (bc.ClearDeathNotification 1 77), Accepted)
    ∷ (0, Read 256, cleared_read)
    ∷ (1, ExitProcess, Exited)
    ∷ (0, Read 256, Refused fault.Again) ∷ [])

-- Two notifications are queued when the name of the first goes: only the second is told, and the first isn't there to
-- be acknowledged (N11).
abbrev pub death_item_gone_with_its_name : Type 0
death_item_gone_with_its_name =
    Plays ((1, tx 0 1 1 OBJ (0 ∷ []), Accepted)
    ∷ (1, tx 0 2 1 OBJ2 (0 ∷ []), Accepted)
    ∷ (0, Read 256, object_read)
    ∷ kept_weakly
    ++ (0, Read 256, Got (hex "0c720000 02724080 0000000000000000 0000000000000000 02000000 01000000 00000000 d0070000 1800000000000000 0800000000000000 2000010000000000 3800010000000000") HOBJ2 (hex "0000000000000000"))
    ∷ (0, act (bc.RequestDeathNotification 1 77), Accepted)
    ∷ (0, act (bc.RequestDeathNotification 2 78), Accepted)
    ∷ (1, ExitProcess, Exited)
    ∷ (0, act (bc.Decrefs 1), Accepted)
    ∷ (0, Read 256, Got (hex "0c720000 0f720880 4e00000000000000") [] [])
    ∷ (0, Read 256, Refused fault.Again)
    ∷ (0, act (bc.DeadBinderDone 77), Noted note.NoneTold) ∷ [])

-- The greatest pid and the greatest window, and one past each; windows of no page and of a page and a half.
abbrev pub limits_of_opening : Type 0
limits_of_opening =
    Plays ((2, Open 2147483648 3000 4096, Refused fault.PidRange)
    ∷ (2, Open 300 3000 0, Refused fault.WindowSize)
    ∷ (2, Open 300 3000 6144, Refused fault.WindowSize)
    ∷ (2, Open 300 3000 4198400, Refused fault.WindowSize)
    ∷ (2, Open 2147483647 3000 4194304, Opened)
    ∷ (3, Open 300 4000 8192, Opened) ∷ [])

-- Each request of a seat without a process is refused with F4, though other refusals would hold too.
abbrev pub requests_without_a_process : Type 0
requests_without_a_process =
    Plays ((2, SetManager, Refused fault.NoProcess)
    ∷ (2, Read 0, Refused fault.NoProcess)
    ∷ (2, enter, Refused fault.NoProcess)
    ∷ (2, ExitThread, Refused fault.NoProcess)
    ∷ (2, ExitProcess, Refused fault.NoProcess)
    ∷ (1, ExitThread, Exited)
    ∷ (1, ExitThread, Refused fault.NoProcess) ∷ [])

-- Of three completions a limit of 75 bytes takes one, since 67 are left after it, and 76 takes two.
abbrev pub room_for_one_return_more : Type 0
room_for_one_return_more =
    Plays ((1, tx 0 1 1 [] [], Accepted)
    ∷ (1, tx 0 1 1 [] [], Accepted)
    ∷ (1, tx 0 1 1 [] [], Accepted)
    ∷ (1, Read 75, complete_read)
    ∷ (1, Read 76, Got (hex "0c720000 06720000 06720000") [] []) ∷ [])

-- A process without threads lives on: its pid is taken (F6), its object can be called, and who attaches to it and enters the loop reads
-- what stood on its list.
abbrev pub process_without_threads : Type 0
process_without_threads =
    Plays ((1, tx 0 1 1 OBJ (0 ∷ []), Accepted)
    ∷ (1, ExitThread, Exited)
    ∷ (2, Open 200 3000 4096, Refused fault.PidTaken)
    ∷ (0, Read 256, object_read)
    ∷ (0, tx 1 2 1 [] [], Accepted)
    ∷ (2, Attach 200, Opened)
    ∷ (2, Read 256, Refused fault.Again)
    ∷ (2, enter, Accepted)
    ∷ (2, Read 256, Got (hex "0c720000 07721080 0010000000000000 0020000000000000 08721080 0010000000000000 0020000000000000 02724080 0010000000000000 0020000000000000 02000000 01000000 00000000 e8030000 0000000000000000 0000000000000000 0000010000000000 0000010000000000") [] []) ∷ [])

-- A new thread of the same seat isn't the one that ended: it reads nothing of its, is answered no call of its, serves
-- none, and may call.
abbrev pub seat_that_comes_back : Type 0
seat_that_comes_back =
    Plays ((1, tx 0 1 0 [] [], Accepted)
    ∷ (0, Read 256, call_read)
    ∷ (1, ExitThread, Exited)
    ∷ (1, Attach 200, Opened)
    ∷ (1, Read 256, Refused fault.Again)
    ∷ (0, reply 0 0 (hex "2a") [], Stopped cause.CallerGone)
    ∷ (1, tx 0 2 0 [] [], Accepted)
    ∷ (0, Read 256, complete_read)
    ∷ (0, Read 256, Got (hex "0c720000 02724080 0000000000000000 0000000000000000 02000000 00000000 c8000000 d0070000 0000000000000000 0000000000000000 0800010000000000 0800010000000000") [] [])
    ∷ (0, ExitThread, Exited)
    ∷ (0, Attach 100, Opened)
    ∷ (0, reply 0 0 (hex "2a") [], Stopped cause.NoCall)
    ∷ (1, Read 256, Got (hex "0c720000 06720000 05720000") [] []) ∷ [])

-- In a step that is given directly a parcel of other lengths than the record's, or none, is outside the area (X7), and a
-- parcel beside another command counts for nothing.
abbrev pub parcels_of_other_lengths : Type 0
parcels_of_other_lengths =
    Plays ((1, Command (bc.Transaction (record (sending 0 1 1 [] []) { data_size = 5 })) (Some (parcel [] [])), Stopped cause.OutsideArea)
    ∷ (1, Command (bc.Transaction (record (sending 0 1 1 [] []) { offsets_size = 8 })) (Some (parcel [] [])), Stopped cause.OutsideArea)
    ∷ (1, Command (bc.Transaction (sending 0 1 1 [] [])) (Some (parcel OBJ [])), Stopped cause.OutsideArea)
    ∷ (1, Command (bc.Transaction (sending 0 1 1 OBJ [])) (Some (parcel OBJ (0 ∷ []))), Stopped cause.OutsideArea)
    ∷ (1, Command (bc.Transaction (record (sending 0 1 1 [] []) { data_size = 5; offsets_size = 9 })) (Some (record { bytes = []; offsets = zeros 9 })), Stopped cause.OutsideArea)
    ∷ (1, Command (bc.Transaction (record (sending 0 1 1 OBJ (2 ∷ [])) { data_size = 5 })) (Some (parcel OBJ (2 ∷ []))), Stopped cause.OutsideArea)
    ∷ (1, Command (bc.Transaction (sending 0 1 1 [] [])) None, Stopped cause.OutsideArea)
    ∷ (1, Command bc.EnterLooper (Some (parcel OBJ (2 ∷ []))), Accepted) ∷ [])

-- Behind each of these steps, which of the first n seats are ready: bit i of the number stands for seat i.
abbrev pub ready_after : ℕ → Space → List (ℕ × Step) → List ℕ
ready_after n s [] = []
ready_after n s (x ∷ xs) = let z = (step s x.0 x.1).space in ready_below z n ∷ ready_after n z xs

-- A seat is ready while its own list has something, and else while it is in the loop and in no frame and its process's
-- list has something: here both seats of the manager's process, until one is in a frame and the other leaves the loop.
abbrev pub ready_seats : Type 0
ready_seats =
    ready_after 3 (ends opening base) ((2, Attach 100)
    ∷ (1, tx 0 1 0 [] [])
    ∷ (2, enter)
    ∷ (0, Read 256)
    ∷ (1, tx 0 2 1 [] [])
    ∷ (0, reply 0 0 [] [])
    ∷ (0, Read 256)
    ∷ (2, act bc.ExitLooper)
    ∷ (0, Read 256)
    ∷ (1, Read 256) ∷ [])
    ≡ 0 ∷ 3 ∷ 7 ∷ 2 ∷ 6 ∷ 7 ∷ 7 ∷ 3 ∷ 2 ∷ 0 ∷ []
