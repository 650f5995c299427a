-- Worked examples at the edges of the rules: a slip in any of them leaves the other examples as they are.
use Rattle.std.specs.Prelude.{ℕ, List, [], ◌∷◌, ◌++◌, None}
use Rattle.bd_uapi.specs.declared.command.Command.TheVariants as bc
use Rattle.bd_uapi.specs.declared.fault.Note.TheVariants as note
use Rattle.bd_uapi.specs.declared.fault.Cause.TheVariants as cause
use Rattle.bd_uapi.specs.declared.fault.Fault.TheVariants as fault
use Rattle.bd_space.specs.declared.step.StepAnswer.{StepAnswer}
use Rattle.bd_space.specs.declared.step.StepAnswer.TheVariants.{Opened, Set, Exited, Accepted, Noted, Stopped, Got, Refused}
use Rattle.bd_space.specs.declared.step.Step.TheVariants.{Open, Attach, SetManager, Command, Read, ExitThread, ExitProcess}
use Rattle.bd_examples.specs.Histories.{History}
use Rattle.bd_examples.specs.Worked.{Plays}
use Rattle.bd_examples.specs.Common.{complete_read, told_read, untold_read, object_read, object_call_read, call_read, death_read, cleared_read, object_sent, handshakes_done, kept_weakly, two_watched, second_thread}
use Rattle.bd_examples.specs.Script.{hex, sending, tx, reply, act, enter, OBJ, HOBJ, OBJ2, OBJ3, OBJ0, HOBJ2, WOBJ, WHOBJ, zeros}

-- Handle 1 is free again while 2 is in use: the next new handle is 1, and not 3.
abbrev pub least_free_handle : Type 0
least_free_handle =
    Plays ((1, tx 0 1 1 OBJ (0 ∷ []), Accepted)
    ∷ (1, tx 0 1 1 OBJ2 (0 ∷ []), Accepted)
    ∷ (0, Read 256, object_read)
    ∷ (0, act (bc.FreeBuffer 65536), Accepted)
    ∷ (0, Read 256, Got (hex "0c720000 02724080 0000000000000000 0000000000000000 01000000 01000000 00000000 d0070000 1800000000000000 0800000000000000 2000010000000000 3800010000000000") HOBJ2 (hex "0000000000000000"))
    ∷ (0, act (bc.Increfs 2), Accepted)
    ∷ (0, act (bc.FreeBuffer 65568), Accepted)
    ∷ (1, tx 0 1 1 OBJ3 (0 ∷ []), Accepted)
    ∷ (0, Read 256, object_read) ∷ [])

-- Seat 1 knows the ended manager's object by 0. BC_INCREFS 0 and a call to 0 mean the new manager's, which gets handle
-- 1; BC_RELEASE 0 means the old one's.
abbrev pub number_0_as_a_name_and_as_the_manager : Type 0
number_0_as_a_name_and_as_the_manager =
    Plays ((1, act (bc.Acquire 0), Accepted)
    ∷ (0, ExitProcess, Exited)
    ∷ (2, Open 300 3000 4096, Opened)
    ∷ (2, SetManager, Set)
    ∷ (1, act (bc.Increfs 0), Accepted)
    ∷ (1, tx 0 1 1 [] [], Accepted)
    ∷ (1, act (bc.Release 0), Accepted)
    ∷ (1, act (bc.Release 0), Noted note.NoSuchNumber)
    ∷ (1, act (bc.Decrefs 1), Accepted) ∷ [])

-- A name that is weak is sent as WEAK_HANDLE, and not as HANDLE.
abbrev pub strong_handle_of_a_weak_name : Type 0
strong_handle_of_a_weak_name =
    Plays ((1, tx 0 1 1 WOBJ (0 ∷ []), Accepted)
    ∷ (2, Open 300 3000 4096, Opened)
    ∷ (2, tx 0 1 1 OBJ2 (0 ∷ []), Accepted)
    ∷ (0, tx 2 1 1 HOBJ (0 ∷ []), Stopped cause.NotHeld)
    ∷ (0, tx 2 1 1 WHOBJ (0 ∷ []), Accepted) ∷ [])

-- A weak name is no target (X1). It can be acquired while anybody holds the object strongly, here by the Handshake that
-- the owner hasn't acknowledged; then it is a target.
abbrev pub acquire_through_a_weak_name : Type 0
acquire_through_a_weak_name =
    Plays (object_sent
    ++ kept_weakly
    ++ (0, tx 1 1 1 [] [], Stopped cause.NotStronglyNamed)
    ∷ (0, act (bc.Acquire 1), Accepted)
    ∷ (0, tx 1 1 1 [] [], Accepted) ∷ [])

-- The flags of a flat object cross as they are.
abbrev pub object_flags : Type 0
object_flags =
    Plays ((1, tx 0 1 1 (hex "852a62737f00000000100000000000000020000000000000") (0 ∷ []), Accepted)
    ∷ (0, Read 256, Got (hex "0c720000 02724080 0000000000000000 0000000000000000 01000000 01000000 00000000 d0070000 1800000000000000 0800000000000000 0000010000000000 1800010000000000") (hex "852a68737f00000001000000000000000000000000000000") (hex "0000000000000000")) ∷ [])

-- The buffer of an unfreed call holds its target, though the caller released it: the owner is told only when it freed
-- the buffer.
abbrev pub target_held : Type 0
target_held =
    Plays ((1, tx 0 1 1 OBJ (0 ∷ []), Accepted)
    ∷ (1, Read 256, told_read)
    ∷ handshakes_done
    ++ (0, Read 256, object_read)
    ∷ (0, act (bc.Acquire 1), Accepted)
    ∷ (0, act (bc.FreeBuffer 65536), Accepted)
    ∷ (0, tx 1 1 1 [] [], Accepted)
    ∷ (0, act (bc.Release 1), Accepted)
    ∷ (1, enter, Accepted)
    ∷ (1, Read 256, Got (hex "0c720000 02724080 0010000000000000 0020000000000000 01000000 01000000 00000000 e8030000 0000000000000000 0000000000000000 0000010000000000 0000010000000000") [] [])
    ∷ (1, Read 256, Refused fault.Again)
    ∷ (1, act (bc.FreeBuffer 65536), Accepted)
    ∷ (1, Read 256, untold_read) ∷ [])

-- An object with ptr 0 that only a told value keeps is known: its process can't become manager (F10).
abbrev pub manager_with_a_known_ptr_0 : Type 0
manager_with_a_known_ptr_0 =
    Plays ((1, tx 0 1 1 OBJ0 (0 ∷ []), Accepted)
    ∷ (1, Read 256, Got (hex "0c720000 07721080 0000000000000000 0000000000000000 08721080 0000000000000000 0000000000000000 06720000") [] [])
    ∷ (1, act (bc.IncrefsDone 0 0), Accepted)
    ∷ (1, act (bc.AcquireDone 0 0), Accepted)
    ∷ (0, ExitProcess, Exited)
    ∷ (1, SetManager, Refused fault.ManagerBusy)
    ∷ (1, enter, Accepted)
    ∷ (1, Read 256, Got (hex "0c720000 09721080 0000000000000000 0000000000000000 0a721080 0000000000000000 0000000000000000") [] [])
    ∷ (1, SetManager, Set) ∷ [])

-- X1 is tried before X4: the owner has ended, and the handle isn't strongly named.
abbrev pub dead_owner_of_a_weak_name : Type 0
dead_owner_of_a_weak_name =
    Plays ((1, tx 0 1 1 WOBJ (0 ∷ []), Accepted)
    ∷ (0, Read 256, Got (hex "0c720000 02724080 0000000000000000 0000000000000000 01000000 01000000 00000000 d0070000 1800000000000000 0800000000000000 0000010000000000 1800010000000000") WHOBJ (hex "0000000000000000"))
    ∷ (1, ExitProcess, Exited)
    ∷ (0, tx 1 1 1 [] [], Stopped cause.NotStronglyNamed) ∷ [])

-- X5 is tried before X6: the thread waits for a reply, and a Call stands on its list.
abbrev pub waiting_with_a_call_to_read : Type 0
waiting_with_a_call_to_read =
    Plays ((1, tx 0 1 0 OBJ (0 ∷ []), Accepted)
    ∷ (0, Read 256, object_call_read)
    ∷ (0, tx 1 2 0 [] [], Accepted)
    ∷ (1, tx 0 3 0 [] [], Stopped cause.NotServing) ∷ [])

-- A Verdict alone on the own list refuses a two-way call (X6). The read of 72 bytes takes the Complete and leaves it.
abbrev pub unread_verdict : Type 0
unread_verdict =
    Plays ((1, tx 0 1 0 [] [], Accepted)
    ∷ (0, ExitProcess, Exited)
    ∷ (1, Read 72, complete_read)
    ∷ (2, Open 300 3000 4096, Opened)
    ∷ (2, SetManager, Set)
    ∷ (1, tx 0 2 0 [] [], Stopped cause.Unread) ∷ [])

-- X16 is tried before X7: the caller has ended, and the parcel lies outside the area.
abbrev pub reply_outside_the_area_to_a_caller_that_ended : Type 0
reply_outside_the_area_to_a_caller_that_ended =
    Plays ((1, tx 0 1 0 [] [], Accepted)
    ∷ (0, Read 256, call_read)
    ∷ (1, ExitThread, Exited)
    ∷ (0, Command (bc.Reply (record (sending 0 0 0 [] []) { data_size = 5 })) None, Stopped cause.CallerGone) ∷ [])

-- A two-way buffer of half the window leaves the one-way budget as it was.
abbrev pub budget_of_one_way_calls_alone : Type 0
budget_of_one_way_calls_alone =
    Plays ((1, tx 0 1 0 (zeros 2048) [], Accepted)
    ∷ (1, tx 0 1 1 (zeros 2048) [], Accepted) ∷ [])

-- Two threads of one process send a parcel each, and then each reads what stands on its own list.
abbrev pub sent_by_two : List ℕ → List ℕ → StepAnswer → StepAnswer → History
sent_by_two a b first second =
    (2, Attach 200, Opened)
    ∷ (1, tx 0 1 1 a (0 ∷ []), Accepted)
    ∷ (2, tx 0 1 1 b (0 ∷ []), Accepted)
    ∷ (1, Read 256, first)
    ∷ (2, Read 256, second) ∷ []

-- Seat 2 is another thread of seat 1's process. Its sending as BINDER takes the Notice over to its own list.
abbrev pub notice_moves_with_binder : Type 0
notice_moves_with_binder = Plays (sent_by_two WOBJ OBJ complete_read told_read)

-- As above, but seat 2 sends the object as WEAK_BINDER, which leaves the Notice on seat 1's list.
abbrev pub notice_stays_with_weak_binder : Type 0
notice_stays_with_weak_binder = Plays (sent_by_two OBJ WOBJ told_read complete_read)

-- In one step the Death comes before the Notice on the same list, and nothing is read after BR_DEAD_BINDER.
abbrev pub death_before_notices : Type 0
death_before_notices =
    Plays ((1, enter, Accepted)
    ∷ (1, act (bc.Increfs 0), Accepted)
    ∷ (1, act (bc.RequestDeathNotification 0 77), Accepted)
    ∷ (1, tx 0 1 1 OBJ (0 ∷ []), Accepted)
    ∷ (1, Read 256, told_read)
    ∷ handshakes_done
    ++ (0, ExitProcess, Exited)
    ∷ (1, Read 256, death_read)
    ∷ (1, Read 256, untold_read) ∷ [])

-- The name goes with the buffer, and the notification with the name.
abbrev pub notification_gone_with_its_name : Type 0
notification_gone_with_its_name =
    Plays ((1, tx 0 1 1 OBJ (0 ∷ []), Accepted)
    ∷ (0, Read 256, object_read)
    ∷ (0, act (bc.RequestDeathNotification 1 77), Accepted)
    ∷ (0, act (bc.FreeBuffer 65536), Accepted)
    ∷ (1, ExitProcess, Exited)
    ∷ (0, Read 256, Refused fault.Again) ∷ [])

-- A death notification that was acknowledged is cleared at once. A new one on a dead object is queued at once.
abbrev pub clearing_a_done_notification : Type 0
clearing_a_done_notification =
    Plays ((1, tx 0 1 1 OBJ (0 ∷ []), Accepted)
    ∷ (0, Read 256, object_read)
    ∷ (0, act (bc.RequestDeathNotification 1 77), Accepted)
    ∷ (1, ExitProcess, Exited)
    ∷ (0, Read 256, death_read)
    ∷ (0, act (bc.DeadBinderDone 77), Accepted)
    ∷ (0, act (bc.ClearDeathNotification 1 77), Accepted)
    ∷ (0, Read 256, cleared_read)
    ∷ (0, act (bc.RequestDeathNotification 1 78), Accepted)
    ∷ (0, Read 256, Got (hex "0c720000 0f720880 4e00000000000000") [] []) ∷ [])

-- BC_DEAD_BINDER_DONE takes the older of two told ones with one cookie: the first is done, and only the second, which
-- was cleared, completes its clearing.
abbrev pub least_told_notification : Type 0
least_told_notification =
    Plays (two_watched 77 77
    ++ (1, ExitProcess, Exited)
    ∷ (0, Read 256, death_read)
    ∷ (0, Read 256, death_read)
    ∷ (0, act (bc.ClearDeathNotification 2 77), Accepted)
    ∷ (0, act (bc.DeadBinderDone 77), Accepted)
    ∷ (0, Read 256, Refused fault.Again)
    ∷ (0, act (bc.DeadBinderDone 77), Accepted)
    ∷ (0, Read 256, cleared_read) ∷ [])

-- The calling thread has ended, its process lives: sender_pid is 0.
abbrev pub pid_of_a_caller_that_ended : Type 0
pid_of_a_caller_that_ended =
    Plays ((2, Attach 200, Opened)
    ∷ (1, tx 0 1 0 [] [], Accepted)
    ∷ (1, ExitThread, Exited)
    ∷ (0, Read 256, Got (hex "0c720000 02724080 0000000000000000 0000000000000000 01000000 00000000 00000000 d0070000 0000000000000000 0000000000000000 0000010000000000 0000010000000000") [] []) ∷ [])

-- A thread with an open two-way call doesn't read its process's list, and no read goes on from the thread's list to the process's.
abbrev pub one_list_a_read : Type 0
one_list_a_read =
    Plays ((1, tx 0 1 0 [] [], Accepted)
    ∷ (0, Read 256, call_read)
    ∷ (1, tx 0 2 1 [] [], Accepted)
    ∷ (0, Read 256, Refused fault.Again)
    ∷ (0, reply 0 0 [] [], Accepted)
    ∷ (0, Read 256, complete_read)
    ∷ (0, Read 256, Got (hex "0c720000 02724080 0000000000000000 0000000000000000 02000000 01000000 00000000 d0070000 0000000000000000 0000000000000000 0800010000000000 0800010000000000") [] []) ∷ [])

-- The nested call on the ended thread's list fails for its caller, its buffer's place is free again, and the Notice is made anew for the
-- process.
abbrev pub thread_ends_with_a_call_unread : Type 0
thread_ends_with_a_call_unread =
    Plays (second_thread
    ++ (1, tx 0 1 0 OBJ (0 ∷ []), Accepted)
    ∷ (0, Read 256, object_call_read)
    ∷ (0, tx 1 2 0 [] [], Accepted)
    ∷ (1, ExitThread, Exited)
    ∷ (0, Read 256, Got (hex "0c720000 06720000 05720000") [] [])
    ∷ (2, Read 256, Got (hex "0c720000 07721080 0010000000000000 0020000000000000 08721080 0010000000000000 0020000000000000") [] [])
    ∷ (0, reply 0 0 [] [], Stopped cause.CallerGone)
    ∷ (0, tx 1 3 1 [] [], Accepted)
    ∷ (2, Read 256, Got (hex "0c720000 02724080 0010000000000000 0020000000000000 03000000 01000000 00000000 e8030000 0000000000000000 0000000000000000 0000010000000000 0000010000000000") [] []) ∷ [])

-- The buffer of the unread reply goes with its thread: the next buffer in that window gets its place, 65536.
abbrev pub thread_ends_with_a_reply_unread : Type 0
thread_ends_with_a_reply_unread =
    Plays (second_thread
    ++ (2, tx 0 7 1 OBJ (0 ∷ []), Accepted)
    ∷ (2, Read 256, told_read)
    ∷ (0, Read 256, Got (hex "0c720000 02724080 0000000000000000 0000000000000000 07000000 01000000 00000000 d0070000 1800000000000000 0800000000000000 0000010000000000 1800010000000000") HOBJ (hex "0000000000000000"))
    ∷ (1, tx 0 1 0 [] [], Accepted)
    ∷ (0, Read 256, Got (hex "0c720000 02724080 0000000000000000 0000000000000000 01000000 00000000 c8000000 d0070000 0000000000000000 0000000000000000 2000010000000000 2000010000000000") [] [])
    ∷ (0, reply 0 0 (hex "2a") [], Accepted)
    ∷ (1, ExitThread, Exited)
    ∷ (0, tx 1 3 1 [] [], Accepted)
    ∷ (2, Read 256, Got (hex "0c720000 02724080 0010000000000000 0020000000000000 03000000 01000000 00000000 e8030000 0000000000000000 0000000000000000 0000010000000000 0000010000000000") [] []) ∷ [])

-- A dead owner's unacknowledged Handshake no longer makes the object strong (N3).
abbrev pub handshakes_end_with_the_process : Type 0
handshakes_end_with_the_process =
    Plays (object_sent
    ++ kept_weakly
    ++ (1, ExitProcess, Exited)
    ∷ (0, act (bc.Acquire 1), Noted note.NotStrong) ∷ [])

-- F7, F8, F5, F6: each tried where all that come later hold too.
abbrev pub order_of_the_refusals_of_opening : Type 0
order_of_the_refusals_of_opening =
    Plays ((1, Open 0 1 1, Refused fault.PidRange)
    ∷ (1, Open 100 1 1, Refused fault.WindowSize)
    ∷ (1, Open 100 1 4096, Refused fault.HasProcess) ∷ [])
