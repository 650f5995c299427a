-- Worked examples that pin one definition each: a slip in any of these definitions leaves the other examples as they are.
use Rattle.std.specs.Prelude.{ℕ, ◌≡◌, List, [], ◌∷◌, ◌++◌, map}
use Rattle.bd_uapi.specs.Bytes.{long}
use Rattle.bd_uapi.specs.declared.command.Command.TheVariants as bc
use Rattle.bd_uapi.specs.declared.fault.Note.TheVariants as note
use Rattle.bd_uapi.specs.declared.fault.Cause.TheVariants as cause
use Rattle.bd_uapi.specs.declared.fault.Fault.TheVariants as fault
use Rattle.bd_space.specs.declared.step.StepAnswer.TheVariants.{Opened, Set, Exited, Accepted, Noted, Stopped, Got, Refused}
use Rattle.bd_space.specs.declared.step.Step.TheVariants.{Open, SetManager, Read, ExitThread, ExitProcess}
use Rattle.bd_space.specs.Space.{opening}
use Rattle.bd_examples.specs.Playing.{ends}
use Rattle.bd_examples.specs.Histories.{History, asked}
use Rattle.bd_examples.specs.Worked.{Plays}
use Rattle.bd_examples.specs.Common.{complete_read, untold_read, object_call_read, death_read, object_sent, handshakes_done, two_watched, second_thread}
use Rattle.bd_examples.specs.Script.{hex, tx, reply, act, enter, base, OBJ, HOBJ, OBJ2, HOBJ2, zeros}

-- The pointer of the second object with another cookie than its own.
abbrev pub OBJ2X : List ℕ
OBJ2X = hex "852a6273000000000810000000000000 0920000000000000"

-- A weak object of the sender's own with this pointer and cookie, as it stands in a parcel.
abbrev pub weak : ℕ → ℕ → List ℕ
weak ptr cookie = hex "852a627700000000" ++ long ptr ++ long cookie

-- Bytes that look like an object at 0, and like another one at 20, in the cookie of the first.
abbrev pub nested : List ℕ
nested = hex "852a6273000000000010000000000000 00200000" ++ OBJ2

-- The one-way flag has no effect in a reply, and is handed on: a reply past half of the window is accepted, and the one-way call after it
-- finds its whole budget.
abbrev pub one_way_bit_of_a_reply : Type 0
one_way_bit_of_a_reply =
    Plays ((1, tx 0 1 0 OBJ (0 ∷ []), Accepted)
    ∷ (0, Read 256, object_call_read)
    ∷ (0, reply 0 1 (zeros 2056) [], Accepted)
    ∷ (0, tx 1 2 1 [] [], Accepted)
    ∷ (1, Read 256, Got (hex "0c720000 07721080 0010000000000000 0020000000000000 08721080 0010000000000000 0020000000000000 06720000 03724080 0000000000000000 0000000000000000 00000000 01000000 00000000 e8030000 0808000000000000 0000000000000000 0000010000000000 0808010000000000") (zeros 2056) [])
    ∷ (1, enter, Accepted)
    ∷ (1, Read 256, Got (hex "0c720000 02724080 0010000000000000 0020000000000000 02000000 01000000 00000000 e8030000 0000000000000000 0000000000000000 0808010000000000 0808010000000000") [] []) ∷ [])

-- One death notification is cleared when it is told, the other while it is queued. The buffer is freed and both names go (N1), and the
-- objects too: yet the second is still told, and each completes its clearing when it is acknowledged.
abbrev pub cleared_notifications_outlive_the_name : Type 0
cleared_notifications_outlive_the_name =
    Plays (two_watched 77 78
    ++ (1, ExitProcess, Exited)
    ∷ (0, Read 256, death_read)
    ∷ (0, act (bc.ClearDeathNotification 1 77), Accepted)
    ∷ (0, act (bc.ClearDeathNotification 2 78), Accepted)
    ∷ (0, act (bc.FreeBuffer 65536), Accepted)
    ∷ (0, act (bc.ClearDeathNotification 1 77), Noted note.NoSuchNumber)
    ∷ (0, Read 256, Got (hex "0c720000 0f720880 4e00000000000000") [] [])
    ∷ (0, act (bc.DeadBinderDone 78), Accepted)
    ∷ (0, act (bc.DeadBinderDone 77), Accepted)
    ∷ (0, act (bc.DeadBinderDone 77), Noted note.NoneTold)
    ∷ (0, Read 256, Got (hex "0c720000 10720880 4e00000000000000 10720880 4d00000000000000") [] []) ∷ [])

-- The buffer of an unread call makes its target strong, so that a weak name can be acquired. When the owner ends, its
-- window's buffers go with that reference: nobody holds the object strongly any more (N3), and with the last name it is
-- gone.
abbrev pub owner_ends : History
owner_ends =
    object_sent
    ++ handshakes_done
    ++ (0, act (bc.Increfs 1), Accepted)
    ∷ (0, tx 1 2 1 [] [], Accepted)
    ∷ (0, act (bc.FreeBuffer 65536), Accepted)
    ∷ (0, act (bc.Acquire 1), Accepted)
    ∷ (0, act (bc.Release 1), Accepted)
    ∷ (1, ExitProcess, Exited)
    ∷ (0, act (bc.Acquire 1), Noted note.NotStrong)
    ∷ (0, act (bc.Decrefs 1), Accepted)
    ∷ (0, act (bc.Increfs 1), Noted note.NoSuchNumber) ∷ []

abbrev pub target_of_a_window_that_ended : Type 0
target_of_a_window_that_ended = Plays owner_ends

-- Of all objects only the manager's is left, which the step at place 1 of the history made.
abbrev pub target_is_gone : Type 0
target_is_gone = map (λ x. x.id.place) (ends opening (base ++ map asked owner_ends)).objects ≡ 1 ∷ []

-- Of the two Notices on the ended thread's list one is still wanted, and stands on the process's list now. The other
-- isn't: its object was held only by the reply that was lost with the thread, and is gone.
abbrev pub notices_made_anew_when_a_thread_ends : Type 0
notices_made_anew_when_a_thread_ends =
    Plays (second_thread
    ++ (1, tx 0 1 0 (OBJ ++ OBJ2) (0 ∷ 24 ∷ []), Accepted)
    ∷ (0, Read 256, Got (hex "0c720000 02724080 0000000000000000 0000000000000000 01000000 00000000 c8000000 d0070000 3000000000000000 1000000000000000 0000010000000000 3000010000000000") (HOBJ ++ HOBJ2) (hex "00000000000000001800000000000000"))
    ∷ (0, act (bc.Increfs 2), Accepted)
    ∷ (0, reply 0 0 HOBJ (0 ∷ []), Accepted)
    ∷ (0, act (bc.FreeBuffer 65536), Accepted)
    ∷ (2, Read 256, Refused fault.Again)
    ∷ (1, ExitThread, Exited)
    ∷ (2, Read 256, Got (hex "0c720000 07721080 0810000000000000 0820000000000000") [] [])
    ∷ (2, act (bc.IncrefsDone 4096 8192), Noted note.NoSuchObject) ∷ [])

-- A WEAK_BINDER is known by its ptr as a BINDER is: another cookie is refused (X11), also where the ptr stands earlier
-- in the same parcel only, whichever of the two is weak. With one cookie both are one object.
abbrev pub weak_binder_with_another_cookie : Type 0
weak_binder_with_another_cookie =
    Plays ((1, tx 0 1 1 OBJ (0 ∷ []), Accepted)
    ∷ (1, tx 0 1 1 (weak 4096 8193) (0 ∷ []), Stopped cause.OtherCookie)
    ∷ (1, tx 0 1 1 (OBJ2 ++ weak 4104 8201) (0 ∷ 24 ∷ []), Stopped cause.OtherCookie)
    ∷ (1, tx 0 1 1 (weak 4104 8200 ++ OBJ2X) (0 ∷ 24 ∷ []), Stopped cause.OtherCookie)
    ∷ (1, tx 0 1 1 (weak 4104 8200 ++ weak 4104 8201) (0 ∷ 24 ∷ []), Stopped cause.OtherCookie)
    ∷ (1, tx 0 1 1 (weak 4104 8200 ++ OBJ2) (0 ∷ 24 ∷ []), Accepted)
    ∷ (1, Read 256, Got (hex "0c720000 07721080 0010000000000000 0020000000000000 08721080 0010000000000000 0020000000000000 06720000 11720000 11720000 11720000 11720000 07721080 0810000000000000 0820000000000000 08721080 0810000000000000 0820000000000000 06720000") [] []) ∷ [])

-- The second BINDER begins in the cookie of the first, at 20. Each may stand alone; both together may not, in either
-- order, nor one of them twice (X9). What stands at no offset crosses as plain bytes.
abbrev pub objects_inside_one_another : Type 0
objects_inside_one_another =
    Plays ((1, tx 0 1 1 nested (0 ∷ 20 ∷ []), Stopped cause.BadObject)
    ∷ (1, tx 0 1 1 nested (20 ∷ 0 ∷ []), Stopped cause.BadObject)
    ∷ (1, tx 0 1 1 nested (20 ∷ 20 ∷ []), Stopped cause.BadObject)
    ∷ (1, tx 0 1 1 nested (0 ∷ []), Accepted)
    ∷ (1, tx 0 1 1 nested (20 ∷ []), Accepted)
    ∷ (0, Read 256, Got (hex "0c720000 02724080 0000000000000000 0000000000000000 01000000 01000000 00000000 d0070000 2c00000000000000 0800000000000000 0000010000000000 3000010000000000") (HOBJ ++ hex "0000000008100000000000000820000000000000") (hex "0000000000000000")) ∷ [])

-- FD, FDA and PTR with 20 bytes where 24 are asked for are bad (X9), and unsupported only when whole (X10). So is a
-- whole FD that is misplaced: at 2, or inside the BINDER before it.
abbrev pub unsupported_objects_cut_short : Type 0
unsupported_objects_cut_short =
    Plays ((1, tx 0 1 1 (hex "852a646600000000000000000000000000000000") (0 ∷ []), Stopped cause.BadObject)
    ∷ (1, tx 0 1 1 (hex "8561646600000000000000000000000000000000") (0 ∷ []), Stopped cause.BadObject)
    ∷ (1, tx 0 1 1 (hex "852a747000000000000000000000000000000000") (0 ∷ []), Stopped cause.BadObject)
    ∷ (1, tx 0 1 1 (hex "852a64660000000000000000000000000000000000000000") (0 ∷ []), Stopped cause.UnsupportedObject)
    ∷ (1, tx 0 1 1 (hex "856164660000000000000000000000000000000000000000") (0 ∷ []), Stopped cause.UnsupportedObject)
    ∷ (1, tx 0 1 1 (hex "852a74700000000000000000000000000000000000000000") (0 ∷ []), Stopped cause.UnsupportedObject)
    ∷ (1, tx 0 1 1 (hex "0000852a64660000000000000000000000000000000000000000") (2 ∷ []), Stopped cause.BadObject)
    ∷ (1, tx 0 1 1 (hex "852a627300000000001000000000000000200000" ++ hex "852a64660000000000000000000000000000000000000000") (0 ∷ 20 ∷ []), Stopped cause.BadObject) ∷ [])

-- Of two buffers in the manager's window one is handed out and one waits for its turn; then the manager's process ends.
abbrev pub window_ends : History
window_ends =
    object_sent
    ++ handshakes_done
    ++ (1, tx 0 2 1 (hex "6869") [], Accepted)
    ∷ (0, ExitProcess, Exited) ∷ []

-- No buffer is left at all, also none that a later process with the same pid couldn't see.
abbrev pub no_buffer_is_left : Type 0
no_buffer_is_left = (ends opening (base ++ map asked window_ends)).buffers ≡ []

-- A process's buffers go with it, one handed out and one that waited for its turn: what they carried is released to its owner, and who
-- opens with the same pid has an empty window, its whole budget and no call to read.
abbrev pub window_of_a_process_that_ended : Type 0
window_of_a_process_that_ended =
    Plays (window_ends ++ (1, enter, Accepted)
    ∷ (1, Read 256, complete_read)
    ∷ (1, Read 256, untold_read)
    ∷ (0, Open 100 1000 4096, Opened)
    ∷ (0, SetManager, Set)
    ∷ (0, enter, Accepted)
    ∷ (0, act (bc.FreeBuffer 65536), Noted note.NoSuchBuffer)
    ∷ (0, Read 256, Refused fault.Again)
    ∷ (1, tx 0 3 1 (zeros 2048) [], Accepted)
    ∷ (0, Read 256, Got (hex "0c720000 02724080 0000000000000000 0000000000000000 03000000 01000000 00000000 d0070000 0008000000000000 0000000000000000 0000010000000000 0008010000000000") (zeros 2048) []) ∷ [])
