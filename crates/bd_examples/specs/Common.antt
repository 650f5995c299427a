-- What is read and done again and again in worked examples, byte for byte.
use Rattle.std.specs.Prelude.{ℕ, [], ◌∷◌, ◌++◌}
use Rattle.bd_uapi.specs.declared.command.Command.TheVariants as bc
use Rattle.bd_space.specs.declared.step.StepAnswer.{StepAnswer}
use Rattle.bd_space.specs.declared.step.StepAnswer.TheVariants.{Opened, Accepted, Got}
use Rattle.bd_space.specs.declared.step.Step.TheVariants.{Open, Attach, Read}
use Rattle.bd_examples.specs.Histories.{History}
use Rattle.bd_examples.specs.Script.{hex, tx, act, enter, OBJ, HOBJ, OBJ2, HOBJ2}

-- A call was accepted: BR_TRANSACTION_COMPLETE alone.
abbrev pub complete_read : StepAnswer
complete_read = Got (hex "0c720000 06720000") [] []

-- The sender of the first object is told to hold it, by BR_INCREFS and BR_ACQUIRE, and that its call was accepted.
abbrev pub told_read : StepAnswer
told_read = Got (hex "0c720000 07721080 0010000000000000 0020000000000000 08721080 0010000000000000 0020000000000000 06720000") [] []

-- The owner of the first object is told that nobody holds it any more, by BR_RELEASE and BR_DECREFS.
abbrev pub untold_read : StepAnswer
untold_read = Got (hex "0c720000 09721080 0010000000000000 0020000000000000 0a721080 0010000000000000 0020000000000000") [] []

-- The manager reads the one-way call that carries the first object, with handle 1.
abbrev pub object_read : StepAnswer
object_read = Got (hex "0c720000 02724080 0000000000000000 0000000000000000 01000000 01000000 00000000 d0070000 1800000000000000 0800000000000000 0000010000000000 1800010000000000") HOBJ (hex "0000000000000000")

-- The manager reads the two-way call that carries the first object, with handle 1.
abbrev pub object_call_read : StepAnswer
object_call_read = Got (hex "0c720000 02724080 0000000000000000 0000000000000000 01000000 00000000 c8000000 d0070000 1800000000000000 0800000000000000 0000010000000000 1800010000000000") HOBJ (hex "0000000000000000")

-- The manager reads a two-way call with an empty parcel.
abbrev pub call_read : StepAnswer
call_read = Got (hex "0c720000 02724080 0000000000000000 0000000000000000 01000000 00000000 c8000000 d0070000 0000000000000000 0000000000000000 0000010000000000 0000010000000000") [] []

-- The death is told that was asked for with cookie 77: BR_DEAD_BINDER.
abbrev pub death_read : StepAnswer
death_read = Got (hex "0c720000 0f720880 4d00000000000000") [] []

-- The clearing of the death notification with cookie 77 is confirmed: BR_CLEAR_DEATH_NOTIFICATION_DONE.
abbrev pub cleared_read : StepAnswer
cleared_read = Got (hex "0c720000 10720880 4d00000000000000") [] []

-- The manager reads the one-way call that carries the first two objects, with handles 1 and 2.
abbrev pub objects_read : StepAnswer
objects_read = Got (hex "0c720000 02724080 0000000000000000 0000000000000000 01000000 01000000 00000000 d0070000 3000000000000000 1000000000000000 0000010000000000 3000010000000000") (HOBJ ++ HOBJ2) (hex "00000000000000001800000000000000")

-- The first object is sent one-way, its owner reads that it is held, and the manager reads the call.
abbrev pub object_sent : History
object_sent = (1, tx 0 1 1 OBJ (0 ∷ []), Accepted) ∷ (1, Read 256, told_read) ∷ (0, Read 256, object_read) ∷ []

-- The owner of the first object acknowledges that it is held, weakly and strongly.
abbrev pub handshakes_done : History
handshakes_done = (1, act (bc.IncrefsDone 4096 8192), Accepted) ∷ (1, act (bc.AcquireDone 4096 8192), Accepted) ∷ []

-- The manager asks for a weak reference on the first object, and frees the buffer that brought it.
abbrev pub kept_weakly : History
kept_weakly = (0, act (bc.Increfs 1), Accepted) ∷ (0, act (bc.FreeBuffer 65536), Accepted) ∷ []

-- Two objects are sent in one call, and the manager asks to be told of their deaths by these cookies.
abbrev pub two_watched : ℕ → ℕ → History
two_watched a b =
    (1, tx 0 1 1 (OBJ ++ OBJ2) (0 ∷ 24 ∷ []), Accepted)
    ∷ (0, Read 256, objects_read)
    ∷ (0, act (bc.RequestDeathNotification 1 a), Accepted)
    ∷ (0, act (bc.RequestDeathNotification 2 b), Accepted) ∷ []

-- Seat 2 gets a thread in seat 1's process, which enters the loop.
abbrev pub second_thread : History
second_thread = (2, Attach 200, Opened) ∷ (2, enter, Accepted) ∷ []

-- A third process opens. Seat 1's process and it send the manager an object each, and the manager reads the first.
abbrev pub objects_of_two : History
objects_of_two =
    (2, Open 300 3000 4096, Opened)
    ∷ (1, tx 0 1 1 OBJ (0 ∷ []), Accepted)
    ∷ (2, tx 0 1 1 OBJ2 (0 ∷ []), Accepted)
    ∷ (0, Read 256, object_read) ∷ []
