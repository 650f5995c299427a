-- Worked examples of calls, objects and deaths. What each shows is said at its theorem, in src/worked.rt.
use Rattle.std.specs.Prelude.{ℕ, ◌≡◌, List, [], ◌∷◌, ◌++◌, length, map}
use Rattle.bd_uapi.specs.declared.command.Return.TheVariants as br
use Rattle.bd_uapi.specs.declared.command.Command.TheVariants as bc
use Rattle.bd_uapi.specs.declared.fault.Note.TheVariants as note
use Rattle.bd_uapi.specs.declared.fault.Cause.TheVariants as cause
use Rattle.bd_uapi.specs.declared.fault.Fault.TheVariants as fault
use Rattle.bd_space.specs.declared.step.StepAnswer.{StepAnswer}
use Rattle.bd_space.specs.declared.step.StepAnswer.TheVariants.{Opened, Set, Exited, Accepted, Noted, Stopped, Got, Refused}
use Rattle.bd_space.specs.declared.step.Step.{Step}
use Rattle.bd_space.specs.declared.step.Step.TheVariants.{Open, Attach, Read, ExitThread, ExitProcess}
use Rattle.bd_space.specs.Space.{opening}
use Rattle.bd_examples.specs.Playing.{answers}
use Rattle.bd_examples.specs.Histories.{asked, given}
use Rattle.bd_examples.specs.Script.{hex, tx, reply, act, enter, base, OBJ, HOBJ, OBJ2, WOBJ, WHOBJ, zeros, seen, reads}

abbrev pub opened : List StepAnswer
opened = Opened ∷ Set ∷ Accepted ∷ Opened ∷ []

-- Behind the base, by which seat 0 is the manager's thread and seat 1 a client, these steps get these answers.
abbrev pub Runs : List (ℕ × Step) → List StepAnswer → Type 0
Runs steps found = answers opening (base ++ steps) ≡ opened ++ found

-- The same, for steps that are written beside their answers.
abbrev pub Plays : List (ℕ × Step × StepAnswer) → Type 0
Plays history = Runs (map asked history) (map given history)

abbrev pub completes : StepAnswer
completes = reads (br.TransactionComplete ∷ []) [] []

abbrev pub refers : ℕ → ℕ → StepAnswer
refers ptr cookie = reads (br.Increfs ptr cookie ∷ br.Acquire ptr cookie ∷ br.TransactionComplete ∷ []) [] []

-- What the manager reads of a call on its object, which lies at that place of its window.
abbrev pub to_manager : ℕ → ℕ → ℕ → ℕ → ℕ → List ℕ → List ℕ → StepAnswer
to_manager code flags pid euid place bytes offsets = elim offsets [
  | [] ↦ reads (br.Transaction (seen 0 0 code flags pid euid (length bytes) 0 place) ∷ []) bytes []
  | o ∷ os ↦ reads (br.Transaction (seen 0 0 code flags pid euid (length bytes) (length (o ∷ os)) place) ∷ []) bytes (o ∷ os)
]

abbrev pub one_way_call : Type 0
one_way_call =
    Runs ((1, tx 0 7 1 (hex "6869") []) ∷ (1, Read 256) ∷ (0, Read 256) ∷ [])
    (Accepted
    ∷ Got (hex "0c72000006720000") [] []
    ∷ Got (hex "0c720000 02724080 0000000000000000 0000000000000000 07000000 01000000 00000000 d0070000 0200000000000000 0000000000000000 0000010000000000 0800010000000000") (hex "6869") []
    ∷ [])

abbrev pub call_and_reply : Type 0
call_and_reply =
    Runs ((1, tx 0 9 0 (hex "01020304") []) ∷ (1, Read 256) ∷ (0, Read 256) ∷ (0, reply 0 0 (hex "2a") []) ∷ (1, Read 256) ∷ (0, Read 256) ∷ [])
    (Accepted ∷ completes ∷ to_manager 9 0 200 2000 0 (hex "01020304") [] ∷ Accepted
    ∷ reads (br.Reply (seen 0 0 0 0 0 1000 1 0 0) ∷ []) (hex "2a") [] ∷ completes ∷ [])

abbrev pub object_steps : List (ℕ × Step)
object_steps = (1, tx 0 1 1 OBJ (0 ∷ [])) ∷ (1, Read 256) ∷ (0, Read 256) ∷ []

abbrev pub object_answers : List StepAnswer
object_answers =
    Accepted
    ∷ Got (hex "0c720000 07721080 0010000000000000 0020000000000000 08721080 0010000000000000 0020000000000000 06720000") [] []
    ∷ to_manager 1 1 0 2000 0 HOBJ (0 ∷ []) ∷ []

abbrev pub object_sent : Type 0
object_sent = Runs object_steps object_answers

abbrev pub name_lives_as_long_as_a_buffer : Type 0
name_lives_as_long_as_a_buffer =
    Runs ((1, tx 0 1 1 OBJ (0 ∷ [])) ∷ (1, Read 256) ∷ (1, tx 0 1 1 OBJ (0 ∷ [])) ∷ (0, Read 256) ∷ (0, act (bc.FreeBuffer 65536)) ∷ (0, Read 256) ∷ (0, act (bc.FreeBuffer 65568)) ∷ (1, tx 0 1 1 OBJ2 (0 ∷ [])) ∷ (0, Read 256) ∷ [])
    (Accepted ∷ refers 4096 8192 ∷ Accepted ∷ to_manager 1 1 0 2000 0 HOBJ (0 ∷ []) ∷ Accepted ∷ to_manager 1 1 0 2000 32 HOBJ (0 ∷ []) ∷ Accepted
    ∷ Accepted ∷ to_manager 1 1 0 2000 0 HOBJ (0 ∷ []) ∷ [])

-- The object is sent a second time before anybody reads: each sending has its buffer, and both have handle 1.
abbrev pub object_sent_twice : Type 0
object_sent_twice =
    Runs ((1, tx 0 1 1 OBJ (0 ∷ []))
    ∷ (1, tx 0 1 1 OBJ (0 ∷ []))
    ∷ (1, Read 256)
    ∷ (0, Read 256)
    ∷ (0, act (bc.FreeBuffer 65536))
    ∷ (0, Read 256)
    ∷ (0, act (bc.FreeBuffer 65568))
    ∷ (1, tx 0 1 1 OBJ2 (0 ∷ []))
    ∷ (0, Read 256) ∷ [])
    (Accepted
    ∷ Accepted
    ∷ Got (hex "0c720000 06720000 07721080 0010000000000000 0020000000000000 08721080 0010000000000000 0020000000000000 06720000") [] []
    ∷ to_manager 1 1 0 2000 0 HOBJ (0 ∷ [])
    ∷ Accepted
    ∷ to_manager 1 1 0 2000 32 HOBJ (0 ∷ [])
    ∷ Accepted
    ∷ Accepted
    ∷ to_manager 1 1 0 2000 0 HOBJ (0 ∷ []) ∷ [])

abbrev pub object_comes_home : Type 0
object_comes_home =
    Runs (object_steps ++ (1, enter) ∷ (0, tx 1 5 1 HOBJ (0 ∷ [])) ∷ (1, Read 256) ∷ [])
    (object_answers ++ Accepted ∷ Accepted ∷ reads (br.Transaction (seen 4096 8192 5 1 0 1000 24 1 0) ∷ []) OBJ (0 ∷ []) ∷ [])

abbrev pub other_cookie : Type 0
other_cookie =
    Runs (object_steps ++ (1, tx 0 1 1 (OBJ2 ++ hex "852a6273000000000010000000000000 0120000000000000") (0 ∷ 24 ∷ [])) ∷ (1, Read 256) ∷ (1, act (bc.IncrefsDone 4104 8200))
    ∷ (1, tx 0 1 1 (OBJ2 ++ hex "852a6273000000000810000000000000 0920000000000000") (0 ∷ 24 ∷ [])) ∷ [])
    (object_answers ++ Stopped cause.OtherCookie ∷ Got (hex "0c72000011720000") [] [] ∷ Noted note.NoSuchObject ∷ Stopped cause.OtherCookie ∷ [])

abbrev pub half_steps : List (ℕ × Step)
half_steps = (1, tx 0 1 1 (zeros 2048) []) ∷ (1, tx 0 1 1 [] []) ∷ (1, Read 256) ∷ []

abbrev pub half_answers : List StepAnswer
half_answers = Accepted ∷ Stopped cause.OverBudget ∷ Got (hex "0c720000 06720000 11720000") [] [] ∷ []

abbrev pub half_of_the_window : Type 0
half_of_the_window = Runs half_steps half_answers

abbrev pub no_room : Type 0
no_room =
    Runs (half_steps ++ (1, tx 0 1 0 (zeros 2049) []) ∷ (1, tx 0 1 0 (zeros 2048) []) ∷ (0, Read 256) ∷ (0, Read 256) ∷ [])
    (half_answers ++ Stopped cause.NoRoom ∷ Accepted ∷ to_manager 1 1 0 2000 0 (zeros 2048) [] ∷ to_manager 1 0 200 2000 2048 (zeros 2048) [] ∷ [])

abbrev pub a_buffer_carries : Type 0
a_buffer_carries =
    Runs (object_steps ++ (0, act (bc.Release 1)) ∷ (0, act (bc.FreeBuffer 65536)) ∷ (0, act (bc.Acquire 1)) ∷ [])
    (object_answers ++ Noted note.NothingAsked ∷ Accepted ∷ Noted note.NoSuchNumber ∷ [])

abbrev pub weak_object : Type 0
weak_object =
    Runs ((1, tx 0 1 1 WOBJ (0 ∷ [])) ∷ (1, Read 256) ∷ (0, Read 256) ∷ (0, act (bc.Acquire 1)) ∷ (0, act (bc.Increfs 1)) ∷ (0, tx 1 1 1 [] []) ∷ [])
    (Accepted ∷ reads (br.Increfs 4096 8192 ∷ br.TransactionComplete ∷ []) [] [] ∷ to_manager 1 1 0 2000 0 WHOBJ (0 ∷ []) ∷ Noted note.NotStrong ∷ Accepted ∷ Stopped cause.NotStronglyNamed ∷ [])

abbrev pub nested_call : Type 0
nested_call =
    Runs ((2, Attach 200) ∷ (2, enter) ∷ (1, tx 0 1 0 OBJ (0 ∷ [])) ∷ (0, Read 256) ∷ (0, tx 1 2 0 [] []) ∷ (2, Read 256) ∷ (1, Read 256) ∷ [])
    (Opened ∷ Accepted ∷ Accepted ∷ to_manager 1 0 200 2000 0 HOBJ (0 ∷ []) ∷ Accepted ∷ Refused fault.Again
    ∷ reads (br.Increfs 4096 8192 ∷ br.Acquire 4096 8192 ∷ br.TransactionComplete ∷ br.Transaction (seen 4096 8192 2 0 100 1000 0 0 0) ∷ []) [] [] ∷ [])

abbrev pub dead_server : Type 0
dead_server =
    Runs ((2, Open 300 3000 4096) ∷ (2, enter) ∷ (2, tx 0 1 1 OBJ (0 ∷ [])) ∷ (2, Read 256) ∷ (0, Read 256) ∷ (1, tx 0 2 0 [] []) ∷ (1, Read 256) ∷ (0, Read 256) ∷ (0, reply 0 0 HOBJ (0 ∷ [])) ∷ (0, Read 256) ∷ (1, Read 256)
    ∷ (1, tx 1 3 0 [] []) ∷ (1, Read 256) ∷ (2, Read 256) ∷ (2, tx 0 4 0 [] []) ∷ (2, Read 256) ∷ (0, Read 256) ∷ (2, ExitThread) ∷ (1, Read 256) ∷ (0, reply 0 0 [] []) ∷ (0, Read 256) ∷ (1, Read 256) ∷ [])
    (Opened ∷ Accepted ∷ Accepted ∷ refers 4096 8192 ∷ to_manager 1 1 0 3000 0 HOBJ (0 ∷ []) ∷ Accepted ∷ completes ∷ to_manager 2 0 200 2000 32 [] [] ∷ Accepted ∷ completes ∷ reads (br.Reply (seen 0 0 0 0 0 1000 24 1 0) ∷ []) HOBJ (0 ∷ [])
    ∷ Accepted ∷ completes ∷ reads (br.Transaction (seen 4096 8192 3 0 200 2000 0 0 0) ∷ []) [] [] ∷ Accepted ∷ completes ∷ to_manager 4 0 300 3000 40 [] [] ∷ Exited ∷ Refused fault.Again ∷ Stopped cause.CallerGone ∷ completes ∷ Got (hex "0c72000005720000") [] [] ∷ [])

abbrev pub one_way_turns : Type 0
one_way_turns =
    Runs ((1, tx 0 1 1 (hex "6869") []) ∷ (1, tx 0 1 1 (hex "6869") []) ∷ (1, tx 0 1 1 (hex "6869") []) ∷ (0, Read 256) ∷ (0, Read 256) ∷ (0, act (bc.FreeBuffer 65536)) ∷ (0, Read 256) ∷ (0, act (bc.FreeBuffer 65544)) ∷ (0, Read 256) ∷ [])
    (Accepted ∷ Accepted ∷ Accepted ∷ to_manager 1 1 0 2000 0 (hex "6869") [] ∷ Refused fault.Again ∷ Accepted ∷ to_manager 1 1 0 2000 8 (hex "6869") [] ∷ Accepted ∷ to_manager 1 1 0 2000 16 (hex "6869") [] ∷ [])

abbrev pub death_told : Type 0
death_told =
    Runs (object_steps ++ (0, act (bc.RequestDeathNotification 1 77)) ∷ (1, ExitProcess) ∷ (0, Read 256) ∷ (0, act (bc.ClearDeathNotification 1 77)) ∷ (0, Read 256) ∷ (0, act (bc.DeadBinderDone 77)) ∷ (0, Read 256) ∷ (0, tx 1 1 1 [] []) ∷ (0, Read 256) ∷ [])
    (object_answers ++ Accepted ∷ Exited ∷ Got (hex "0c720000 0f720880 4d00000000000000") [] [] ∷ Accepted ∷ Refused fault.Again ∷ Accepted ∷ Got (hex "0c720000 10720880 4d00000000000000") [] [] ∷ Stopped cause.DeadOwner ∷ Got (hex "0c72000005720000") [] [] ∷ [])
