-- Texts for the numbers that C is told, and the library's version.
use Rattle.std.specs.Prelude.{ℕ, ◌==◌, List, [], ◌∷◌, if◌then◌else◌, codes}

-- the text that stands beside the number, or none, which is empty
abbrev pub text_in : List (ℕ × List ℕ) → ℕ → List ℕ
text_in [] n = []
text_in (t ∷ rest) n = if n == t.0 then t.1 else text_in rest n

-- The texts of statuses, which tell whether a call was made.
abbrev pub status_texts : List (ℕ × List ℕ)
status_texts =
    (0, codes "done")
    ∷ (1, codes "out of memory")
    ∷ (2, codes "a request of the seat is handed over")
    ∷ (3, codes "no request of the seat is handed over")
    ∷ (4, codes "another seat has the engine")
    ∷ (5, codes "there is no such request")
    ∷ (6, codes "the number of seats is out of range")
    ∷ (7, codes "all seats are taken")
    ∷ (8, codes "a seat is away")
    ∷ (9, codes "there is no journal")
    ∷ (10, codes "there is no such seat")
    ∷ (11, codes "the history is full")
    ∷ (12, codes "the bytes are not one command")
    ∷ (13, codes "the handle is not what the call is for")
    ∷ (14, codes "the journal is of no history")
    ∷ []

-- The texts of faults, by their numbers in the rules: F1 to F16.
abbrev pub fault_texts : List (ℕ × List ℕ)
fault_texts =
    (1, codes "the command is cut short")
    ∷ (2, codes "no such command")
    ∷ (3, codes "the command is not supported")
    ∷ (4, codes "the seat has no process")
    ∷ (5, codes "the seat has a process")
    ∷ (6, codes "a live process has this pid")
    ∷ (7, codes "the pid is out of range")
    ∷ (8, codes "the size of the window is out of range")
    ∷ (9, codes "no live process has this pid")
    ∷ (10, codes "there is a manager")
    ∷ (11, codes "the limit of the read is too small")
    ∷ (12, codes "there is nothing to read")
    ∷ (13, codes "the history is full")
    ∷ (14, codes "out of memory")
    ∷ (15, codes "the stream is too long")
    ∷ (16, codes "the number of seats is out of range")
    ∷ []

-- The texts of causes, by their numbers in the rules: X1 to X16.
abbrev pub cause_texts : List (ℕ × List ℕ)
cause_texts =
    (1, codes "the handle is not strongly named")
    ∷ (2, codes "there is no manager")
    ∷ (3, codes "the manager calls itself")
    ∷ (4, codes "the owner has ended")
    ∷ (5, codes "the thread does not serve its innermost call")
    ∷ (6, codes "the thread has a call or a reply to read")
    ∷ (7, codes "the parcel is outside the area")
    ∷ (8, codes "the offsets are no whole numbers")
    ∷ (9, codes "an offset or an object is bad")
    ∷ (10, codes "an object is not supported")
    ∷ (11, codes "the cookie differs")
    ∷ (12, codes "a sent handle is not held")
    ∷ (13, codes "the window has no room")
    ∷ (14, codes "the one-way buffers take over half of the window")
    ∷ (15, codes "there is no call to reply to")
    ∷ (16, codes "the caller has ended")
    ∷ []

-- The texts of notes, by their numbers in the rules: N1 to N11.
abbrev pub note_texts : List (ℕ × List ℕ)
note_texts =
    (1, codes "no such handle")
    ∷ (2, codes "nothing was asked for")
    ∷ (3, codes "there is no strong reference to share")
    ∷ (4, codes "the manager is the caller's own")
    ∷ (5, codes "no such buffer")
    ∷ (6, codes "the buffer is not yet handed out")
    ∷ (7, codes "no such object")
    ∷ (8, codes "nothing is to be acknowledged")
    ∷ (9, codes "a death notification stands already")
    ∷ (10, codes "no death notification with that cookie")
    ∷ (11, codes "no death was told with that cookie")
    ∷ []

-- the names of commands, by their codes
abbrev pub command_texts : List (ℕ × List ℕ)
command_texts =
    (0x40406300, codes "BC_TRANSACTION")
    ∷ (0x40406301, codes "BC_REPLY")
    ∷ (0x40086303, codes "BC_FREE_BUFFER")
    ∷ (0x40046304, codes "BC_INCREFS")
    ∷ (0x40046305, codes "BC_ACQUIRE")
    ∷ (0x40046306, codes "BC_RELEASE")
    ∷ (0x40046307, codes "BC_DECREFS")
    ∷ (0x40106308, codes "BC_INCREFS_DONE")
    ∷ (0x40106309, codes "BC_ACQUIRE_DONE")
    ∷ (0x0000630c, codes "BC_ENTER_LOOPER")
    ∷ (0x0000630d, codes "BC_EXIT_LOOPER")
    ∷ (0x400c630e, codes "BC_REQUEST_DEATH_NOTIFICATION")
    ∷ (0x400c630f, codes "BC_CLEAR_DEATH_NOTIFICATION")
    ∷ (0x40086310, codes "BC_DEAD_BINDER_DONE")
    ∷ (0x4008630a, codes "BC_ATTEMPT_ACQUIRE")
    ∷ (0x40046302, codes "BC_ACQUIRE_RESULT")
    ∷ (0x0000630b, codes "BC_REGISTER_LOOPER")
    ∷ (0x40486311, codes "BC_TRANSACTION_SG")
    ∷ (0x40486312, codes "BC_REPLY_SG")
    ∷ []

-- the names of returns, by their codes
abbrev pub return_texts : List (ℕ × List ℕ)
return_texts =
    (0x80407202, codes "BR_TRANSACTION")
    ∷ (0x80407203, codes "BR_REPLY")
    ∷ (0x00007205, codes "BR_DEAD_REPLY")
    ∷ (0x00007206, codes "BR_TRANSACTION_COMPLETE")
    ∷ (0x80107207, codes "BR_INCREFS")
    ∷ (0x80107208, codes "BR_ACQUIRE")
    ∷ (0x80107209, codes "BR_RELEASE")
    ∷ (0x8010720a, codes "BR_DECREFS")
    ∷ (0x0000720c, codes "BR_NOOP")
    ∷ (0x8008720f, codes "BR_DEAD_BINDER")
    ∷ (0x80087210, codes "BR_CLEAR_DEATH_NOTIFICATION_DONE")
    ∷ (0x00007211, codes "BR_FAILED_REPLY")
    ∷ (0x00007213, codes "BR_ONEWAY_SPAM_SUSPECT")
    ∷ []

-- The text of a number of this kind: 1 status, 2 fault, 3 cause, 4 note, 5 command, 6 return.
abbrev pub text_of : ℕ → ℕ → List ℕ
text_of kind n =
    if kind == 1 then text_in status_texts n
    else (if kind == 2 then text_in fault_texts n
    else (if kind == 3 then text_in cause_texts n
    else (if kind == 4 then text_in note_texts n
    else (if kind == 5 then text_in command_texts n
    else (if kind == 6 then text_in return_texts n
    else [])))))

-- The version of the library, 2.0.0, with a byte for each of its numbers.
abbrev pub version : ℕ
version = 0x020000
