-- Reading a command or a return, on lists of bytes.
use Rattle.std.specs.Prelude.{◌≡◌, true, false, ◌+◌, ℕ, List, [], ◌∷◌, length, Result, Ok, Err, nat_lt, ◌==◌, if◌then◌else◌, Option, Some, None}
use Rattle.std.specs.Int.{w32, cast_signed}
use Rattle.bd_uapi.specs.Bytes.{word_at, long_at}
use Rattle.bd_uapi.specs.declared.command.TransactionData.{TransactionData}
use Rattle.bd_uapi.specs.declared.command.Command.{Command}
use Rattle.bd_uapi.specs.declared.command.Command.TheVariants as command
use Rattle.bd_uapi.specs.declared.command.Return.{Return}
use Rattle.bd_uapi.specs.declared.command.Return.TheVariants as returned
use Rattle.bd_uapi.specs.declared.fault.Fault.{Fault}
use Rattle.bd_uapi.specs.declared.fault.Fault.TheVariants.{ShortCommand, UnknownCommand, RefusedCommand}
use Rattle.bd_uapi.specs.Codes.{is_in}
use Rattle.bd_codec.specs.Spelling.{command_code, return_code, refused_codes}

-- the record that stands at a place
unfoldable pub record_at : ℕ → List ℕ → TransactionData
record_at i bytes = record {
  target = long_at i bytes;
  cookie = long_at (i + 8) bytes;
  code = word_at (i + 16) bytes;
  flags = record { 0 = word_at (i + 20) bytes };
  sender_pid = cast_signed w32 (word_at (i + 24) bytes);
  sender_euid = word_at (i + 28) bytes;
  data_size = long_at (i + 32) bytes;
  offsets_size = long_at (i + 40) bytes;
  buffer = long_at (i + 48) bytes;
  offsets = long_at (i + 56) bytes;
}

-- The value, if there are as many bytes as its spelling has, and else the fault of a command cut short.
abbrev pub sized : {A : Type 0} → ℕ → List ℕ → A → Result A Fault
sized n bytes x = if nat_lt (length bytes) n then Err ShortCommand else Ok x

-- The result is a value of which P holds, with the length of its spelling, if there are as many bytes, and else the fault of one cut short.
abbrev pub MakesSized : {A : Type 0} → ℕ → List ℕ → (A → Type 0) → Result (A × ℕ) Fault → Type 0
MakesSized n bytes P (Ok x) = (nat_lt (length bytes) n ≡ false) × P x.0 × (x.1 ≡ n)
MakesSized n bytes P (Err f) = (nat_lt (length bytes) n ≡ true) × (f ≡ ShortCommand)

-- a row of a table: a code, how long its spellings are, and what they read as
pub record Row (A : Type 0) : Type 0 where
  pub code : ℕ
  pub size : ℕ
  pub value : List ℕ → A

-- the rows by their payload: each value is made of the numbers there, and has one code whatever they are
abbrev pub bare_row : {A : Type 0} → (A → ℕ) → A → Row A
bare_row code x = record { code = code x; size = 4; value = λ bytes. x }

abbrev pub record_row : {A : Type 0} → (A → ℕ) → (TransactionData → A) → Row A
record_row code f = record { code = code (f (record_at 0 [])); size = 68; value = λ bytes. f (record_at 4 bytes) }

abbrev pub handle_row : {A : Type 0} → (A → ℕ) → (ℕ → A) → Row A
handle_row code f = record { code = code (f 0); size = 8; value = λ bytes. f (word_at 4 bytes) }

abbrev pub pointer_row : {A : Type 0} → (A → ℕ) → (ℕ → A) → Row A
pointer_row code f = record { code = code (f 0); size = 12; value = λ bytes. f (long_at 4 bytes) }

abbrev pub pointer_and_cookie_row : {A : Type 0} → (A → ℕ) → (ℕ → ℕ → A) → Row A
pointer_and_cookie_row code f = record { code = code (f 0 0); size = 20; value = λ bytes. f (long_at 4 bytes) (long_at 12 bytes) }

abbrev pub handle_and_cookie_row : {A : Type 0} → (A → ℕ) → (ℕ → ℕ → A) → Row A
handle_and_cookie_row code f = record { code = code (f 0 0); size = 16; value = λ bytes. f (word_at 4 bytes) (long_at 8 bytes) }

abbrev pub command_rows : List (Row Command)
command_rows =
    record_row command_code command.Transaction
    ∷ record_row command_code command.Reply
    ∷ pointer_row command_code command.FreeBuffer
    ∷ handle_row command_code command.Increfs
    ∷ handle_row command_code command.Acquire
    ∷ handle_row command_code command.Release
    ∷ handle_row command_code command.Decrefs
    ∷ pointer_and_cookie_row command_code command.IncrefsDone
    ∷ pointer_and_cookie_row command_code command.AcquireDone
    ∷ bare_row command_code command.EnterLooper
    ∷ bare_row command_code command.ExitLooper
    ∷ handle_and_cookie_row command_code command.RequestDeathNotification
    ∷ handle_and_cookie_row command_code command.ClearDeathNotification
    ∷ pointer_row command_code command.DeadBinderDone
    ∷ []

abbrev pub return_rows : List (Row Return)
return_rows =
    record_row return_code returned.Transaction
    ∷ record_row return_code returned.Reply
    ∷ bare_row return_code returned.DeadReply
    ∷ bare_row return_code returned.TransactionComplete
    ∷ pointer_and_cookie_row return_code returned.Increfs
    ∷ pointer_and_cookie_row return_code returned.Acquire
    ∷ pointer_and_cookie_row return_code returned.Release
    ∷ pointer_and_cookie_row return_code returned.Decrefs
    ∷ bare_row return_code returned.Noop
    ∷ pointer_row return_code returned.DeadBinder
    ∷ pointer_row return_code returned.ClearDeathNotificationDone
    ∷ bare_row return_code returned.FailedReply
    ∷ bare_row return_code returned.OnewaySpamSuspect
    ∷ []

abbrev pub row_in : {A : Type 0} → List (Row A) → ℕ → Option (Row A)
row_in [] code = None
row_in (row ∷ rows) code = if code == row.code then Some row else row_in rows code

abbrev pub by_row : {A : Type 0} → List ℕ → Option (Row A) → ℕ → List ℕ → Result (A × ℕ) Fault
by_row refused None code bytes = Err (if is_in refused code then RefusedCommand else UnknownCommand)
by_row refused (Some row) code bytes = sized row.size bytes (row.value bytes, row.size)

-- what bytes with this code read as, by a table of rows and the codes that are refused
abbrev pub by_table : {A : Type 0} → List ℕ → List (Row A) → ℕ → List ℕ → Result (A × ℕ) Fault
by_table refused rows code bytes = by_row refused (row_in rows code) code bytes

unfoldable pub command_of : ℕ → List ℕ → Result (Command × ℕ) Fault
command_of code bytes = by_table refused_codes command_rows code bytes

unfoldable pub return_of : ℕ → List ℕ → Result (Return × ℕ) Fault
return_of code bytes = by_table [] return_rows code bytes

-- what bytes read as, by the code in the first four
abbrev pub by_code : {A : Type 0} → (ℕ → List ℕ → Result (A × ℕ) Fault) → List ℕ → Result (A × ℕ) Fault
by_code of_code bytes = if nat_lt (length bytes) 4 then Err ShortCommand else of_code (word_at 0 bytes) bytes

-- the command at the front, and how many bytes it takes, or why there is none
abbrev pub command_at : List ℕ → Result (Command × ℕ) Fault
command_at bytes = by_code command_of bytes

-- the return at the front, and how many bytes it takes, or why there is none
abbrev pub return_at : List ℕ → Result (Return × ℕ) Fault
return_at bytes = by_code return_of bytes
