-- Commands and returns, as C has them: a code, and the fields of what has this code.
use Rattle.std.specs.Prelude.{◌≡◌, ◌==◌, ℕ, List, [], ◌∷◌, Option, Some, None, Result, Ok, Err, pos, if◌then◌else◌}
use Rattle.bd_uapi.specs.declared.command.TransactionData.{TransactionData}
use Rattle.bd_uapi.specs.declared.command.Command.{Command}
use Rattle.bd_uapi.specs.declared.command.Command.TheVariants as command
use Rattle.bd_uapi.specs.declared.command.Return.{Return}
use Rattle.bd_uapi.specs.declared.command.Return.TheVariants as returned
use Rattle.bd_uapi.specs.declared.fault.Fault.{Fault}
use Rattle.bd_codec.specs.Spelling.{command_code, return_code}
use Rattle.bd_spelling.specs.Codes.{fault_number}
use Rattle.bd_c.specs.declared.spelled.TransactionInC.{TransactionInC}
use Rattle.bd_c.specs.declared.spelled.CommandInC.{CommandInC}
use Rattle.bd_c.specs.declared.spelled.ReturnInC.{ReturnInC}
use Rattle.bd_c.specs.Parts.{Fetches}

-- ---- records

abbrev pub no_transaction : TransactionInC
no_transaction = record { target = 0; cookie = 0; code = 0; flags = 0; sender_pid = pos 0; sender_euid = 0; data_size = 0; offsets_size = 0; buffer = 0; offsets = 0 }

abbrev pub transaction_told : TransactionData → TransactionInC
transaction_told t = record {
  target = t.target;
  cookie = t.cookie;
  code = t.code;
  flags = t.flags.0;
  sender_pid = t.sender_pid;
  sender_euid = t.sender_euid;
  data_size = t.data_size;
  offsets_size = t.offsets_size;
  buffer = t.buffer;
  offsets = t.offsets;
}

abbrev pub transaction_given : TransactionInC → TransactionData
transaction_given g = record {
  target = g.target;
  cookie = g.cookie;
  code = g.code;
  flags = record { 0 = g.flags };
  sender_pid = g.sender_pid;
  sender_euid = g.sender_euid;
  data_size = g.data_size;
  offsets_size = g.offsets_size;
  buffer = g.buffer;
  offsets = g.offsets;
}

-- ---- what C is told: the code, how many bytes it takes, and the fields that it has; all others are 0

abbrev pub bare_command : ℕ → ℕ → CommandInC
bare_command code size = record { code = code; handle = 0; pointer = 0; cookie = 0; transaction = no_transaction; size = size }

-- the fields of a command, beside its code and its size
abbrev pub fields_told : Command → CommandInC → CommandInC
fields_told (command.Transaction t) g = record g { transaction = transaction_told t }
fields_told (command.Reply t) g = record g { transaction = transaction_told t }
fields_told (command.FreeBuffer pointer) g = record g { pointer = pointer }
fields_told (command.Increfs handle) g = record g { handle = handle }
fields_told (command.Acquire handle) g = record g { handle = handle }
fields_told (command.Release handle) g = record g { handle = handle }
fields_told (command.Decrefs handle) g = record g { handle = handle }
fields_told (command.IncrefsDone ptr cookie) g = record g { pointer = ptr; cookie = cookie }
fields_told (command.AcquireDone ptr cookie) g = record g { pointer = ptr; cookie = cookie }
fields_told command.EnterLooper g = g
fields_told command.ExitLooper g = g
fields_told (command.RequestDeathNotification handle cookie) g = record g { handle = handle; cookie = cookie }
fields_told (command.ClearDeathNotification handle cookie) g = record g { handle = handle; cookie = cookie }
fields_told (command.DeadBinderDone cookie) g = record g { cookie = cookie }

abbrev pub command_told : Command → ℕ → CommandInC
command_told c size = fields_told c (bare_command (command_code c) size)

abbrev pub bare_return : ℕ → ℕ → ReturnInC
bare_return code size = record { code = code; pointer = 0; cookie = 0; transaction = no_transaction; size = size }

-- The fields of a return, beside its code and its size.
abbrev pub return_fields_told : Return → ReturnInC → ReturnInC
return_fields_told (returned.Transaction t) g = record g { transaction = transaction_told t }
return_fields_told (returned.Reply t) g = record g { transaction = transaction_told t }
return_fields_told (returned.Increfs ptr cookie) g = record g { pointer = ptr; cookie = cookie }
return_fields_told (returned.Acquire ptr cookie) g = record g { pointer = ptr; cookie = cookie }
return_fields_told (returned.Release ptr cookie) g = record g { pointer = ptr; cookie = cookie }
return_fields_told (returned.Decrefs ptr cookie) g = record g { pointer = ptr; cookie = cookie }
return_fields_told (returned.DeadBinder cookie) g = record g { cookie = cookie }
return_fields_told (returned.ClearDeathNotificationDone cookie) g = record g { cookie = cookie }
return_fields_told returned.DeadReply g = g
return_fields_told returned.TransactionComplete g = g
return_fields_told returned.Noop g = g
return_fields_told returned.FailedReply g = g
return_fields_told returned.OnewaySpamSuspect g = g

abbrev pub return_told : Return → ℕ → ReturnInC
return_told r size = return_fields_told r (bare_return (return_code r) size)

-- ---- what C gives: of all that these fields make, the one with this code

abbrev pub with_code : {A : Type 0} → (A → ℕ) → ℕ → List A → Option A
with_code code_of code [] = None
with_code code_of code (x ∷ xs) = if code == code_of x then Some x else with_code code_of code xs

abbrev pub commands_of : CommandInC → List Command
commands_of g =
    command.Transaction (transaction_given g.transaction)
    ∷ command.Reply (transaction_given g.transaction)
    ∷ command.FreeBuffer g.pointer
    ∷ command.Increfs g.handle
    ∷ command.Acquire g.handle
    ∷ command.Release g.handle
    ∷ command.Decrefs g.handle
    ∷ command.IncrefsDone g.pointer g.cookie
    ∷ command.AcquireDone g.pointer g.cookie
    ∷ command.EnterLooper
    ∷ command.ExitLooper
    ∷ command.RequestDeathNotification g.handle g.cookie
    ∷ command.ClearDeathNotification g.handle g.cookie
    ∷ command.DeadBinderDone g.cookie
    ∷ []

abbrev pub command_given : CommandInC → Option Command
command_given g = with_code command_code g.code (commands_of g)

abbrev pub returns_of : ReturnInC → List Return
returns_of g =
    returned.Transaction (transaction_given g.transaction)
    ∷ returned.Reply (transaction_given g.transaction)
    ∷ returned.DeadReply
    ∷ returned.TransactionComplete
    ∷ returned.Increfs g.pointer g.cookie
    ∷ returned.Acquire g.pointer g.cookie
    ∷ returned.Release g.pointer g.cookie
    ∷ returned.Decrefs g.pointer g.cookie
    ∷ returned.Noop
    ∷ returned.DeadBinder g.cookie
    ∷ returned.ClearDeathNotificationDone g.cookie
    ∷ returned.FailedReply
    ∷ returned.OnewaySpamSuspect
    ∷ []

abbrev pub return_given : ReturnInC → Option Return
return_given g = with_code return_code g.code (returns_of g)

-- ---- what a call does

-- what was read is told, and the answer is 0; or it is the number of the fault by which nothing could be read
abbrev pub TellsRead : {A B : Type 0} → (A → ℕ → B) → Result (A × ℕ) Fault → B → B → ℕ → Type 0
TellsRead told (Ok r) old new answer = (answer ≡ 0) × (new ≡ told r.0 r.1)
TellsRead told (Err fault) old new answer = (answer ≡ fault_number fault) × (new ≡ old)

-- the bytes of what is given are fetched, or nothing is given, and it has none
abbrev pub Spells : {A : Type 0} → (A → List ℕ) → Option A → List ℕ → List ℕ → ℕ → Type 0
Spells spelling None old new size = (size ≡ 0) × (new ≡ old)
Spells spelling (Some x) old new size = Fetches (spelling x) old new size
