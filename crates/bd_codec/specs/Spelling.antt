-- The bytes of commands and returns: four for the code, then what the code calls for.
use Rattle.std.specs.Prelude.{◌≡◌, ◌≤◌, length, take, ◌<◌, ◌^◌, ℕ, List, [], ◌∷◌, ◌++◌}
use Rattle.bd_uapi.specs.Bytes.{word, long}
use Rattle.bd_uapi.specs.Records.{record_bytes, IsRecord}
use Rattle.bd_uapi.specs.declared.command.Command.{Command}
use Rattle.bd_uapi.specs.declared.command.Command.TheVariants.{Transaction, Reply, FreeBuffer, Increfs, Acquire, Release, Decrefs, IncrefsDone, AcquireDone, EnterLooper, ExitLooper, RequestDeathNotification, ClearDeathNotification, DeadBinderDone}
use Rattle.bd_uapi.specs.declared.command.Return.{Return}
use Rattle.bd_uapi.specs.declared.command.Return.TheVariants as returned

-- The code by which a command's spelling begins.
abbrev pub command_code : Command → ℕ
command_code (Transaction t) = 0x40406300
command_code (Reply t) = 0x40406301
command_code (FreeBuffer buffer) = 0x40086303
command_code (Increfs number) = 0x40046304
command_code (Acquire number) = 0x40046305
command_code (Release number) = 0x40046306
command_code (Decrefs number) = 0x40046307
command_code (IncrefsDone ptr cookie) = 0x40106308
command_code (AcquireDone ptr cookie) = 0x40106309
command_code EnterLooper = 0x0000630c
command_code ExitLooper = 0x0000630d
command_code (RequestDeathNotification number cookie) = 0x400c630e
command_code (ClearDeathNotification number cookie) = 0x400c630f
command_code (DeadBinderDone cookie) = 0x40086310

-- the codes of the commands that are refused by name
abbrev pub refused_codes : List ℕ
refused_codes = 0x40046302 ∷ 0x4008630a ∷ 0x0000630b ∷ 0x40486311 ∷ 0x40486312 ∷ []

-- what follows the code
abbrev pub command_payload : Command → List ℕ
command_payload (Transaction t) = record_bytes t
command_payload (Reply t) = record_bytes t
command_payload (FreeBuffer buffer) = long buffer
command_payload (Increfs n) = word n
command_payload (Acquire n) = word n
command_payload (Release n) = word n
command_payload (Decrefs n) = word n
command_payload (IncrefsDone ptr cookie) = long ptr ++ long cookie
command_payload (AcquireDone ptr cookie) = long ptr ++ long cookie
command_payload EnterLooper = []
command_payload ExitLooper = []
command_payload (RequestDeathNotification n cookie) = word n ++ long cookie
command_payload (ClearDeathNotification n cookie) = word n ++ long cookie
command_payload (DeadBinderDone cookie) = long cookie

-- how a command is spelled
abbrev pub command_bytes : Command → List ℕ
command_bytes c = word (command_code c) ++ command_payload c

-- every number of a command fits its field; each Rust value is such a command
abbrev pub IsCommand : Command → Type 0
IsCommand (Transaction t) = IsRecord t
IsCommand (Reply t) = IsRecord t
IsCommand (FreeBuffer buffer) = buffer < 2 ^ 64
IsCommand (Increfs n) = n < 2 ^ 32
IsCommand (Acquire n) = n < 2 ^ 32
IsCommand (Release n) = n < 2 ^ 32
IsCommand (Decrefs n) = n < 2 ^ 32
IsCommand (IncrefsDone ptr cookie) = (ptr < 2 ^ 64) × (cookie < 2 ^ 64)
IsCommand (AcquireDone ptr cookie) = (ptr < 2 ^ 64) × (cookie < 2 ^ 64)
IsCommand EnterLooper = Unit {0}
IsCommand ExitLooper = Unit {0}
IsCommand (RequestDeathNotification n cookie) = (n < 2 ^ 32) × (cookie < 2 ^ 64)
IsCommand (ClearDeathNotification n cookie) = (n < 2 ^ 32) × (cookie < 2 ^ 64)
IsCommand (DeadBinderDone cookie) = cookie < 2 ^ 64

-- the code of a return
abbrev pub return_code : Return → ℕ
return_code (returned.Transaction t) = 0x80407202
return_code (returned.Reply t) = 0x80407203
return_code returned.DeadReply = 0x00007205
return_code returned.TransactionComplete = 0x00007206
return_code (returned.Increfs ptr cookie) = 0x80107207
return_code (returned.Acquire ptr cookie) = 0x80107208
return_code (returned.Release ptr cookie) = 0x80107209
return_code (returned.Decrefs ptr cookie) = 0x8010720a
return_code returned.Noop = 0x0000720c
return_code (returned.DeadBinder cookie) = 0x8008720f
return_code (returned.ClearDeathNotificationDone cookie) = 0x80087210
return_code returned.FailedReply = 0x00007211
return_code returned.OnewaySpamSuspect = 0x00007213

-- what follows the code
abbrev pub return_payload : Return → List ℕ
return_payload (returned.Transaction t) = record_bytes t
return_payload (returned.Reply t) = record_bytes t
return_payload returned.DeadReply = []
return_payload returned.TransactionComplete = []
return_payload (returned.Increfs ptr cookie) = long ptr ++ long cookie
return_payload (returned.Acquire ptr cookie) = long ptr ++ long cookie
return_payload (returned.Release ptr cookie) = long ptr ++ long cookie
return_payload (returned.Decrefs ptr cookie) = long ptr ++ long cookie
return_payload returned.Noop = []
return_payload (returned.DeadBinder cookie) = long cookie
return_payload (returned.ClearDeathNotificationDone cookie) = long cookie
return_payload returned.FailedReply = []
return_payload returned.OnewaySpamSuspect = []

-- how a return is spelled
abbrev pub return_bytes : Return → List ℕ
return_bytes r = word (return_code r) ++ return_payload r

-- Every number of a return fits its field; each Rust value is such a return.
abbrev pub IsReturn : Return → Type 0
IsReturn (returned.Transaction t) = IsRecord t
IsReturn (returned.Reply t) = IsRecord t
IsReturn returned.DeadReply = Unit {0}
IsReturn returned.TransactionComplete = Unit {0}
IsReturn (returned.Increfs ptr cookie) = (ptr < 2 ^ 64) × (cookie < 2 ^ 64)
IsReturn (returned.Acquire ptr cookie) = (ptr < 2 ^ 64) × (cookie < 2 ^ 64)
IsReturn (returned.Release ptr cookie) = (ptr < 2 ^ 64) × (cookie < 2 ^ 64)
IsReturn (returned.Decrefs ptr cookie) = (ptr < 2 ^ 64) × (cookie < 2 ^ 64)
IsReturn returned.Noop = Unit {0}
IsReturn (returned.DeadBinder cookie) = cookie < 2 ^ 64
IsReturn (returned.ClearDeathNotificationDone cookie) = cookie < 2 ^ 64
IsReturn returned.FailedReply = Unit {0}
IsReturn returned.OnewaySpamSuspect = Unit {0}

-- the first n bytes are the spelling of x
pub record Found {A : Type 0} (spelling : A → List ℕ) (IsValue : A → Type 0) (bytes : List ℕ) (x : A) (n : ℕ) : Type 0 where
  pub within : n ≤ length bytes
  pub spelled : take n bytes ≡ spelling x
  pub fits : IsValue x
