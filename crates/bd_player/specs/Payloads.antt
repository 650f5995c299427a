-- What a step or a return has.
use Rattle.std.specs.Prelude.{ℕ, List, map, Some, None}
use Rattle.bd_uapi.specs.declared.command.TransactionData.{TransactionData}
use Rattle.bd_uapi.specs.declared.command.Command.{Command}
use Rattle.bd_uapi.specs.declared.command.Command.TheVariants as command
use Rattle.bd_uapi.specs.declared.command.Return.{Return}
use Rattle.bd_uapi.specs.declared.command.Return.TheVariants as returned
use Rattle.bd_space.specs.declared.step.Step.{Step}
use Rattle.bd_space.specs.declared.step.Step.TheVariants as step
use Rattle.bd_space.specs.Transactions.{handle_of}
use Rattle.bd_player.specs.declared.words.Payload.{Payload}
use Rattle.bd_player.specs.Streams.{returns_in}

abbrev pub nothing : Payload
nothing = record {
  pid = None;
  euid = None;
  window = None;
  limit = None;
  on = None;
  handle = None;
  ptr = None;
  cookie = None;
  code = None;
  flags = None;
  data_size = None;
  offsets_size = None;
  sender_pid = None;
  sender_euid = None;
  buffer = None;
}

abbrev pub of_handle : ℕ → Payload
of_handle n = record nothing { handle = Some n }

abbrev pub of_cookie : ℕ → Payload
of_cookie c = record nothing { cookie = Some c }

abbrev pub of_pointer : ℕ → ℕ → Payload
of_pointer p c = record nothing { ptr = Some p; cookie = Some c }

-- What a record says of what is sent.
abbrev pub of_record : TransactionData → Payload
of_record d = record nothing { code = Some d.code; flags = Some d.flags; data_size = Some d.data_size; offsets_size = Some d.offsets_size }

-- What a record says to its receiver: also who sent it, and where it lies.
abbrev pub of_received : TransactionData → Payload
of_received d = record (of_record d) { sender_pid = Some d.sender_pid; sender_euid = Some d.sender_euid; buffer = Some d.buffer }

abbrev pub of_command : Command → Payload
of_command (command.Transaction d) = record (of_record d) { handle = Some (handle_of d); cookie = Some d.cookie }
of_command (command.Reply d) = of_record d
of_command (command.FreeBuffer b) = record nothing { buffer = Some b }
of_command (command.Increfs n) = of_handle n
of_command (command.Acquire n) = of_handle n
of_command (command.Release n) = of_handle n
of_command (command.Decrefs n) = of_handle n
of_command (command.IncrefsDone p c) = of_pointer p c
of_command (command.AcquireDone p c) = of_pointer p c
of_command command.EnterLooper = nothing
of_command command.ExitLooper = nothing
of_command (command.RequestDeathNotification n c) = record (of_cookie c) { handle = Some n }
of_command (command.ClearDeathNotification n c) = record (of_cookie c) { handle = Some n }
of_command (command.DeadBinderDone c) = of_cookie c

abbrev pub of_return : Return → Payload
of_return (returned.Transaction d) = record (of_received d) { ptr = Some d.target; cookie = Some d.cookie }
of_return (returned.Reply d) = of_received d
of_return (returned.Increfs p c) = of_pointer p c
of_return (returned.Acquire p c) = of_pointer p c
of_return (returned.Release p c) = of_pointer p c
of_return (returned.Decrefs p c) = of_pointer p c
of_return (returned.DeadBinder c) = of_cookie c
of_return (returned.ClearDeathNotificationDone c) = of_cookie c
of_return returned.DeadReply = nothing
of_return returned.TransactionComplete = nothing
of_return returned.Noop = nothing
of_return returned.FailedReply = nothing
of_return returned.OnewaySpamSuspect = nothing

abbrev pub of_step : Step → Payload
of_step (step.Open pid euid window) = record nothing { pid = Some pid; euid = Some euid; window = Some window }
of_step (step.Attach pid) = record nothing { pid = Some pid }
of_step (step.Command c parcel) = of_command c
of_step (step.Read limit) = record nothing { limit = Some limit }
of_step (step.SetSpam on) = record nothing { on = Some on }
of_step step.SetManager = nothing
of_step step.ExitThread = nothing
of_step step.ExitProcess = nothing

-- what the returns of a stream have, one after the other
abbrev pub of_returns : List ℕ → List Payload
of_returns bytes = map of_return (returns_in bytes)
