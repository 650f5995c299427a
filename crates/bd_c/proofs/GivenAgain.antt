-- What C is told of a command or a return gives it again.
use Rattle.std.proofs.Common.{◌≡◌, ℕ, Some, refl}
use Rattle.bd_uapi.specs.declared.command.Command.{Command}
use Rattle.bd_uapi.specs.declared.command.Command.TheVariants as command
use Rattle.bd_uapi.specs.declared.command.Return.{Return}
use Rattle.bd_uapi.specs.declared.command.Return.TheVariants as returned
use Rattle.bd_c.specs.Spelled.{command_told, command_given, return_told, return_given}

pub command_again : (c : Command) (size : ℕ) → command_given (command_told c size) ≡ Some c
command_again (command.Transaction t) size = refl
command_again (command.Reply t) size = refl
command_again (command.FreeBuffer pointer) size = refl
command_again (command.Increfs handle) size = refl
command_again (command.Acquire handle) size = refl
command_again (command.Release handle) size = refl
command_again (command.Decrefs handle) size = refl
command_again (command.IncrefsDone ptr cookie) size = refl
command_again (command.AcquireDone ptr cookie) size = refl
command_again command.EnterLooper size = refl
command_again command.ExitLooper size = refl
command_again (command.RequestDeathNotification handle cookie) size = refl
command_again (command.ClearDeathNotification handle cookie) size = refl
command_again (command.DeadBinderDone cookie) size = refl

pub return_again : (r : Return) (size : ℕ) → return_given (return_told r size) ≡ Some r
return_again (returned.Transaction t) size = refl
return_again (returned.Reply t) size = refl
return_again (returned.Increfs ptr cookie) size = refl
return_again (returned.Acquire ptr cookie) size = refl
return_again (returned.Release ptr cookie) size = refl
return_again (returned.Decrefs ptr cookie) size = refl
return_again (returned.DeadBinder cookie) size = refl
return_again (returned.ClearDeathNotificationDone cookie) size = refl
return_again returned.DeadReply size = refl
return_again returned.TransactionComplete size = refl
return_again returned.Noop size = refl
return_again returned.FailedReply size = refl
return_again returned.OnewaySpamSuspect size = refl
