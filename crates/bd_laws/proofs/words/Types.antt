-- The types of requests, steps and the space, passed on from where they are declared.
pub use Rattle.bd_space.specs.declared.space.Actor.{Actor}
pub use Rattle.bd_space.specs.declared.space.Buffer.{Buffer}
pub use Rattle.bd_space.specs.declared.space.Callee.{Callee}
pub use Rattle.bd_space.specs.declared.space.DeathNotification.{DeathNotification}
pub use Rattle.bd_space.specs.declared.space.Frame.{Frame}
pub use Rattle.bd_space.specs.declared.space.Holder.{Holder}
pub use Rattle.bd_space.specs.declared.space.Holder.TheVariants.{Asked, Carried, Handshake, Manager, Target}
pub use Rattle.bd_space.specs.declared.space.Origin.{Origin}
pub use Rattle.bd_space.specs.declared.space.Item.{Item}
pub use Rattle.bd_space.specs.declared.space.Name.{Name}
pub use Rattle.bd_space.specs.declared.space.Object.{Object}
pub use Rattle.bd_space.specs.declared.space.Phase.{Phase}
pub use Rattle.bd_space.specs.declared.space.Phase.TheVariants.{Armed, Done, Queued, Told}
pub use Rattle.bd_space.specs.declared.space.Process.{Process}
pub use Rattle.bd_space.specs.declared.space.Reference.{Reference}
pub use Rattle.bd_space.specs.declared.space.Resolved.{Resolved}
pub use Rattle.bd_space.specs.declared.space.Server.{Server}
pub use Rattle.bd_space.specs.declared.space.Server.TheVariants.{Gone, Pending, Serving}
pub use Rattle.bd_space.specs.declared.space.Thread.{Thread}
pub use Rattle.bd_space.specs.declared.space.TodoList.{TodoList}
pub use Rattle.bd_space.specs.declared.space.TodoList.TheVariants.{OfProcess, OfThread}
pub use Rattle.bd_space.specs.declared.space.Turn.{Turn}
pub use Rattle.bd_space.specs.declared.space.Work.{Work}
pub use Rattle.bd_space.specs.declared.space.WorkKind.{WorkKind}
pub use Rattle.bd_space.specs.declared.space.WorkKind.TheVariants.{Call, Refusal, Verdict}
pub use Rattle.bd_space.specs.declared.step.Entry.{Entry}
pub use Rattle.bd_space.specs.declared.step.Identity.{Identity}
pub use Rattle.bd_space.specs.declared.step.Parcel.{Parcel}
pub use Rattle.bd_space.specs.declared.step.Step.{Step}
pub use Rattle.bd_space.specs.declared.step.Step.TheVariants.{Attach, Command, ExitProcess, ExitThread, Open, Read, SetManager, SetSpam}
pub use Rattle.bd_space.specs.declared.step.StepAnswer.{StepAnswer}
pub use Rattle.bd_space.specs.declared.step.StepAnswer.TheVariants.{Accepted, Got, Noted}
pub use Rattle.bd_uapi.specs.Kinds.{is_own, is_strong_kind}
pub use Rattle.bd_uapi.specs.declared.command.Return.{Return}
pub use Rattle.bd_uapi.specs.declared.command.Return.TheVariants.{DeadReply, FailedReply, TransactionComplete}
pub use Rattle.bd_uapi.specs.declared.command.TransactionData.{TransactionData}
pub use Rattle.bd_uapi.specs.declared.fault.Cause.{Cause}
pub use Rattle.bd_uapi.specs.declared.fault.Cause.TheVariants.{CallerGone, DeadOwner, NoCall, NoManager, NotServing, NotStronglyNamed, OffsetsSize, OtherCookie, OutsideArea, OwnManager, Unread}
pub use Rattle.bd_uapi.specs.declared.fault.Fault.{Fault}
pub use Rattle.bd_uapi.specs.declared.fault.Fault.TheVariants.{NoMemory}
pub use Rattle.bd_uapi.specs.declared.fault.Note.{Note}
pub use Rattle.bd_uapi.specs.declared.fault.Note.TheVariants.{NoHandshake, NoneTold, NoSuchNumber, NoSuchObject, NotHandedOut}
pub use Rattle.bd_uapi.specs.declared.object.FlatObject.{FlatObject}
pub use Rattle.bd_uapi.specs.declared.object.ObjectKind.{ObjectKind}
pub use Rattle.bd_uapi.specs.declared.object.ObjectKind.TheVariants.{Binder, Handle, WeakBinder, WeakHandle}
