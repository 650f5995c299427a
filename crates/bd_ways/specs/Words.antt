-- The words of the space once more, with the types of its members and steps: a crate's own types reach the crates above it only
-- where one of these passes them on.
pub use Rattle.bd_space.specs.Words.{Command, Return, TransactionData, Cause, Fault, Note, WalkFault, FlatObject, Binder, WeakBinder, Handle, WeakHandle, is_own, is_strong_kind}
pub use Rattle.bd_space.specs.Words.{Space, when, first_of, is_some_and, ok_or, unless, and_then, least, round_up, overwritten, same, same_origin, changed, without_first, beq, list_any, list_all, flat_map, filter_map, concat, option_to_list}
pub use Rattle.bd_space.specs.declared.{step.Answer.Answer, step.Entry.Entry, step.Identity.Identity, step.Parcel.Parcel, step.Request.Request, step.Step.Step, step.StepAnswer.StepAnswer, step.Stop.Stop}
pub use Rattle.bd_space.specs.declared.space.{Actor.Actor, Buffer.Buffer, Callee.Callee, DeathNotification.DeathNotification, Frame.Frame, Origin.Origin, Item.Item, Name.Name, Object.Object}
pub use Rattle.bd_space.specs.declared.space.{Process.Process, Reference.Reference, Resolved.Resolved, Thread.Thread, Turn.Turn, Work.Work, WorkKind.WorkKind, Holder.Holder, Phase.Phase, Server.Server, TodoList.TodoList}
pub use Rattle.bd_space.specs.declared.space.Holder.TheVariants.{Asked, Carried, Target, Handshake, Manager}
pub use Rattle.bd_space.specs.declared.space.Phase.TheVariants.{Armed, Queued, Told, Done}
pub use Rattle.bd_space.specs.declared.space.Server.TheVariants.{Pending, Serving, Gone}
pub use Rattle.bd_space.specs.declared.space.TodoList.TheVariants.{OfThread, OfProcess}
