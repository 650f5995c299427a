-- The words that the space is said in: its members, steps and refusals, passed on from where they are declared, and a few of
-- its own on lists, numbers, options and identities.
use Rattle.std.specs.Prelude.{ℕ, zero, suc, ◌+◌, ◌*◌, ◌/◌, ◌==◌, Bool, true, false, ◌&&◌, List, [], ◌∷◌, ◌++◌, length, take, drop, Option, Some, None, Result, Ok, Err, if◌then◌else◌}
pub use Rattle.std.specs.{Bool.beq, List.list_any, List.list_all, List.flat_map, List.filter_map, List.concat, Option.option_to_list, Option.ok_or}
pub use Rattle.bd_uapi.specs.{declared.command.{Command.Command, Return.Return, TransactionData.TransactionData}, declared.fault.{Cause.Cause, Fault.Fault, Note.Note}, Kinds.{is_own, is_strong_kind}, Records.object_bytes}
pub use Rattle.bd_uapi.specs.declared.object.{FlatObject.FlatObject, ObjectKind.TheVariants.Binder, ObjectKind.TheVariants.WeakBinder, ObjectKind.TheVariants.Handle, ObjectKind.TheVariants.WeakHandle}
pub use Rattle.bd_codec.specs.{Reading.command_at, Spelling.return_bytes}
pub use Rattle.bd_parcel.specs.{Parcels.offsets_in, Parcels.fault_in, Reading.object_at, declared.fault.WalkFault.WalkFault}
pub use Rattle.bd_space.specs.declared.{step.Answer.Answer, step.Entry.Entry, step.Identity.Identity, step.Parcel.Parcel, step.Request.Request, step.Step.Step, step.StepAnswer.StepAnswer, step.Stop.Stop}
pub use Rattle.bd_space.specs.declared.space.{Actor.Actor, Buffer.Buffer, Callee.Callee, DeathNotification.DeathNotification, Frame.Frame, Origin.Origin, Item.Item, Name.Name, Object.Object}
pub use Rattle.bd_space.specs.declared.space.{Process.Process, Reference.Reference, Resolved.Resolved, Thread.Thread, Turn.Turn, Work.Work, WorkKind.WorkKind, Holder.Holder, Phase.Phase, Server.Server, TodoList.TodoList}
pub use Rattle.bd_space.specs.declared.space.{Holder.TheVariants.{Asked, Carried, Target, Handshake, Manager}, Phase.TheVariants.{Armed, Queued, Told, Done}, Server.TheVariants.{Pending, Serving, Gone}, TodoList.TheVariants.{OfThread, OfProcess}}
pub use Rattle.bd_space.specs.Space.{Space, opening}

-- a cause, a note or a fault where the test holds
abbrev pub when : {A : Type 0} → Bool → A → Option A
when true x = Some x
when false x = None

-- the first that there is
abbrev pub first_of : {A : Type 0} → List (Option A) → Option A
first_of [] = None
first_of (Some x ∷ os) = Some x
first_of (None ∷ os) = first_of os

-- the test of what there is; false where there is nothing
abbrev pub is_some_and : {A : Type 0} → Option A → (A → Bool) → Bool
is_some_and None p = false
is_some_and (Some x) p = p x

-- the value where nothing stands against it
abbrev pub unless : {A E : Type 0} → Option E → A → Result A E
unless None x = Ok x
unless (Some e) x = Err e

-- what follows from a value; what stands against it goes on
abbrev pub and_then : {A B E : Type 0} → Result A E → (A → Result B E) → Result B E
and_then (Ok x) f = f x
and_then (Err e) f = Err e

-- the least of the n numbers from k up that passes
abbrev pub least : ℕ → ℕ → (ℕ → Bool) → Option ℕ
least zero k p = None
least (suc n) k p = elim (p k) [ true ↦ Some k | false ↦ least n (k + 1) p ]

-- n rounded up to a multiple of 8
abbrev pub round_up : ℕ → ℕ
round_up n = 8 * ((n + 7) / 8)

-- xs with the bytes ys written at this place
abbrev pub overwritten : List ℕ → ℕ → List ℕ → List ℕ
overwritten xs at ys = take at xs ++ ys ++ drop (at + length ys) xs

-- the two are one object
abbrev pub same : Identity → Identity → Bool
same a b = (a.place == b.place) && (a.index == b.index)

-- the two are one reference, or one work item
abbrev pub same_origin : Origin → Origin → Bool
same_origin a b = (a.place == b.place) && (a.index == b.index)

-- each element that passes the test is changed
abbrev pub changed : {A : Type 0} → (A → Bool) → (A → A) → List A → List A
changed p f [] = []
changed p f (x ∷ xs) = (if p x then f x else x) ∷ changed p f xs

-- the list without its first element that passes
abbrev pub without_first : {A : Type 0} → (A → Bool) → List A → List A
without_first p [] = []
without_first p (x ∷ xs) = if p x then xs else (x ∷ without_first p xs)
