-- For RepliesReachTheirCallers, RepliesAnswerTheLatestOpenCall and the search `call_of_reply`: the replies that are due,
-- each on a thread's list, and none with another item's identity. For that, what frames and replies a step makes.
use Rattle.bd_laws.proofs.words.Logic.{◌≡◌, ℕ, Bool, true, false, List, Some, ◌⊎◌, inl, inr, refl, ap, sym, ◌∙◌, arith, None}
use Rattle.bd_laws.proofs.words.Types.{TransactionData, Step, Entry, Object, Process, Reference, Frame, Work, Actor, TodoList, OfThread, WorkKind, Identity}
use Rattle.bd_laws.proofs.words.Space.{Space, opening, with_work, owe, goes_to, Delivery, transacted, called, call_out, replied, read_by, change, counted, History, next, space_after, notice_of, death_of, wants_notice, object_in}
use Rattle.bd_space.specs.declared.space.WorkKind.TheVariants as work
use Rattle.bd_todo.specs.TodoList.{reply_of}
use Rattle.bd_laws.proofs.words.Laws.{In, Distinct}
use Rattle.bd_laws.proofs.Machine.EveryStep.{Keeps, every_step, every_list}
use Rattle.bd_laws.proofs.Machine.Adding.{told_keeps}
use Rattle.bd_laws.proofs.Machine.Fields.{serve_made}
use Rattle.bd_laws.proofs.Machine.Table.{keeps_by}
use Rattle.bd_laws.proofs.Lists.{in_push, in_filter, in_changed}
use Rattle.bd_laws.proofs.Readings.{always_distinct}
use Rattle.bd_audit.proofs.RepliesAreHandedOut.BuffersSent.{reply_hands}
use Rattle.bd_audit.proofs.RepliesAreHandedOut.ReplyBuffers.{always_held}
use Rattle.bd_audit.proofs.RepliesReachTheirCallers.Quiet.{sent_quiet, ripen_quiet, quiet_table, quiet_exits, quiet_closes, Quiet, with_work_quiet, answered_quiet}
use Rattle.bd_laws.proofs.ItemsAreToldApart.Identities.{Indexed, push_indexed}

-- ---- the items of this step are numbered, and stay through what follows

-- an item that is a notice which its owner wants, or neither a notice nor a death
abbrev pub Wanted : List Process → List Object → List Reference → WorkKind → Type 0
Wanted processes objects references kind =
    ((o : Identity) × (x : Object) × (kind ≡ work.Notice o) × (object_in objects o ≡ Some x) × (wants_notice processes references x ≡ true))
    ⊎ ((notice_of kind ≡ None) × (death_of kind ≡ None))

pub record Fresh (n : ℕ) (processes : List Process) (objects : List Object) (references : List Reference) (todo : List Work) : Type 0 where
  pub numbered : Indexed n todo
  pub wanted : (w : Work) → In w todo → w.id.place ≡ n → Wanted processes objects references w.kind

module _ (n : ℕ) (processes : List Process) (objects : List Object) (references : List Reference) where
  pub wanted_push : (todo : List Work) (list : TodoList) (kind : WorkKind) → Wanted processes objects references kind
      → ((w : Work) → In w todo → w.id.place ≡ n → Wanted processes objects references w.kind)
      → (w : Work) → In w (with_work n todo list kind) → w.id.place ≡ n → Wanted processes objects references w.kind
  wanted_push todo list kind k h w l at = search (arith, in_push)

  fresh_push : (todo : List Work) (list : TodoList) (kind : WorkKind) → Wanted processes objects references kind
      → Fresh n processes objects references todo → Fresh n processes objects references (with_work n todo list kind)
  fresh_push todo list kind k h = record { numbered = push_indexed n todo list kind h.numbered; wanted = wanted_push todo list kind k h.wanted }

abbrev pub Lasts : Space → Type 0
Lasts z = (w : Work) → In w z.todo → w.id.place ≡ z.steps → Wanted z.processes z.objects z.references w.kind

-- ---- what a step makes: frames and replies of its own place

pub record From (s z : Space) : Type 0 where
  pub steps : z.steps ≡ s.steps
  pub frames : (f : Frame) → In f z.frames → ((g : Frame) × In g s.frames × (f.made ≡ g.made)) ⊎ (f.made ≡ s.steps)
  pub replies : (w : Work) (b : ℕ) → In w z.todo → reply_of w.kind ≡ Some b → In w s.todo ⊎ ((b ≡ s.steps) × (w.id.place ≡ b))

from_quiet : (s z y : Space) → Quiet z y → From s y → From s z
from_quiet s z y k h = record {
  steps = k.steps ∙ h.steps;
  frames = λ f l. let g = k.frames f l in elim (h.frames g.0 g.1) [ inl x ↦ inl (x.0, x.1, g.2.made ∙ x.2) | inr e ↦ inr (g.2.made ∙ e) ];
  replies = λ w b l e. h.replies w b (k.replies w b l e) e;
}

from_quietly : (s z : Space) → Quiet z s → From s z
from_quietly s z q = from_quiet s z s q (record { steps = refl; frames = λ f l. inl (f, l, refl); replies = λ w b l e. inl l })

from_call : (s y : Space) (seat p : ℕ) (one_way : Bool) → From s y → From s (called y seat p one_way)
unfolding call_out owe
from_call s y seat p true h = h
from_call s y seat p false h = record {
  steps = h.steps;
  frames = λ f l. elim (in_push f _ y.frames l) [ inl i ↦ h.frames f i | inr is ↦ inr (sym (ap (λ (x : Frame). x.made) is) ∙ h.steps) ];
  replies = λ w b l e. h.replies w b (with_work_quiet y.steps y.todo (goes_to y seat p) (work.Call y.steps) refl w b l e) e;
}

from_transacted : (s : Space) (a : Actor) (d : TransactionData) (v : Delivery) → From s (transacted s a d v)
unfolding transacted
from_transacted s a d v = from_call s _ a.thread.seat v.receiver.made v.one_way (from_quietly s _ (sent_quiet s a d v _))

from_reply : (s y : Space) (t : ℕ) → From s y → From s (owe y (OfThread t) (work.Reply s.steps))
unfolding owe
from_reply s y t h = search (arith, in_push, h.frames, h.replies)

from_replied : (s : Space) (a : Actor) (d : TransactionData) (f : Frame) (v : Delivery) → From s (replied s a d f v)
unfolding replied
from_replied s a d f v = told_keeps (From s) (work.Reply s.steps) (from_reply s) _ f.caller (from_quietly s _ (answered_quiet s a d f v))

from_read : (s : Space) (seat : ℕ) (ws : List Work) → From s (read_by s seat ws)
unfolding read_by
from_read s seat ws = search (arith, in_changed, serve_made, in_filter)

from_kept : (s : Space) (seat : ℕ) (x : Step) → Keeps s seat x (From s) (From s)
from_kept s seat x = search (arith, keeps_by, quiet_table, from_quietly, quiet_exits, quiet_closes, from_quiet, from_transacted, from_replied, from_read, ripen_quiet)

pub step_from : (s : Space) (e : Entry) → From s (change s e.seat e.step).space
step_from s e = every_step s e.seat e.step (From s) (From s) (from_kept s e.seat e.step)

-- ---- every history

abbrev MadeHere : Space → Type 0
MadeHere s = (w : Work) (b : ℕ) → In w s.todo → reply_of w.kind ≡ Some b → w.id.place ≡ b

step_made : (s : Space) (e : Entry) → MadeHere s → MadeHere (next s e)
unfolding counted
step_made s e h w b l is = elim ((step_from s e).replies w b l is) [ inl i ↦ h w b i is | inr new ↦ new.1 ]

pub record Owed (todo : List Work) : Type 0 where
  pub made : (w : Work) (b : ℕ) → In w todo → reply_of w.kind ≡ Some b → w.id.place ≡ b
  pub list : (w : Work) (b : ℕ) → In w todo → reply_of w.kind ≡ Some b → (t : ℕ) × (w.list ≡ OfThread t)
  pub one : (v w : Work) (b : ℕ) → In v todo → In w todo → reply_of v.kind ≡ Some b → reply_of w.kind ≡ Some b → v ≡ w
  pub apart : Distinct todo

abbrev pub IsOwed : Space → Type 0
IsOwed s = Owed s.todo

pub always_owed : (h : History) → IsOwed (space_after h)
unfolding space_after
always_owed h =
    let held = always_held h.entries in
    record {
      made = every_list MadeHere step_made h.entries opening (λ w b l. absurd l);
      list = λ w b l e. let x = held.buffer w b l e in (x.thread.seat, x.on);
      one = λ v w b i j e. held.one v w b i j (reply_hands v.kind b e);
      apart = always_distinct h;
    }
