-- RepliesAnswerTheLatestOpenCall: work items stand in the order in which they were made, and an identity names one item of a list.
use Rattle.bd_laws.proofs.words.Logic.{ℕ, ◌≤◌, Bool, false, List, inl, inr, ap, filter, arith}
use Rattle.bd_laws.proofs.words.Types.{TransactionData, Step, Entry, Work, Frame, Actor, TodoList, WorkKind}
use Rattle.bd_laws.proofs.words.Space.{Space, opening, with_work, owe, work_goes, closed, add_buffer, call_out, Delivery, transacted, replied, without_buffer, read_by, thread_goes, without_process, counted, with_thread, with_looping, after, next}
use Rattle.bd_space.specs.declared.space.WorkKind.TheVariants as work
use Rattle.bd_laws.proofs.words.Laws.{In, Pairs}
use Rattle.bd_laws.proofs.Lists.{in_push, in_filter, pairs_push, pairs_filter}
use Rattle.bd_laws.proofs.Machine.Adding.{told_keeps}
use Rattle.bd_laws.proofs.Machine.EveryStep.{Keeps, every_step, every_list}
use Rattle.bd_laws.proofs.Machine.Table.{Table, Exits, Any, ripen_by, sent_by, transacted_by, keeps_by}

-- no later item was made before
abbrev pub NotLater : Work → Work → Type 0
NotLater v w = v.id.place ≤ w.id.place

-- up to the end of the step at n
pub record Line (n : ℕ) (todo : List Work) : Type 0 where
  pub place : (w : Work) → In w todo → w.id.place ≤ n
  pub sorted : Pairs NotLater todo

push_line : (n : ℕ) (todo : List Work) (list : TodoList) (kind : WorkKind) → Line n todo → Line n (with_work n todo list kind)
push_line n todo list kind h = record {
  place = λ w l. elim (in_push w _ todo l) [ inl i ↦ h.place w i | inr is ↦ (let at = ap (λ (x : Work). x.id.place) is in omega arith) ];
  sorted = pairs_push NotLater _ todo h.sorted h.place;
}

filter_line : (n : ℕ) (p : Work → Bool) (todo : List Work) → Line n todo → Line n (filter p todo)
filter_line n p todo h = record { place = λ w l. h.place w (in_filter p w todo l).0; sorted = pairs_filter NotLater p todo h.sorted }

-- ---- every step

abbrev InLine : Space → Type 0
InLine z = Line z.steps z.todo

abbrev KeepsLine : Space → Space → Type 0
KeepsLine z y = InLine y → InLine z

line_table : Table KeepsLine Any
unfolding with_thread with_looping without_buffer owe work_goes
line_table = search (arith, push_line, filter_line)

line_exits : Exits KeepsLine
unfolding thread_goes without_process
line_exits = search (arith, filter_line)

transacted_line : (s : Space) (a : Actor) (d : TransactionData) (v : Delivery) → KeepsLine (transacted s a d v) s
unfolding add_buffer call_out owe
transacted_line = transacted_by KeepsLine Any line_table (λ z o. filter_line z.steps _ z.todo) (λ z b h. h) (λ spam. tt) (λ z seat p. push_line z.steps z.todo _ _)

replied_line : (s : Space) (a : Actor) (d : TransactionData) (f : Frame) (v : Delivery) → KeepsLine (replied s a d f v) s
unfolding replied closed add_buffer
replied_line s a d f v h =
    told_keeps InLine (work.Reply s.steps) (λ z t. line_table.owes z _ _ tt) _ f.caller
    (sent_by KeepsLine Any line_table (λ z o. filter_line z.steps _ z.todo) (λ z b k. k) (λ spam. tt) (closed s f.made) a d v false h)

kept : (s : Space) (seat : ℕ) (x : Step) → InLine s → Keeps s seat x InLine InLine
unfolding closed read_by
kept s seat x h = keeps_by KeepsLine Any line_table s seat x InLine (λ z k. k h) line_exits (λ z made k. k) (λ z y k. k) (λ r. tt) (λ r. tt) (record {
  transacts = λ a d parcel v e i t. transacted_line s a d v h;
  replies = λ a d parcel f v e i g t. replied_line s a d f v h;
  reads = λ a limit i e n. filter_line s.steps _ s.todo h;
  ripens = ripen_by KeepsLine Any line_table (λ made. tt);
})

step_line : (s : Space) (e : Entry) → InLine s → InLine (next s e)
unfolding counted
step_line s e h =
    let k = every_step s e.seat e.step InLine InLine (kept s e.seat e.step h) in
    record { place = λ w l. let le = k.place w l in omega arith; sorted = k.sorted }

pub always_lined : (es : List Entry) → (let z = after opening es in Line z.steps z.todo)
always_lined es = every_list InLine step_line es opening (record { place = λ w l. absurd l; sorted = tt })
