-- For every law and the engine: a step is made at one place. Its changes count no step, and then it is counted.
use Rattle.bd_laws.proofs.words.Logic.{arith, ◌≡◌, ℕ, suc, ◌+◌, false, List, [], ◌∷◌, length, refl, ap, ◌∙◌}
use Rattle.bd_laws.proofs.words.Types.{TransactionData, Step, Entry, Frame, Actor}
use Rattle.bd_laws.proofs.words.Space.{Space, opening, owe, work_goes, closed, add_buffer, call_out, Delivery, transacted, replied, without_buffer, read_by, thread_goes, without_process, with_thread, with_looping, change, counted, after, next}
use Rattle.bd_space.specs.declared.space.WorkKind.TheVariants as work
use Rattle.bd_laws.proofs.Machine.Adding.{told_keeps}
use Rattle.bd_laws.proofs.Machine.EveryStep.{Keeps, every_step}
use Rattle.bd_laws.proofs.Machine.Fields.{closed_steps, sent_steps}
use Rattle.bd_laws.proofs.Machine.Table.{Table, Exits, Any, ripen_by, transacted_by, keeps_by}

abbrev SameSteps : Space → Space → Type 0
SameSteps z y = z.steps ≡ y.steps

steps_table : Table SameSteps Any
unfolding with_thread with_looping without_buffer owe work_goes
steps_table = search arith

steps_exits : Exits SameSteps
unfolding thread_goes without_process
steps_exits = search arith

transacted_steps : (s : Space) (a : Actor) (d : TransactionData) (v : Delivery) → SameSteps (transacted s a d v) s
unfolding add_buffer call_out owe
transacted_steps = transacted_by SameSteps Any steps_table (λ z o. refl) (λ z b. refl) (λ spam. tt) (λ z seat p. refl)

replied_steps : (s : Space) (a : Actor) (d : TransactionData) (f : Frame) (v : Delivery) → SameSteps (replied s a d f v) s
unfolding replied
replied_steps s a d f v =
    told_keeps (λ z. SameSteps z s) (work.Reply s.steps) (λ z t h. steps_table.owes z _ _ tt ∙ h) _ f.caller (sent_steps (closed s f.made) a d v false ∙ closed_steps s f.made)

kept : (s : Space) (seat : ℕ) (x : Step) → Keeps s seat x (λ z. SameSteps z s) (λ z. SameSteps z s)
unfolding read_by
kept s seat x = keeps_by SameSteps Any steps_table s seat x _ (λ z k. k) steps_exits closed_steps (λ z y k h. k ∙ h) (λ r. tt) (λ r. tt) (record {
  transacts = λ a d parcel v e i t. transacted_steps s a d v;
  replies = λ a d parcel f v e i g t. replied_steps s a d f v;
  reads = λ a limit i e n. refl;
  ripens = λ z h. ripen_by SameSteps Any steps_table (λ made. tt) z ∙ h;
})

pub change_steps : (s : Space) (seat : ℕ) (x : Step) → (change s seat x).space.steps ≡ s.steps
change_steps s seat x = every_step s seat x _ _ (kept s seat x)

pub next_steps : (s : Space) (e : Entry) → (next s e).steps ≡ suc s.steps
unfolding counted
next_steps s e = ap suc (change_steps s e.seat e.step)

after_steps : (s : Space) (es : List Entry) → (after s es).steps ≡ s.steps + length es
after_steps s [] = omega arith
after_steps s (e ∷ es) =
    let one = next_steps s e in
    let all = after_steps (next s e) es in
    omega (arith, one, all)

-- A space counts as many steps as the history has entries.
pub always_steps : (es : List Entry) → (after opening es).steps ≡ length es
always_steps es = let all = after_steps opening es in omega (arith, all)
