-- SpacesAreTidy: each frame has a place of its own.
use Rattle.bd_laws.proofs.words.Logic.{◌≡◌, ℕ, suc, Bool, true, false, not, List, [], ◌∷◌, inl, inr, refl, ap, sym, subst, ◌∙◌, filter, map, arith, list_any}
use Rattle.bd_laws.proofs.words.Types.{TransactionData, Step, Entry, Frame, Actor, Work, OfThread, OfProcess}
use Rattle.bd_laws.proofs.words.Space.{changed, Space, opening, closed, is_frame, owe, is_call, Delivery, delivered, transacted, called, call_out, replied, read_by, serve, thread_goes, frame_without, unread_frame, without_process, change, counted, next, is_spam, with_thread, with_looping, without_buffer, work_goes}
use Rattle.bd_space.specs.declared.space.WorkKind.TheVariants as work
use Rattle.bd_laws.proofs.words.Laws.{Pairs, OtherFrame, Framed, IsFramed}
use Rattle.bd_laws.proofs.Lists.{in_push, in_filter, in_map, in_changed, pairs_push, pairs_filter, pairs_either, pairs_changed}
use Rattle.bd_laws.proofs.Machine.Adding.{told_keeps}
use Rattle.bd_laws.proofs.Machine.EveryStep.{Keeps, every_step}
use Rattle.bd_laws.proofs.Machine.Steps.{next_steps}
use Rattle.bd_laws.proofs.Abandoned.{OneEach}
use Rattle.bd_laws.proofs.Machine.Fields.{sent_steps, sent_frames}
use Rattle.bd_laws.proofs.Machine.Table.{Table, Exits, Closing, Any, ripen_by, keeps_by}

pairs_mapped : (f : Frame → Frame) → ((x : Frame) → (f x).made ≡ x.made) → (fs : List Frame) → Pairs OtherFrame fs → Pairs OtherFrame (map f fs)
pairs_mapped f k [] h = tt
pairs_mapped f k (x ∷ xs) h =
    ((λ y l e. let z = in_map f y xs l in h.0 z.0 z.1 (sym (k x) ∙ e ∙ sym (ap (λ (w : Frame). w.made) z.2) ∙ k z.0)), pairs_mapped f k xs h.1)

pub mapped : (n : ℕ) (f : Frame → Frame) → ((x : Frame) → (f x).made ≡ x.made) → (fs : List Frame) → Framed n fs → Framed n (map f fs)
mapped n f k fs h = search (arith, in_map, pairs_mapped)

pub fewer : (n : ℕ) (p : Frame → Bool) (fs : List Frame) → Framed n fs → Framed n (filter p fs)
fewer n p fs h = search (arith, in_filter, pairs_filter)

pub served : (n : ℕ) (p : Frame → Bool) (seat : ℕ) (fs : List Frame) → Framed n fs → Framed n (changed p (serve seat) fs)
served n p seat fs h = search (arith, in_changed, pairs_changed)

-- ---- spaces

abbrev pub G : ℕ → Space → Type 0
G n z = Framed n z.frames

abbrev pub Keeping : Space → Space → Type 0
Keeping z y = (n : ℕ) → Framed n y.frames → Framed n z.frames

pub framed_table : Table Keeping Any
unfolding with_thread with_looping without_buffer owe work_goes
framed_table = search arith

pub framed_exits : Exits Keeping
unfolding thread_goes without_process
framed_exits = record { goes = λ z seat n. mapped n (frame_without z.todo seat) (λ f. refl) z.frames; rest = λ z p n. mapped n (unread_frame z.todo (OfProcess p)) (λ f. refl) z.frames }

framed_closing : Closing Keeping
unfolding closed
framed_closing z made n = fewer n (λ g. not (is_frame made g)) z.frames

called_g : (z : Space) (seat p : ℕ) (one_way : Bool) → G z.steps z → G (suc z.steps) (called z seat p one_way)
unfolding call_out owe
called_g z seat p true h = record { below = λ f l. let lt = h.below f l in omega arith; differ = h.differ }
called_g z seat p false h = record {
  below = λ f l. elim (in_push f _ z.frames l) [ inl i ↦ (let lt = h.below f i in omega arith) | inr is ↦ (let made : z.steps ≡ f.made = ap (λ (g : Frame). g.made) is in omega arith) ];
  differ = pairs_push OtherFrame _ z.frames h.differ (λ f l e. let lt = h.below f l in absurd (omega arith));
}

-- what is sent touches no frame
sent_g : (n : ℕ) (s : Space) (a : Actor) (d : TransactionData) (v : Delivery) (spam : Bool) → G n s → G n (owe (delivered s a d v) (OfThread a.thread.seat) (work.Complete spam))
sent_g n s a d v spam = search (arith, sent_frames)

pub transacted_g : (s : Space) (a : Actor) (d : TransactionData) (v : Delivery) → G s.steps s → G (suc s.steps) (transacted s a d v)
unfolding transacted
transacted_g s a d v h =
    let spam = is_spam (delivered s a d v) a v in
    let y = owe (delivered s a d v) (OfThread a.thread.seat) (work.Complete spam) in
    let e = sent_steps s a d v spam in
    subst (λ n. G (suc n) (called y a.thread.seat v.receiver.made v.one_way)) e
    (called_g y a.thread.seat v.receiver.made v.one_way (subst (λ n. G n y) (sym e) (sent_g s.steps s a d v spam h)))

replied_g : (n : ℕ) (s : Space) (a : Actor) (d : TransactionData) (f : Frame) (v : Delivery) → G n s → G n (replied s a d f v)
unfolding replied
replied_g n s a d f v h =
    told_keeps (G n) (work.Reply s.steps) (λ z t. framed_table.owes z (OfThread t) (work.Reply s.steps) tt n) _ f.caller (sent_g n (closed s f.made) a d v false (framed_closing s f.made n h))

read_g : (n : ℕ) (s : Space) (seat : ℕ) (ws : List Work) → G n s → G n (read_by s seat ws)
unfolding read_by
read_g n s seat ws h = served n (λ f. list_any (λ w. is_call f.made w.kind) ws) seat s.frames h

step_g : (s : Space) (seat : ℕ) (x : Step) → G s.steps s → Keeps s seat x (G (suc s.steps)) (G (suc s.steps))
step_g s seat x before =
    let n = suc s.steps in
    let h : G n s = record { below = λ f l. let lt = before.below f l in omega arith; differ = before.differ } in
    keeps_by Keeping Any framed_table s seat x (G n) (λ z k. k n h) framed_exits framed_closing (λ z y k. k n) (λ r. tt) (λ r. tt) (record {
      transacts = λ a d parcel v e i t. transacted_g s a d v before;
      replies = λ a d parcel f v e i g t. replied_g n s a d f v h;
      reads = λ a limit e i k. read_g n s a.thread.seat _ h;
      ripens = λ z. ripen_by Keeping Any framed_table (λ made. tt) z n;
    })

pub next_framed : (s : Space) (e : Entry) → IsFramed s → IsFramed (next s e)
unfolding counted IsFramed
next_framed s e h =
    subst (λ n. Framed n (change s e.seat e.step).space.frames) (sym (next_steps s e)) (every_step s e.seat e.step (G (suc s.steps)) (G (suc s.steps)) (step_g s e.seat e.step h))

pub opening_framed : IsFramed opening
unfolding IsFramed
opening_framed = record { below = λ f l. absurd l; differ = tt }

pub one_each_framed : (n : ℕ) (fs : List Frame) → Framed n fs → OneEach fs
one_each_framed n fs h f g l m e = search (arith, pairs_either)

pub one_each : (s : Space) → IsFramed s → OneEach s.frames
unfolding IsFramed
one_each s h = one_each_framed s.steps s.frames h
