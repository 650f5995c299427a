-- RepliesAnswerTheLatestOpenCall and CallsEndLatestFirst: what a step leaves as it was: the frames, the threads, and what threads
-- are still to read of their own calls.
use Rattle.bd_laws.proofs.words.Logic.{◌≡◌, ℕ, ◌<◌, ◌==◌, Bool, true, false, cond, not, List, Some, None, ◌⊎◌, inl, inr, refl, ap, sym, subst, ◌∙◌, map, filter, arith, list_any, eqb-true}
use Rattle.bd_laws.proofs.words.Types.{TransactionData, Identity, Process, Object, Reference, Thread, Work, Frame, Actor, DeathNotification, Pending, Serving, Gone, TodoList, OfThread, OfProcess, WorkKind}
use Rattle.bd_laws.proofs.words.Space.{with_looping, without_buffer, Space, owe, is_on, is_call, is_notice, same_list, work_goes, still_due, Delivery, delivered, add_buffer, transacted, called, call_out, read_by, serve, thread_goes, gone_caller, gone_server, unread_server, frame_without, unread_frame, without_process, with_thread}
use Rattle.bd_space.specs.declared.space.WorkKind.TheVariants as work
use Rattle.bd_laws.specs.Lists.{In}
use Rattle.bd_laws.proofs.Lists.{in_left, in_last, in_push, in_map, map_in, in_changed, changed_in, filter_in}
use Rattle.bd_laws.proofs.Tests.{not_false}
use Rattle.bd_laws.proofs.OnPaths.PathWords.{caller_stays}
use Rattle.bd_laws.proofs.Machine.Fields.{sent_steps, sent_frames, sent_threads}
use Rattle.bd_laws.proofs.Machine.Table.{Table, Exits, Any, sent_by}
use Rattle.bd_audit.specs.Replies.{made_in}
use Rattle.bd_audit.specs.Latest.{is_answer}
use Rattle.bd_audit.proofs.RepliesReachTheirCallers.Quiet.{made_changed}
use Rattle.bd_audit.proofs.Seated.{made_pushed, made_before, other_left}

-- no reply or verdict goes
abbrev pub Holds : List Work → List Work → Type 0
Holds ws vs = (w : Work) → is_answer w.kind ≡ true → In w vs → In w ws

holds_trans : (xs ys zs : List Work) → Holds xs ys → Holds ys zs → Holds xs zs
holds_trans xs ys zs h k w a l = h w a (k w a l)

pub holds_owe : (z : Space) (list : TodoList) (kind : WorkKind) → Holds (owe z list kind).todo z.todo
unfolding owe
holds_owe z list kind v a l = in_left v z.todo _ l

holds_filter : (p : Work → Bool) (todo : List Work) → ((w : Work) → is_answer w.kind ≡ true → p w ≡ true) → Holds (filter p todo) todo
holds_filter p todo k w a l = filter_in p w todo l (k w a)

answer_due : (processes : List Process) (objects : List Object) (references : List Reference) (deaths : List DeathNotification) (kind : WorkKind)
    → is_answer kind ≡ true → still_due processes objects references deaths kind ≡ true
answer_due processes objects references deaths (work.Notice o) h = absurd (cc)
answer_due processes objects references deaths (work.Death n) h = absurd (cc)
answer_due processes objects references deaths _ h = refl

no_notice : (o : Identity) (kind : WorkKind) → is_answer kind ≡ true → not (is_notice o kind) ≡ true
no_notice o (work.Notice p) h = absurd (cc)
no_notice o _ h = refl

-- what lies between the items of two spaces
abbrev pub Held : Space → Space → Type 0
Held z y = Holds z.todo y.todo

pub holds_table : Table Held Any
unfolding with_thread with_looping without_buffer work_goes
holds_table = search (arith, holds_trans, holds_owe, holds_filter, answer_due)

pub sent_holds : (s : Space) (a : Actor) (d : TransactionData) (v : Delivery) (spam : Bool) → Held (owe (delivered s a d v) (OfThread a.thread.seat) (work.Complete spam)) s
unfolding add_buffer
sent_holds = sent_by Held Any holds_table (λ z o. holds_filter (λ (w : Work). not (is_notice o w.kind)) z.todo (λ w a. no_notice o w.kind a)) (λ z b w a l. l) (λ spam. tt)

-- ---- what a part of a step leaves

-- f was g before, of the thread that called as long as that lives: threads by their seats, those that were made before n
pub record Was (n : ℕ) (threads : List Thread) (f g : Frame) : Type 0 where
  pub made : f.made ≡ g.made
  pub parent : f.parent ≡ g.parent
  pub called : (t : ℕ) → f.caller ≡ Some t → g.caller ≡ Some t
  pub caller : (t m : ℕ) → m < n → made_in threads t ≡ Some m → g.caller ≡ Some t → f.caller ≡ Some t

-- f's server was g's, as long as that thread lives: threads by their seats, those that were made before n.
abbrev Serves : ℕ → List Thread → Frame → Frame → Type 0
Serves n threads f g = (t m : ℕ) → m < n → made_in threads t ≡ Some m → g.server ≡ Serving t → f.server ≡ Serving t

was_like : (n : ℕ) (threads : List Thread) (f g : Frame) → f.made ≡ g.made → f.parent ≡ g.parent → f.caller ≡ g.caller → Was n threads f g
was_like n threads f g made parent calls = record { made = made; parent = parent; called = λ t c. sym calls ∙ c; caller = λ t m lt i c. calls ∙ c }

pub was_same : (n : ℕ) (threads : List Thread) (f : Frame) → Was n threads f f
was_same n threads f = was_like n threads f f refl refl refl

pub record Leaves (z y : Space) : Type 0 where
  pub steps : z.steps ≡ y.steps
  pub threads : (t m : ℕ) → m < y.steps → made_in z.threads t ≡ Some m → made_in y.threads t ≡ Some m
  pub stay : (g : Frame) → In g y.frames → (f : Frame) × In f z.frames × Was y.steps z.threads f g
  pub came : (f : Frame) → In f z.frames → (g : Frame) × In g y.frames × Was y.steps z.threads f g × Serves y.steps z.threads f g
  pub answers : (w : Work) (t m : ℕ) → m < y.steps → made_in z.threads t ≡ Some m → w.list ≡ OfThread t → is_answer w.kind ≡ true → In w y.todo → In w z.todo

-- frames as they were
leaves_frames : (z y : Space) → z.steps ≡ y.steps → z.frames ≡ y.frames → ((t m : ℕ) → m < y.steps → made_in z.threads t ≡ Some m → made_in y.threads t ≡ Some m) → Held z y
    → Leaves z y
leaves_frames z y steps frames threads todo = record {
  steps = steps;
  threads = threads;
  stay = λ f l. (f, subst (In f) (sym frames) l, was_same y.steps z.threads f);
  came = λ f l. (f, subst (In f) frames l, was_same y.steps z.threads f, λ t m lt i e. e);
  answers = λ w t m lt h on a l. todo w a l;
}

leaves_same : (z y : Space) → z.steps ≡ y.steps → z.threads ≡ y.threads → z.frames ≡ y.frames → Held z y → Leaves z y
leaves_same z y steps threads frames todo = leaves_frames z y steps frames (λ t m lt h. ap (λ ts. made_in ts t) (sym threads) ∙ h) todo

leaves_trans : (z y x : Space) → Leaves z y → Leaves y x → Leaves z x
leaves_trans z y x h k = record {
  steps = h.steps ∙ k.steps;
  threads = λ t m lt i. k.threads t m lt (h.threads t m (early m lt) i);
  stay = λ e l. let g = k.stay e l in let f = h.stay g.0 g.1 in (f.0, f.1, was f.0 g.0 e f.2 g.2);
  came = λ f l.
      let g = h.came f l in
      let e = k.came g.0 g.1 in
      (e.0, e.1, was f g.0 e.0 g.2 e.2, λ t m lt i serves. g.3 t m (early m lt) i (e.3 t m lt (h.threads t m (early m lt) i) serves));
  answers = λ w t m lt i on a l. h.answers w t m (early m lt) i on a (k.answers w t m lt (h.threads t m (early m lt) i) on a l);
}
  where
    early : (m : ℕ) → m < x.steps → m < y.steps
    early m lt = let e = k.steps in omega arith

    was : (f g e : Frame) → Was y.steps z.threads f g → Was x.steps y.threads g e → Was x.steps z.threads f e
    was f g e a b = record {
      made = a.made ∙ b.made;
      parent = a.parent ∙ b.parent;
      called = λ t c. b.called t (a.called t c);
      caller = λ t m lt i c. a.caller t m (early m lt) i (b.caller t m lt (h.threads t m (early m lt) i) c);
    }

pub leaves_table : Table Leaves Any
unfolding with_thread with_looping without_buffer owe work_goes
leaves_table = record {
  same = λ z. leaves_same z z refl refl refl (λ w a l. l);
  trans = leaves_trans;
  beside = λ z qs m os rs ns ds. leaves_same _ z refl refl refl (λ w a l. l);
  seats = λ z seat p. leaves_frames (with_thread z seat p) z refl refl (λ t m lt i. elim (made_pushed z.threads _ t m i) [ inl j ↦ j | inr at ↦ (let k = at.1 in absurd (omega arith)) ]) (λ w a l. l);
  loops = λ z t looping. leaves_frames (with_looping z t looping) z refl refl (λ u m lt i. sym (made_changed (λ (v : Thread). v.seat == t) looping z.threads u) ∙ i) (λ w a l. l);
  frees = λ z made. leaves_same _ z refl refl refl (λ w a l. l);
  owes = λ z list kind any. leaves_same _ z refl refl refl (holds_owe z list kind);
  sheds = λ z. leaves_same _ z refl refl refl (holds_table.sheds z);
  notice = λ o. tt;
  death = λ made. tt;
  clear = λ cookie. tt;
}

-- ---- threads and processes that end

-- where each frame becomes another
module _ (n : ℕ) (threads : List Thread) (h : Frame → Frame) (was : (g : Frame) → Was n threads (h g) g) (serves : (g : Frame) → Serves n threads (h g) g) (frames : List Frame) where
  mapped_stay : (g : Frame) → In g frames → (f : Frame) × In f (map h frames) × Was n threads f g
  mapped_stay g l = (h g, map_in h g frames l, was g)

  mapped_came : (f : Frame) → In f (map h frames) → (g : Frame) × In g frames × Was n threads f g × Serves n threads f g
  mapped_came f l = let g = in_map h f frames l in (g.0, g.1, subst (λ x. Was n threads x g.0) g.2 (was g.0), subst (λ x. Serves n threads x g.0) g.2 (serves g.0))

not_on : (gone t : ℕ) (list : TodoList) → list ≡ OfThread t → (t == gone) ≡ false → not (same_list (OfThread gone) list) ≡ true
not_on gone t list on other = search (arith, not_false, eqb-true)

goes_leaves : (z : Space) (seat : ℕ) → Leaves (thread_goes z seat) z
unfolding thread_goes
goes_leaves z seat = record {
  steps = refl;
  threads = λ t m lt i. made_before z.threads seat t m i;
  stay = mapped_stay z.steps left (frame_without z.todo seat) was serves z.frames;
  came = mapped_came z.steps left (frame_without z.todo seat) was serves z.frames;
  answers = λ w t m lt i on a l. filter_in (λ (w : Work). not (is_on (OfThread seat) w)) w z.todo l (not_on seat t w.list on (other_left z.threads seat t m i));
}
  where
    left : List Thread
    left = filter (λ (v : Thread). not (v.seat == seat)) z.threads

    was : (g : Frame) → Was z.steps left (frame_without z.todo seat g) g
    was g = record {
      made = refl;
      parent = refl;
      called = λ t c. (caller_stays seat g.caller t c).0;
      caller = λ t m lt i c. ap (gone_caller seat) c ∙ ap (λ b. cond b None (Some t)) (other_left z.threads seat t m i);
    }

    serves : (g : Frame) → Serves z.steps left (frame_without z.todo seat g) g
    serves g t m lt i e = ap (λ v. gone_server seat (unread_server z.todo (OfThread seat) g.made v)) e ∙ ap (λ b. cond b Gone (Serving t)) (other_left z.threads seat t m i)

process_leaves : (z : Space) (p : ℕ) → Leaves (without_process z p) z
unfolding without_process
process_leaves z p = record {
  steps = refl;
  threads = λ t m lt i. i;
  stay = mapped_stay z.steps z.threads (unread_frame z.todo (OfProcess p)) was serves z.frames;
  came = mapped_came z.steps z.threads (unread_frame z.todo (OfProcess p)) was serves z.frames;
  answers = λ w t m lt i on a l. filter_in (λ (w : Work). not (is_on (OfProcess p) w)) w z.todo l (ap (λ x. not (same_list (OfProcess p) x)) on);
}
  where
    was : (g : Frame) → Was z.steps z.threads (unread_frame z.todo (OfProcess p) g) g
    was g = was_like z.steps z.threads _ g refl refl refl

    serves : (g : Frame) → Serves z.steps z.threads (unread_frame z.todo (OfProcess p) g) g
    serves g t m lt i e = ap (unread_server z.todo (OfProcess p) g.made) e

pub leaves_exits : Exits Leaves
leaves_exits = record { goes = goes_leaves; rest = process_leaves }

-- ---- calls and readings

-- the frame of a call that this step makes
pub record New (s : Space) (seat : ℕ) (f : Frame) : Type 0 where
  pub made : f.made ≡ s.steps
  pub caller : f.caller ≡ Some seat
  pub server : f.server ≡ Pending

pub record Transacts (s : Space) (seat : ℕ) (one_way : Bool) (z : Space) : Type 0 where
  pub steps : z.steps ≡ s.steps
  pub threads : z.threads ≡ s.threads
  pub stay : (f : Frame) → In f s.frames → In f z.frames
  pub came : (f : Frame) → In f z.frames → In f s.frames ⊎ New s seat f
  pub new : one_way ≡ false → (f : Frame) × In f z.frames × (f.made ≡ s.steps)
  pub todo : Held z s

calls : (s y : Space) (seat p : ℕ) (one_way : Bool) → y.steps ≡ s.steps → y.threads ≡ s.threads → y.frames ≡ s.frames → Held y s → Transacts s seat one_way (called y seat p one_way)
unfolding call_out owe
calls s y seat p true steps threads frames todo = record {
  steps = steps;
  threads = threads;
  stay = λ f l. subst (In f) (sym frames) l;
  came = λ f l. inl (subst (In f) frames l);
  new = λ e. absurd (cc);
  todo = todo;
}
calls s y seat p false steps threads frames todo = record {
  steps = steps;
  threads = threads;
  stay = λ f l. in_left f y.frames _ (subst (In f) (sym frames) l);
  came = λ f l. elim (in_push f _ y.frames l) [
    | inl i ↦ inl (subst (In f) frames i)
    | inr is ↦ inr (record { made = ap (λ (x : Frame). x.made) (sym is) ∙ steps; caller = ap (λ (x : Frame). x.caller) (sym is); server = ap (λ (x : Frame). x.server) (sym is) })
  ];
  new = λ e. (_, in_last _ y.frames, steps);
  todo = λ w a l. in_left w y.todo _ (todo w a l);
}

pub transacts : (s : Space) (a : Actor) (d : TransactionData) (v : Delivery) → Transacts s a.thread.seat v.one_way (transacted s a d v)
unfolding transacted
transacts s a d v = calls s _ a.thread.seat v.receiver.made v.one_way (sent_steps s a d v _) (sent_threads s a d v _) (sent_frames s a d v _) (sent_holds s a d v _)

module _ (s : Space) (seat : ℕ) (ws : List Work) where
  abbrev serving : Frame → Frame
  serving g = cond (list_any (λ (w : Work). is_call g.made w.kind) ws) (serve seat g) g

  served_was : (n : ℕ) (threads : List Thread) (b : Bool) (g : Frame) → Was n threads (cond b (serve seat g) g) g
  served_was n threads true g = was_like n threads _ g refl refl refl
  served_was n threads false g = was_same n threads g

  pub read_stay : (g : Frame) → In g s.frames → (f : Frame) × In f (read_by s seat ws).frames × Was s.steps s.threads f g
  unfolding read_by
  read_stay g l = (serving g, changed_in (λ (x : Frame). list_any (λ (w : Work). is_call x.made w.kind) ws) (serve seat) g s.frames l, served_was s.steps s.threads _ g)

  pub read_came : (f : Frame) → In f (read_by s seat ws).frames → (g : Frame) × In g s.frames × Was s.steps s.threads f g
  unfolding read_by
  read_came f l =
      let g = in_changed (λ (x : Frame). list_any (λ (w : Work). is_call x.made w.kind) ws) (serve seat) f s.frames l in
      (g.0, g.1, subst (λ x. Was s.steps s.threads x g.0) (sym g.2) (served_was s.steps s.threads _ g.0))
