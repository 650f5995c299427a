-- For RepliesReachTheirCallers, and by it RepliesAnswerTheLatestOpenCall: parts of a step that make no frame and no reply.
use Rattle.bd_laws.proofs.words.Logic.{arith, ◌≡◌, ℕ, ◌==◌, Bool, false, not, List, [], ◌∷◌, ◌++◌, Some, None, ◌⊎◌, inl, inr, refl, ap, sym, subst, ◌∙◌, filter, option_map, eqb-true, eq-eqb}
use Rattle.bd_laws.proofs.words.Types.{TransactionData, Thread, Work, Frame, Actor, Serving, TodoList, OfThread, WorkKind}
use Rattle.bd_laws.proofs.words.Space.{completed, changed, Space, with_work, owe, is_on, is_notice, ripen, follow, work_goes, still_due, closed, Delivery, delivered, add_buffer, without_buffer, thread_goes, frame_without, without_process, with_thread, with_looping}
use Rattle.bd_space.specs.declared.space.WorkKind.TheVariants as work
use Rattle.bd_todo.specs.TodoList.{reply_of}
use Rattle.bd_laws.specs.Lists.{In}
use Rattle.bd_laws.proofs.Lists.{in_push, in_filter, in_map}
use Rattle.std.proofs.lemmas.List.Folds.{find-append}
use Rattle.bd_laws.proofs.Tests.{not_true}
use Rattle.bd_laws.proofs.Follow.{find_kept}
use Rattle.bd_laws.proofs.OnPaths.PathWords.{caller_stays, server_stays, unread_serving}
use Rattle.bd_laws.proofs.Machine.Table.{Table, Exits, Closing, followed_by, ripen_by, sent_by, completed_by}
use Rattle.bd_audit.specs.Replies.{made_in}

-- a frame of this thread, or a reply that it is to read
abbrev pub Uses : Space → ℕ → Type 0
Uses z t =
    ((f : Frame) × In f z.frames × ((f.caller ≡ Some t) ⊎ (f.server ≡ Serving t)))
    ⊎ ((w : Work) × (b : ℕ) × In w z.todo × (reply_of w.kind ≡ Some b) × (w.list ≡ OfThread t))

-- a frame as it was, but that its caller or its server may have gone
pub record Was (f g : Frame) : Type 0 where
  pub made : f.made ≡ g.made
  pub caller : (t : ℕ) → f.caller ≡ Some t → g.caller ≡ Some t
  pub server : (t : ℕ) → f.server ≡ Serving t → g.server ≡ Serving t

-- z comes from y without a new frame or reply, and each thread that z uses is the one that it was
pub record Quiet (z y : Space) : Type 0 where
  pub steps : z.steps ≡ y.steps
  pub replies : (w : Work) (b : ℕ) → In w z.todo → reply_of w.kind ≡ Some b → In w y.todo
  pub frames : (f : Frame) → In f z.frames → (g : Frame) × In g y.frames × Was f g
  pub threads : (t m : ℕ) → made_in y.threads t ≡ Some m → Uses z t → made_in z.threads t ≡ Some m

was_same : (f : Frame) → Was f f
was_same f = record { made = refl; caller = λ t e. e; server = λ t e. e }

was_trans : (f g h : Frame) → Was f g → Was g h → Was f h
was_trans f g h k l = record { made = k.made ∙ l.made; caller = λ t e. l.caller t (k.caller t e); server = λ t e. l.server t (k.server t e) }

-- frames and threads as they were
pub quiet_todo : (z y : Space) → z.steps ≡ y.steps → z.frames ≡ y.frames → z.threads ≡ y.threads
    → ((w : Work) (b : ℕ) → In w z.todo → reply_of w.kind ≡ Some b → In w y.todo) → Quiet z y
quiet_todo z y e f t k = record {
  steps = e;
  replies = k;
  frames = λ g l. (g, subst (In g) f l, was_same g);
  threads = λ s m h u. subst (λ ts. made_in ts s ≡ Some m) (sym t) h;
}

pub quiet_same : (z y : Space) → z.steps ≡ y.steps → z.frames ≡ y.frames → z.threads ≡ y.threads → z.todo ≡ y.todo → Quiet z y
quiet_same z y e f t d = quiet_todo z y e f t (λ w b l reply. subst (In w) d l)

pub uses_before : (z y : Space) → Quiet z y → (t : ℕ) → Uses z t → Uses y t
uses_before z y k t (inl u) = let g = k.frames u.0 u.1 in
    inl (g.0, g.1, elim u.2 [ inl e ↦ inl (g.2.caller t e) | inr e ↦ inr (g.2.server t e) ])
uses_before z y k t (inr u) = inr (u.0, u.1, k.replies u.0 u.1 u.2 u.3, u.3, u.4)

pub quiet_trans : (z y x : Space) → Quiet z y → Quiet y x → Quiet z x
quiet_trans z y x h k = record {
  steps = h.steps ∙ k.steps;
  replies = λ w b l e. k.replies w b (h.replies w b l e) e;
  frames = λ f l. let g = h.frames f l in let e = k.frames g.0 g.1 in (e.0, e.1, was_trans f g.0 e.0 g.2 e.2);
  threads = λ t m e u. h.threads t m (k.threads t m e (uses_before z y h t u)) u;
}

-- ---- work items

-- one work item more, which is no reply
pub with_work_quiet : (place : ℕ) (todo : List Work) (list : TodoList) (kind : WorkKind) → reply_of kind ≡ None
    → (w : Work) (b : ℕ) → In w (with_work place todo list kind) → reply_of w.kind ≡ Some b → In w todo
with_work_quiet place todo list kind none w b l e = search (arith, in_push)

pub owe_quiet : (z : Space) (list : TodoList) (kind : WorkKind) → reply_of kind ≡ None → Quiet (owe z list kind) z
unfolding owe
owe_quiet z list kind none = quiet_todo _ z refl refl refl (with_work_quiet z.steps z.todo list kind none)

-- ---- threads

made_push : (ts : List Thread) (u : Thread) (t m : ℕ) → made_in ts t ≡ Some m → made_in (ts ++ u ∷ []) t ≡ Some m
made_push ts u t m h = search (arith, find-append)

pub made_changed : (p : Thread → Bool) (looping : Bool) (ts : List Thread) (t : ℕ) → made_in (changed p (λ v. record v { looping = looping }) ts) t ≡ made_in ts t
made_changed p looping [] t = refl
made_changed p looping (x ∷ ts) t = search (arith, made_changed p looping ts t)

pub made_kept : (ts : List Thread) (gone t : ℕ) → (t == gone) ≡ false → made_in (filter (λ (v : Thread). not (v.seat == gone)) ts) t ≡ made_in ts t
made_kept ts gone t h = ap (λ o. option_map (λ (v : Thread). v.made) o) (find_kept (λ (v : Thread). v.seat == t) (λ (v : Thread). not (v.seat == gone)) ts (λ v l e. rw (eqb-true v.seat t e, h) refl))

pub attached_quiet : (z : Space) (seat p : ℕ) → Quiet (with_thread z seat p) z
unfolding with_thread
attached_quiet z seat p = search (arith, was_same, made_push)

-- ---- exits

module _ (z : Space) (seat : ℕ) where
  went : (f g : Frame) → frame_without z.todo seat g ≡ f → Was f g
  went f g e = record {
    made = ap (λ (x : Frame). x.made) (sym e);
    caller = λ t h. (caller_stays seat g.caller t (ap (λ (x : Frame). x.caller) e ∙ h)).0;
    server = λ t h. unread_serving z.todo (OfThread seat) g.made g.server t (server_stays seat _ t (ap (λ (x : Frame). x.server) e ∙ h)).0;
  }

  other_thread : (t : ℕ) → Uses (thread_goes z seat) t → (t == seat) ≡ false
  unfolding thread_goes
  other_thread t h = search (arith, in_map, caller_stays, server_stays, in_filter, not_true, eq-eqb, eqb-true)

  pub thread_goes_quiet : Quiet (thread_goes z seat) z
  unfolding thread_goes
  thread_goes_quiet = record {
    steps = refl;
    replies = λ w b l e. (in_filter (λ (x : Work). not (is_on (OfThread seat) x)) w z.todo l).0;
    frames = λ f l. let g = in_map (frame_without z.todo seat) f z.frames l in (g.0, g.1, went f g.0 g.2);
    threads = λ t m h u. made_kept z.threads seat t (other_thread t u) ∙ h;
  }

-- what is no reply
abbrev pub NotReply : WorkKind → Type 0
NotReply kind = reply_of kind ≡ None

pub quiet_table : Table Quiet NotReply
unfolding with_looping without_buffer work_goes
quiet_table = record {
  same = λ z. quiet_same z z refl refl refl refl;
  trans = quiet_trans;
  beside = λ z qs m os rs ns ds. quiet_same _ z refl refl refl refl;
  seats = attached_quiet;
  loops = λ z t looping. record {
    steps = refl;
    replies = λ w b l e. l;
    frames = λ f l. (f, l, was_same f);
    threads = λ u m h k. made_changed (λ (v : Thread). v.seat == t) looping z.threads u ∙ h;
  };
  frees = λ z made. quiet_same _ z refl refl refl refl;
  owes = owe_quiet;
  sheds = λ z. quiet_todo _ z refl refl refl (λ w b l e. (in_filter (λ (w : Work). still_due z.processes z.objects z.references z.deaths w.kind) w z.todo l).0);
  notice = λ o. refl;
  death = λ made. refl;
  clear = λ cookie. refl;
}

pub quiet_closes : Closing Quiet
unfolding closed
quiet_closes z made = search (arith, in_filter, was_same)

pub quiet_exits : Exits Quiet
unfolding without_process
quiet_exits = record {
  goes = thread_goes_quiet;
  rest = λ z p. search (arith, in_filter, in_map, unread_serving);
}

pub ripen_quiet : (z : Space) → Quiet (ripen z) z
ripen_quiet = ripen_by Quiet NotReply quiet_table (λ made. refl)

pub sent_quiet : (s : Space) (a : Actor) (d : TransactionData) (v : Delivery) (spam : Bool) → Quiet (owe (delivered s a d v) (OfThread a.thread.seat) (work.Complete spam)) s
unfolding add_buffer
sent_quiet =
    sent_by Quiet NotReply quiet_table (λ z o. quiet_todo _ z refl refl refl (λ w b l e. (in_filter (λ (w : Work). not (is_notice o w.kind)) w z.todo l).0))
    (λ z b. quiet_same _ z refl refl refl refl) (λ spam. refl)

-- the frame that is answered closes before
pub answered_quiet : (s : Space) (a : Actor) (d : TransactionData) (f : Frame) (v : Delivery) → Quiet (owe (delivered (closed s f.made) a d v) (OfThread a.thread.seat) (work.Complete false)) s
answered_quiet s a d f v = quiet_trans _ (closed s f.made) s (sent_quiet (closed s f.made) a d v false) (quiet_closes s f.made)

pub completed_quiet : (z : Space) → Quiet (completed z) z
completed_quiet = completed_by Quiet NotReply quiet_table quiet_closes refl ripen_quiet

pub follow_quiet : (z : Space) → Quiet (follow z) z
follow_quiet = followed_by Quiet NotReply quiet_table
