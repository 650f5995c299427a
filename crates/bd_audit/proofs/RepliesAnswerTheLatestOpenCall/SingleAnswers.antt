-- RepliesAnswerTheLatestOpenCall: on one thread's list one step leaves one reply or verdict at most: of two calls of a thread that
-- lives on, the earlier stays open through a step, so that a step closes one of them at most.
use Rattle.bd_laws.proofs.words.Logic.{◌≡◌, ℕ, ◌<◌, ◌-◌, true, false, not, List, [], ◌∷◌, ◌++◌, Option, Some, None, ◌⊎◌, inl, inr, refl, ap, sym, subst, ◌∙◌, arith, list_any, find, Bool, filter}
use Rattle.std.proofs.lemmas.Bool.{cases_order}
use Rattle.bd_laws.proofs.words.Types.{DeadReply, FailedReply, TransactionComplete, Entry, Work, Frame, OfThread, WorkKind, TransactionData, Actor, TodoList}
use Rattle.bd_laws.proofs.words.Space.{Space, opening, closed, is_frame, is_gone, is_child_of, is_deepest_in, served_innermost, owe, tell_caller, list_to_read, ripen, follow, notify, work_goes, deaths_go, names_go, objects_go, is_abandoned, refusal, replied, reply_refused, taken, counted, after, is_item, Delivery, delivered, add_buffer, transacted, call_out, read_by, thread_goes, with_looping, with_thread, without_buffer, without_process}
use Rattle.bd_space.specs.declared.space.WorkKind.TheVariants as work
use Rattle.bd_laws.proofs.words.Laws.{In, OnPaths}
use Rattle.bd_laws.proofs.Machine.EveryStep.{KeepsWhole, whole, keeps_both, keeps_alone, every_whole_step}
use Rattle.bd_laws.proofs.Machine.Table.{set_up_by, changes_by, ripen_by, followed_by, Table, Exits, sent_by, transacted_by}
use Rattle.bd_laws.proofs.Lists.{in_push, in_filter, find_in, by_last}
use Rattle.bd_laws.proofs.Tests.{both}
use Rattle.bd_laws.proofs.OnPaths.PathWords.{served_is}
use Rattle.bd_laws.proofs.Always.{always_on_paths, tidy_after}
use Rattle.bd_laws.proofs.ItemsAreToldApart.Identities.{count_at}
use Rattle.bd_audit.specs.Replies.{made_in}
use Rattle.bd_audit.specs.Latest.{is_answer}
use Rattle.bd_audit.proofs.Beginnings.{after_append}
use Rattle.bd_laws.proofs.Machine.Steps.{always_steps}
use Rattle.bd_audit.proofs.RepliesReachTheirCallers.Answering as answering
use Rattle.bd_audit.proofs.RepliesReachTheirCallers.Answering.{closed_absent, always_traced}
use Rattle.bd_audit.proofs.RepliesReachTheirCallers.Traces.{Traced}
use Rattle.bd_audit.proofs.CallsEndLatestFirst.LatestFirst as earlier
use Rattle.bd_audit.proofs.CallsEndLatestFirst.LatestFirst.{Earlier, earlier_open}
use Rattle.bd_audit.proofs.RepliesAnswerTheLatestOpenCall.Callers.{Comes, comes_kept, made_first}
use Rattle.bd_audit.proofs.RepliesAnswerTheLatestOpenCall.OpenCalls.{told_threads}
use Rattle.bd_laws.proofs.Machine.Fields.{told_frames, closed_threads, sent_steps, sent_frames}

-- no reply or verdict comes
abbrev Silent : Space → Space → Type 0
Silent z y = (w : Work) → is_answer w.kind ≡ true → In w z.todo → In w y.todo

-- what is no reply or verdict
abbrev NoAnswer : WorkKind → Type 0
NoAnswer kind = is_answer kind ≡ false

none_trans : (z y x : Space) → Silent z y → Silent y x → Silent z x
none_trans z y x h k w a l = k w a (h w a l)

none_owe : (z : Space) (list : TodoList) (kind : WorkKind) → NoAnswer kind → Silent (owe z list kind) z
unfolding owe
none_owe z list kind apart w a l = elim (in_push w _ z.todo l) [
  | inl i ↦ i
  | inr is ↦ (let k : is_answer w.kind ≡ false = ap (λ (x : Work). is_answer x.kind) (sym is) ∙ apart in absurd (cc))
]

none_fewer : (z : Space) (p : Work → Bool) → Silent (record z { todo = filter p z.todo }) z
none_fewer z p w a l = (in_filter p w z.todo l).0

none_table : Table Silent NoAnswer
unfolding with_thread with_looping without_buffer work_goes
none_table = search (arith, none_trans, none_owe, none_fewer)

none_exits : Exits Silent
unfolding thread_goes without_process
none_exits = record { goes = λ z seat. none_fewer z _; rest = λ z p. none_fewer z _ }

-- ---- deliveries and readings

none_sent : (s : Space) (a : Actor) (d : TransactionData) (v : Delivery) (spam : Bool) → Silent (owe (delivered s a d v) (OfThread a.thread.seat) (work.Complete spam)) s
unfolding add_buffer
none_sent = sent_by Silent NoAnswer none_table (λ z o. none_fewer z _) (λ z b w a l. l) (λ spam. refl)

none_transacted : (s : Space) (a : Actor) (d : TransactionData) (v : Delivery) → Silent (transacted s a d v) s
unfolding add_buffer call_out
none_transacted = transacted_by Silent NoAnswer none_table (λ z o. none_fewer z _) (λ z b w a l. l) (λ spam. refl) (λ z seat p. none_owe z _ _ refl)

none_read : (z : Space) (seat : ℕ) (ws : List Work) → Silent (read_by z seat ws) z
unfolding read_by
none_read z seat ws = none_fewer z (λ (w : Work). not (list_any (λ (d : Work). is_item w d) ws))

abbrev pub Single : List Work → Type 0
Single todo =
    (v w : Work) (t : ℕ) → In v todo → In w todo → v.list ≡ OfThread t → w.list ≡ OfThread t → is_answer v.kind ≡ true → is_answer w.kind ≡ true
    → v.id.place ≡ w.id.place → v ≡ w

-- a call of the thread stood before the step, and has closed
record ClosedCall (s : Space) (frames : List Frame) (t : ℕ) : Type 0 where
  frame : Frame
  here : In frame s.frames
  calls : frame.caller ≡ Some t
  gone : (g : Frame) → In g frames → g.made ≡ frame.made → ⊥

module _ (es : List Entry) (e : Entry) (h : Single (after opening es).todo) where
  abbrev s : Space
  s = after opening es

  abbrev more : List Entry
  more = es ++ e ∷ []

  -- within the step: a reply or verdict that it made tells a thread of a call that has closed
  record Now (z : Space) : Type 0 where
    answers : (w : Work) → In w z.todo → is_answer w.kind ≡ true → In w s.todo ⊎ ((t : ℕ) → w.list ≡ OfThread t → ClosedCall s z.frames t)
    single : Single z.todo

  -- nobody is told
  apart : (z : Space) → Silent z s → Now z
  apart z todo = record { answers = λ w l a. inl (todo w a l); single = λ v w t i j on off a b. h v w t (todo v a i) (todo w b j) on off a b }

  fewer : (z y : Space) → ((f : Frame) → In f z.frames → In f y.frames) → Silent z y → Now y → Now z
  fewer z y frames todo n = record {
    answers = λ w l a. elim (n.answers w (todo w a l) a) [
      | inl o ↦ inl o
      | inr c ↦ inr (λ t on. let k = c t on in record { frame = k.frame; here = k.here; calls = k.calls; gone = λ g i. k.gone g (frames g i) })
    ];
    single = λ v w t i j on off a b. n.single v w t (todo v a i) (todo w b j) on off a b;
  }

  -- ---- a caller is told

  -- on its list there is no other reply or verdict of this step
  tells : (y : Space) (caller : Option ℕ) (kind : WorkKind) → is_answer kind ≡ true → y.steps ≡ s.steps → ((t : ℕ) → caller ≡ Some t → ClosedCall s y.frames t)
      → ((t : ℕ) → caller ≡ Some t → (w : Work) → In w y.todo → is_answer w.kind ≡ true → w.list ≡ OfThread t → In w s.todo) → Now y
      → Now (elim caller as (λ (o : Option ℕ). Space) [ None ↦ y | Some t ↦ owe y (OfThread t) kind ])
  unfolding owe
  tells y None kind is_one steps closes old n = n
  tells y (Some t) kind is_one steps closes old n = record {
    answers = λ w l a. elim (in_push w _ y.todo l) [
      | inl i ↦ n.answers w i a
      | inr is ↦ inr (λ u on. closes u (same_thread u (ap (λ (x : Work). x.list) is ∙ on)))
    ];
    single = λ v w u i j on off a b p. elim (in_push v _ y.todo i) [
      | inl l ↦ elim (in_push w _ y.todo j) [ inl m ↦ n.single v w u l m on off a b p | inr is ↦ absurd (other v w u l on a off is p) ]
      | inr was ↦ elim (in_push w _ y.todo j) [ inl m ↦ absurd (other w v u m off b on was (sym p)) | inr is ↦ sym was ∙ is ]
    ];
  }
    where
      new : Work
      new = record { id = record { place = y.steps; index = count_at y.steps y.todo }; list = OfThread t; kind = kind }

      same_thread : (u : ℕ) → OfThread t ≡ OfThread u → Some t ≡ Some u
      same_thread u k = cc

      other : (v w : Work) (u : ℕ) → In v y.todo → v.list ≡ OfThread u → is_answer v.kind ≡ true → w.list ≡ OfThread u → new ≡ w → v.id.place ≡ w.id.place → ⊥
      other v w u l on a off is same =
          let lt = (tidy_after es).told.fresh v (old u (same_thread u (ap (λ (x : Work). x.list) is ∙ off)) v l a on) in
          let place = ap (λ (x : Work). x.id.place) is in
          absurd (omega arith)

  -- the first that closes: no reply or verdict of this step stands before
  first_tells : (y : Space) (seat : ℕ) (f : Frame) (kind : WorkKind) → is_answer kind ≡ true → served_innermost s seat ≡ Some f → y.steps ≡ s.steps → y.frames ≡ (closed s f.made).frames → Silent y s
      → Now (tell_caller y f kind)
  first_tells y seat f kind is_one serves steps frames todo =
      let here = (find_in (is_deepest_in s.frames seat) f s.frames (served_is s seat f serves).0).0 in
      tells y f.caller kind is_one steps
      (λ t c. record { frame = f; here = here; calls = c; gone = λ g l is. closed_absent s f.made g (subst (In g) frames l) is }) (λ t c w l a on. todo w a l) (apart y todo)

  -- ---- an abandoned call

  paths : OnPaths s.steps s
  paths = always_on_paths es

  -- what else is kept
  abbrev Around : Space → Type 0
  Around z = (Traced more z × Comes es e z) × Earlier s paths z

  around : KeepsWhole s e.seat e.step Around Around
  around =
      keeps_both s e.seat e.step _ _ _ _
      (keeps_both s e.seat e.step _ _ _ _ (whole s e.seat e.step (Traced more) (Traced more) (answering.kept es e (always_traced es)))
      (keeps_alone s e.seat e.step _ _ (Comes es e) (Comes es e) (comes_kept es e)))
      (keeps_alone s e.seat e.step _ _ (Earlier s paths) (Earlier s paths) (earlier.kept s paths e.seat e.step))

  module _ (z : Space) (f : Frame) (found : find (is_abandoned z.frames) z.frames ≡ Some f) (a : Around z) (n : Now z) where
    here : In f z.frames × (is_abandoned z.frames f ≡ true)
    here = find_in (is_abandoned z.frames) f z.frames found

    -- it isn't one that the step made: that has no server that could go
    came : (g : Frame) × In g s.frames × (f.made ≡ g.made) × ((t : ℕ) → f.caller ≡ Some t → g.caller ≡ Some t)
    came = elim (a.0.1.frames f here.0) [
      | inl g ↦ (g.0, g.1, g.2.made, g.2.called)
      | inr new ↦ (
          let gone = (both (is_gone f.server) (not (list_any (is_child_of f) z.frames)) here.1).0 in
          let none = ap is_gone new.server in
          absurd (cc))
    ]

    -- no other call of its thread has closed: of the two, the earlier stays open
    alone : (t : ℕ) → f.caller ≡ Some t → ClosedCall s z.frames t → ⊥
    alone t c d =
        let lives = a.0.0.callers f t here.0 c in
        let calls = came.3 t c in
        let made = came.2 in
        let old : lives.0 < s.steps = (let first = made_first more f.made lives.0 lives.2 in let below = (always_traced es).below came.0 came.1 in let place = always_steps es in omega arith) in
        elim (cases_order d.frame.made came.0.made) [
          | inl same ↦ d.gone f here.0 (made ∙ sym same)
          | inr o ↦ elim o [
            | inl lt ↦ (let x = earlier_open s paths z a.1 t lives.0 d.frame came.0 d.here came.1 d.calls calls lt old lives.1 in d.gone x.0 x.1 x.2)
            | inr lt ↦ (
                let y = tell_caller (closed z f.made) f (work.Verdict DeadReply) in
                let threads = told_threads (closed z f.made) f.caller (work.Verdict DeadReply) ∙ closed_threads z f.made in
                let x = earlier_open s paths y (earlier.abandons s paths z f found a.1) t lives.0 came.0 d.frame came.1 d.here calls d.calls lt old (ap (λ ts. made_in ts t) threads ∙ lives.1) in
                closed_absent z f.made x.0 (subst (In x.0) (told_frames (closed z f.made) f.caller (work.Verdict DeadReply)) x.1) (x.2 ∙ sym made))
          ]
        ]

    abandons : Now (tell_caller (closed z f.made) f (work.Verdict DeadReply))
    unfolding closed
    abandons =
        tells (closed z f.made) f.caller (work.Verdict DeadReply) refl a.0.1.steps
        (λ t c. record { frame = came.0; here = came.1; calls = came.3 t c; gone = λ g l is. closed_absent z f.made g l (is ∙ sym came.2) })
        (λ t c w l is_one on. elim (n.answers w l is_one) [ inl o ↦ o | inr d ↦ absurd (alone t c (d t on)) ])
        (fewer (closed z f.made) z (λ g l. (in_filter (λ (x : Frame). not (is_frame f.made x)) g z.frames l).0) (λ w is_one l. l) n)

  -- ---- the whole step

  kept : KeepsWhole s e.seat e.step (λ z. Around z × Now z) (λ z. Around z × Now z)
  unfolding replied reply_refused closed owe ripen follow notify work_goes deaths_go objects_go names_go
  kept = keeps_both s e.seat e.step Around Around Now Now around (record {
    set_up = set_up_by Silent NoAnswer none_table s e.seat e.step Now apart;
    changes = changes_by Silent NoAnswer none_table s e.seat e.step Now apart none_exits (record {
      transacts = λ a d parcel v x i t. apart _ (none_transacted s a d v);
      replies = λ a d parcel f v x i g t.
          let y = closed s f.made in
          first_tells _ a.thread.seat f (work.Reply s.steps) refl g (sent_steps y a d v false) (sent_frames y a d v false) (none_sent y a d v false);
      reads = λ a limit i x n. apart _ (none_read s a.thread.seat (taken s (limit - 4) (list_to_read s a.thread)));
      ripens = λ z. fewer (ripen z) z (λ f i. i) (ripen_by Silent NoAnswer none_table (λ m. refl) z);
    });
    follows = λ z b. fewer (follow z) z (λ f i. i) (followed_by Silent NoAnswer none_table z);
    refuses = λ t c. apart _ (none_table.owes s (OfThread t) (work.Refusal (refusal c)) refl);
    fails = λ a d parcel f x i g. first_tells _ a.thread.seat f (work.Verdict FailedReply) refl g refl refl (none_table.owes s (OfThread a.thread.seat) (work.Refusal TransactionComplete) refl);
    abandons = abandons;
  })

  step_single : Single (after opening more).todo
  unfolding counted
  step_single = subst (λ (z : Space). Single z.todo) (sym (after_append opening es (e ∷ []))) (every_whole_step s e.seat e.step _ _ kept).1.single

pub always_single : (es : List Entry) → Single (after opening es).todo
always_single es = by_last (λ es. Single (after opening es).todo) step_single (λ v w t i j on off a b p. absurd i) es
