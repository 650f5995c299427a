-- RepliesAnswerTheLatestOpenCall: each call of a thread that lives is open, or was answered: what its thread is told of that
-- stands on the thread's list until it is read.
use Rattle.bd_laws.proofs.words.Logic.{◌≡◌, ℕ, ◌<◌, ◌-◌, ◌==◌, Bool, true, false, not, List, [], ◌∷◌, ◌++◌, length, filter, Some, None, ◌⊎◌, inl, inr, refl, ap, sym, subst, ◌∙◌, arith, list_any, eqb-true, eq-eqb}
use Rattle.bd_laws.proofs.words.Types.{DeadReply, FailedReply, TransactionComplete, Read, Entry, Work, Frame, Actor, OfThread, WorkKind}
use Rattle.bd_laws.proofs.words.Space.{Space, opening, actor, closed, is_frame, is_deepest_in, served_innermost, owe, is_item, list_to_read, ripen, follow, notify, work_goes, deaths_go, names_go, objects_go, is_abandoned, refusal, replied, reply_refused, read_by, taken, read_fault, change, counted, after}
use Rattle.bd_space.specs.declared.space.WorkKind.TheVariants as work
use Rattle.bd_laws.specs.Lists.{In}
use Rattle.bd_laws.proofs.Machine.EveryStep.{KeepsWhole, keeps_both, every_whole_step}
use Rattle.bd_laws.proofs.Machine.Table.{Any, set_up_by, changes_by, ripen_by, followed_by}
use Rattle.bd_laws.proofs.Lists.{in_filter, filter_in, find_in, any_found, any_in, by_last}
use Rattle.bd_laws.proofs.Tests.{and_both, not_false}
use Rattle.bd_laws.proofs.IsInTurn.Ripening.{read_in}
use Rattle.bd_laws.proofs.OnPaths.PathWords.{served_is}
use Rattle.bd_audit.specs.Replies.{made_in, thread_made, items_taken, Calls, At}
use Rattle.bd_audit.specs.Latest.{Closes, ReadsAnswer, is_answer, is_answer_of}
use Rattle.bd_audit.proofs.Beginnings.{after_append}
use Rattle.bd_laws.proofs.Machine.Steps.{always_steps}
use Rattle.bd_audit.proofs.RepliesReachTheirCallers.Answering.{absent, closed_absent, always_traced, takes_items}
use Rattle.bd_audit.proofs.RepliesReachTheirCallers.Traces.{Called, at_more, at_here, at_below, actor_made}
use Rattle.bd_audit.proofs.RepliesReachTheirCallers.ReplyLaw.{NoFrame}
use Rattle.bd_audit.proofs.TurnsTellOfCalls.TurnsTelling.{at_split}
use Rattle.bd_audit.proofs.RepliesAnswerTheLatestOpenCall.Callers.{HasCallers, Comes, comes_kept, callers_within, always_callers, made_first}
use Rattle.bd_audit.proofs.RepliesAnswerTheLatestOpenCall.Unread as part
use Rattle.bd_audit.proofs.RepliesAnswerTheLatestOpenCall.Unread.{Held, Leaves, leaves_table, leaves_exits, holds_table, holds_owe, sent_holds, read_stay}
use Rattle.bd_laws.proofs.Machine.Fields.{sent_steps, sent_frames, sent_threads, told_frames}
use Rattle.bd_laws.proofs.Always.{tidy_after}
use Rattle.bd_audit.proofs.RepliesAnswerTheLatestOpenCall.OpenCalls.{StandsIn, Waits, WasRead, Answered, was_more, holds_waits, told, told_threads, told_holds, told_waits, called_stands, read_on}

module _ (es : List Entry) (e : Entry) (h : Answered es (after opening es)) where
  abbrev s : Space
  s = after opening es

  abbrev more : List Entry
  more = es ++ e ∷ []

  -- Within the step: a frame of a call that it closes leaves its caller something to read, and what a caller was to read stays
  -- until the step reads it.
  record Ends (z : Space) : Type 0 where
    calls : (j m t : ℕ) → Called es j m → thread_made z t ≡ Some m → StandsIn s j → StandsIn z j ⊎ (NoFrame j z × Waits z t (length es))
    answers : (w : Work) (t m : ℕ) → m < s.steps → thread_made z t ≡ Some m → w.list ≡ OfThread t → is_answer w.kind ≡ true → In w s.todo
        → In w z.todo ⊎ ((t ≡ e.seat) × In w (items_taken s e.seat e.step))

  early : (j m : ℕ) → Called es j m → m < s.steps
  early j m c = let lt = made_first es j m c in let below = at_below es j (λ z e. Calls z e m) c in let place = always_steps es in omega arith

  left : (z : Space) → Leaves z s → Ends z
  left z k = record {
    calls = λ j m t c i o. let g = k.stay o.0 o.1 in inl (g.0, g.1, g.2.made ∙ o.2);
    answers = λ w t m lt i on a l. inl (k.answers w t m lt i on a l);
  }

  now : Ends s
  now = left s (leaves_table.same s)

  -- what only frames leave, with callers who are told
  changes : (z y : Space) → z.threads ≡ y.threads → ((f : Frame) → In f z.frames → In f y.frames) → Held z y
      → ((j m t : ℕ) → Called es j m → thread_made y t ≡ Some m → StandsIn y j → StandsIn z j ⊎ (NoFrame j z × Waits z t (length es))) → Ends y → Ends z
  changes z y threads frames todo goes n = record {
    calls = λ j m t c i o. elim (n.calls j m t c (was t m i) o) [
      | inl x ↦ goes j m t c (was t m i) x
      | inr x ↦ inr (λ f l. x.0 f (frames f l), holds_waits z y t (length es) todo x.1)
    ];
    answers = λ w t m lt i on a l. elim (n.answers w t m lt (was t m i) on a l) [ inl x ↦ inl (todo w a x) | inr r ↦ inr r ];
  }
    where
      was : (t m : ℕ) → thread_made z t ≡ Some m → thread_made y t ≡ Some m
      was t m i = ap (λ ts. made_in ts t) (sym threads) ∙ i

  later : (z y : Space) → z.threads ≡ y.threads → z.frames ≡ y.frames → Held z y → Ends y → Ends z
  later z y threads frames todo = changes z y threads (λ f l. subst (In f) frames l) todo (λ j m t c i x. inl (x.0, subst (In x.0) (sym frames) x.1, x.2))

  -- a frame closes, and its caller is told
  closes : (x y : Space) (f : Frame) (kind : WorkKind) → is_answer kind ≡ true → x.steps ≡ s.steps → x.threads ≡ y.threads → x.frames ≡ (closed y f.made).frames → Held x y → In f y.frames
      → HasCallers more y → Ends y → Ends (told x f.caller kind)
  unfolding closed
  closes x y f kind is_one steps threads frames todo here callers_are = changes z y (told_threads x f.caller kind ∙ threads)
      (λ g l. (in_filter (λ (v : Frame). not (is_frame f.made v)) g y.frames (subst (In g) all l)).0)
      (λ w a l. told_holds x f.caller kind w a (todo w a l)) (λ j m t c was o. closing j m t c was o (f.made == j) refl)
    where
      z : Space
      z = told x f.caller kind

      all : z.frames ≡ (closed y f.made).frames
      all = told_frames x f.caller kind ∙ frames

      closing : (j m t : ℕ) → Called es j m → thread_made y t ≡ Some m → StandsIn y j → (b : Bool) → (f.made == j) ≡ b → StandsIn z j ⊎ (NoFrame j z × Waits z t (length es))
      closing j m t c was o true q =
          let is = eqb-true f.made j q in
          let called : Called more f.made m = subst (λ x. Called more x m) (sym is) (at_more es (e ∷ []) j (λ z e. Calls z e m) c) in
          inr (λ g l made. closed_absent y f.made g (subst (In g) all l) (made ∙ sym is), told_waits x f.caller kind (length es) is_one (steps ∙ always_steps es) t (callers_are f m t here called was))
      closing j m t c was o false q =
          let apart : is_frame f.made o.0 ≡ false = search (arith, eqb-true, eq-eqb) in
          inl (o.0, subst (In o.0) (sym all) (filter_in (λ (v : Frame). not (is_frame f.made v)) o.0 y.frames o.1 (not_false (is_frame f.made o.0) apart)), o.2)

  -- the first that closes is the one that a thread serves innermost
  serves_closed : (x : Space) (a : Actor) (f : Frame) → served_innermost s a.thread.seat ≡ Some f → (kind : WorkKind) → is_answer kind ≡ true → x.steps ≡ s.steps → x.threads ≡ s.threads
      → x.frames ≡ (closed s f.made).frames → Held x s → Ends (told x f.caller kind)
  serves_closed x a f g kind is_one steps threads frames todo =
      closes x s f kind is_one steps threads frames todo (find_in (is_deepest_in s.frames a.thread.seat) f s.frames (served_is s a.thread.seat f g).0).0
      (callers_within es e (always_callers es) s (comes_kept es e).set_up.same) now

  -- ---- a reading

  reads : (a : Actor) (limit : ℕ) → actor s e.seat ≡ Some a → e.step ≡ Read limit → read_fault limit (list_to_read s a.thread) ≡ None
      → Ends (read_by s a.thread.seat (taken s (limit - 4) (list_to_read s a.thread)))
  unfolding read_by
  reads a limit acts x n = record {
    calls = λ j m t c i o. let g = read_stay s a.thread.seat ws o.0 o.1 in inl (g.0, g.1, g.2.made ∙ o.2);
    answers = λ w t m lt i on is_one l. waiting w t on l (list_any (λ (d : Work). is_item w d) ws) refl;
  }
    where
      ws : List Work
      ws = taken s (limit - 4) (list_to_read s a.thread)

      waiting : (w : Work) (t : ℕ) → w.list ≡ OfThread t → In w s.todo → (b : Bool) → list_any (λ (d : Work). is_item w d) ws ≡ b
          → In w (filter (λ (v : Work). not (list_any (λ (d : Work). is_item v d) ws)) s.todo) ⊎ ((t ≡ e.seat) × In w (items_taken s e.seat e.step))
      waiting w t on l false q = inl (filter_in (λ (v : Work). not (list_any (λ (d : Work). is_item v d) ws)) w s.todo l (not_false (list_any (λ (d : Work). is_item w d) ws) q))
      waiting w t on l true q =
          let d = any_found (λ (d : Work). is_item w d) ws q in
          let is : w ≡ d.0 = (tidy_after es).told.distinct w d.0 l (read_in s a.thread (limit - 4) d.0 d.1) d.2 in
          let here = subst (λ v. In v ws) (sym is) d.1 in
          inr (read_on s a.thread (limit - 4) w t here on ∙ (actor_made s e.seat a acts).0, subst (In w) (sym (takes_items es e (always_traced es) a acts limit x n)) here)

  -- ---- the whole step

  abbrev Both : Space → Type 0
  Both z = Comes es e z × Ends z

  kept : KeepsWhole s e.seat e.step Both Both
  unfolding replied reply_refused closed owe ripen follow notify work_goes deaths_go objects_go names_go
  kept = keeps_both s e.seat e.step (Comes es e) (Comes es e) Ends Ends (comes_kept es e) (record {
    set_up = set_up_by Leaves Any leaves_table s e.seat e.step Ends left;
    changes = changes_by Leaves Any leaves_table s e.seat e.step Ends left leaves_exits (record {
      transacts = λ a d parcel v x i t. let p = part.transacts s a d v in record { calls = λ j m u c k o. inl (o.0, p.stay o.0 o.1, o.2); answers = λ w u m lt k on is_one l. inl (p.todo w is_one l) };
      replies = λ a d parcel f v x i g t.
          let y = closed s f.made in
          serves_closed _ a f g (work.Reply s.steps) refl (sent_steps y a d v false) (sent_threads y a d v false) (sent_frames y a d v false) (sent_holds y a d v false);
      reads = reads;
      ripens = λ z. later (ripen z) z refl refl (ripen_by Held Any holds_table (λ m. tt) z);
    });
    follows = λ z c. later (follow z) z refl refl (followed_by Held Any holds_table z);
    refuses = λ t c. left _ (leaves_table.owes s (OfThread t) (work.Refusal (refusal c)) tt);
    fails = λ a d parcel f x i g. serves_closed _ a f g (work.Verdict FailedReply) refl refl refl refl (holds_owe s (OfThread a.thread.seat) (work.Refusal TransactionComplete));
    abandons = λ z f found k.
        closes (closed z f.made) z f (work.Verdict DeadReply) refl k.steps refl refl (λ w a l. l) (find_in (is_abandoned z.frames) f z.frames found).0 (callers_within es e (always_callers es) z k);
  })

  ended : Both (change s e.seat e.step).space
  ended = every_whole_step s e.seat e.step Both Both kept

  -- what its thread read now
  was_read : (j m t d : ℕ) → Called es j m → thread_made s t ≡ Some m → At es d (λ y f. Closes y f j) → (v : Waits s t d) → t ≡ e.seat → In v.0 (items_taken s e.seat e.step) → WasRead more j m
  was_read j m t d c i closes v seat l = record {
    closed = d;
    read = length es;
    order = at_below es d (λ y f. Closes y f j) closes;
    closes = at_more es (e ∷ []) d (λ y f. Closes y f j) closes;
    reads = at_here es e (λ y f. ReadsAnswer y f d m) (record {
      by = subst (λ n. thread_made s n ≡ Some m) seat i;
      taken = any_in (is_answer_of d) v.0 (items_taken s e.seat e.step) l (and_both (is_answer v.0.kind) (v.0.id.place == d) v.3 (eq-eqb v.0.id.place d v.4));
    });
  }

  step_answered : Answered more (after opening more)
  unfolding counted
  step_answered = subst (Answered more) (sym (after_append opening es (e ∷ []))) (λ j m t c i. elim (at_split es e j (λ z e. Calls z e m) c) [
    | inl past ↦ (
        let was = ended.0.threads t m (early j m past) i in
        elim (h j m t past was) [
          | inl o ↦ elim (ended.1.calls j m t past i o) [
            | inl x ↦ inl x
            | inr x ↦ inr (inl (
              length es,
              at_here es e (λ y f. Closes y f j) (record { stood = any_in (is_frame j) o.0 s.frames o.1 (eq-eqb o.0.made j o.2); goes = absent j (change s e.seat e.step).space.frames x.0 }),
              x.1,
            ))
          ]
          | inr x ↦ elim x [
            | inl w ↦ elim (ended.1.answers w.2.0 t m (early j m past) i w.2.2 w.2.3 w.2.1) [
              | inl l ↦ inr (inl (w.0, at_more es (e ∷ []) w.0 (λ y f. Closes y f j) w.1, (w.2.0, l, w.2.2, w.2.3, w.2.4)))
              | inr r ↦ inr (inr (was_read j m t w.0 past was w.1 w.2 r.0 r.1))
            ]
            | inr r ↦ inr (inr (was_more es (e ∷ []) j m r))
          ]
        ])
    | inr new ↦ inl (subst (StandsIn (change s e.seat e.step).space) (always_steps es ∙ sym new.0) (step_calls m new.1))
  ])
    where
      -- the call that the step makes is open after it
      step_calls : (m : ℕ) → Calls s e m → StandsIn (change s e.seat e.step).space s.steps
      step_calls m c = subst (λ x. StandsIn (change s e.seat x).space s.steps) (sym c.command)
          (called_stands s e.seat c.fields c.parcel (λ f l. let lt = (always_traced es).below f l in let n = always_steps es in omega arith) c.two_way
          (ap (λ x. (change s e.seat x).answer) (sym c.command) ∙ c.accepted))

pub always_answered : (es : List Entry) → Answered es (after opening es)
always_answered es = by_last (λ es. Answered es (after opening es)) step_answered (λ j m t c i. let lt = at_below [] j (λ z e. Calls z e m) c in absurd (omega arith)) es
