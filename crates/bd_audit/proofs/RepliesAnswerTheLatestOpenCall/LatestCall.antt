-- RepliesAnswerTheLatestOpenCall: a reply answers the latest call of the thread that reads it whose answer isn't read yet.
use Rattle.bd_laws.proofs.words.Logic.{◌≡◌, ℕ, ◌<◌, ◌-◌, ◌==◌, true, false, cond, List, [], ◌∷◌, map, Option, Some, ◌⊎◌, inl, inr, refl, ap, sym, subst, ◌∙◌, filter, arith, list_any, is_none, eqb-true, eq-eqb}
use Rattle.std.proofs.lemmas.Bool.{cases_order}
use Rattle.bd_laws.proofs.words.Types.{Entry, Work, Thread, OfThread, WorkKind}
use Rattle.bd_laws.proofs.words.Space.{first_of, Space, opening, is_frame, is_on, list_to_read, taken, ends_read, History, after}
use Rattle.bd_space.specs.declared.space.WorkKind.TheVariants as work
use Rattle.bd_todo.specs.TodoList.{reply_of, first_reply_in}
use Rattle.bd_laws.specs.Lists.{In, Pairs}
use Rattle.bd_laws.proofs.Lists.{in_filter, filter_in, pairs_filter, any_found, any_in}
use Rattle.bd_laws.proofs.Tests.{both, and_both, to_false, on_thread}
use Rattle.bd_laws.proofs.IsInTurn.Ripening.{taken_in, read_in}
use Rattle.bd_laws.proofs.Always.{tidy_after}
use Rattle.bd_audit.specs.Replies.{thread_made, items_taken, reply_taken, reply_taken_at, Answered, At}
use Rattle.bd_audit.specs.Latest.{Closes, ReadsAnswer, Ended, AnswersLatest, is_answer, is_answer_of, before_reply}
use Rattle.bd_laws.proofs.Machine.Steps.{always_steps}
use Rattle.bd_audit.proofs.RepliesReachTheirCallers.Traces.{Called, at_more, at_below, actor_made}
use Rattle.bd_audit.proofs.RepliesReachTheirCallers.ReplyTaken.{first_in}
use Rattle.bd_audit.proofs.RepliesReachTheirCallers.ReplyLaw.{NoFrame, at_place, owed_after, took, taken_once, step_no_frame, no_frame_later, closed_no_frame}
use Rattle.bd_audit.proofs.TurnsTellOfCalls.CallsOut.{taken_by, Reading, reading, reading_items}
use Rattle.bd_audit.proofs.RepliesAnswerTheLatestOpenCall.Callers.{called_before}
use Rattle.bd_audit.proofs.RepliesAnswerTheLatestOpenCall.Lined.{NotLater, always_lined}
use Rattle.bd_audit.proofs.RepliesAnswerTheLatestOpenCall.EndedCalls.{always_answered}
use Rattle.bd_audit.proofs.RepliesAnswerTheLatestOpenCall.OpenCalls.{Waits, WasRead}
use Rattle.bd_audit.proofs.RepliesAnswerTheLatestOpenCall.SingleAnswers.{always_single}
use Rattle.bd_audit.proofs.RepliesAnswerTheLatestOpenCall.LatestOpen as latest
use Rattle.bd_audit.proofs.RepliesAnswerTheLatestOpenCall.LatestOpen.{at_same, on_own, latest_open}

-- ---- of the items that a reading takes, the earlier ones stand before its reply

module _ (s : Space) (w d : ℕ) (earlier : d < w) (v : Work) (place : v.id.place ≡ d) where
  abbrev Before : List Work → List Work → Type 0
  Before ws items =
      Pairs NotLater ws → ((x : Work) (b : ℕ) → In x ws → reply_of x.kind ≡ Some b → x.id.place ≡ b) → In v ws → first_reply_in items ≡ Some w → In v (before_reply items)

  first_before : (x : Work) (xs items : List Work) (o : Option ℕ) → reply_of x.kind ≡ o → Pairs NotLater (x ∷ xs) → ((y : Work) (b : ℕ) → In y (x ∷ xs) → reply_of y.kind ≡ Some b → y.id.place ≡ b)
      → In v (x ∷ xs) → (In v xs → first_reply_in items ≡ Some w → In v (before_reply items)) → first_of (o ∷ map (λ (y : Work). reply_of y.kind) items) ≡ Some w
      → In v (cond (is_none o) (x ∷ before_reply items) [])
  first_before x xs items o r sorted made l k f = search arith

  stands_before : (ws : List Work) (left : ℕ) → Before ws (taken s left ws)
  stands_before = taken_by s Before (λ ws sorted made l f. absurd (cc)) (λ x xs e sorted made l. first_before x xs [] (reply_of x.kind) refl sorted made l (λ i f. absurd (cc)))
      (λ x xs items e k sorted made l. first_before x xs items (reply_of x.kind) refl sorted made l (k sorted.1 (λ y b i. made y b (inr i))))

-- ---- what a reading of a thread's own list takes

module _ (s : Space) (seat : ℕ) (v : Work) (here : In v s.todo) (on : v.list ≡ OfThread seat) where
  own_list : (th : Thread) → th.seat ≡ seat → list_to_read s th ≡ filter (is_on (OfThread seat)) s.todo
  unfolding list_to_read
  own_list th is = search (arith, any_in, on_own)

-- where something stands on the thread's own list, all that its reading takes is of it
module _ (s : Space) (e : Entry) (v : Work) (here : In v s.todo) (on : v.list ≡ OfThread e.seat) where
  own_items : (r : Reading s e.seat e.step) → items_taken s e.seat e.step ≡ taken s (r.limit - 4) (filter (is_on (OfThread e.seat)) s.todo)
  own_items r = reading_items s e.seat e.step r ∙ ap (λ ws. taken s (r.limit - 4) ws) (own_list s e.seat v here on r.actor_is.thread (actor_made s e.seat r.actor_is r.acts).0)

  own_taken : (x : Work) → In x (items_taken s e.seat e.step) → In x s.todo × (x.list ≡ OfThread e.seat)
  own_taken x l =
      let r = reading s e.seat e.step x l in
      let i = in_filter (is_on (OfThread e.seat)) x s.todo (taken_in s (filter (is_on (OfThread e.seat)) s.todo) (r.limit - 4) x (subst (In x) (own_items r) l)) in
      (i.0, on_thread e.seat x.list i.1)

-- ---- a reply that is taken is the first

reply_kind : (kind : WorkKind) (b : ℕ) → reply_of kind ≡ Some b → (is_answer kind ≡ true) × (ends_read kind ≡ true)
reply_kind (work.Reply c) b h = (refl, refl)
reply_kind _ b h = absurd (cc)

module _ (s : Space) (v : Work) (b : ℕ) (is_reply : reply_of v.kind ≡ Some b) where
  first_reply : (x : Work) (items : List Work) (o : Option ℕ) → reply_of x.kind ≡ o → ends_read x.kind ≡ false → (In v items → first_reply_in items ≡ Some b) → (x ≡ v) ⊎ In v items
      → first_of (o ∷ map (λ (y : Work). reply_of y.kind) items) ≡ Some b
  first_reply x items o r e k h = search (arith, reply_kind)

  pub taken_first : (ws : List Work) (left : ℕ) → In v (taken s left ws) → first_reply_in (taken s left ws) ≡ Some b
  taken_first = taken_by s (λ ws items. In v items → first_reply_in items ≡ Some b) (λ ws l. absurd l)
      (λ x xs e l. elim l [ inl is ↦ ap (λ (y : Work). first_of (reply_of y.kind ∷ [])) is ∙ ap (λ o. first_of (o ∷ [])) is_reply | inr none ↦ absurd none ])
      (λ x xs items e. first_reply x items (reply_of x.kind) refl e)

-- what stands before the reply is none
before_in : (ws : List Work) (v : Work) → In v (before_reply ws) → In v ws × (is_none (reply_of v.kind) ≡ true)
before_in [] v l = absurd l
before_in (x ∷ xs) v l = search (arith, before_in xs v)

-- ---- a reply that stands is all that its step tells its thread

module _ (es : List Entry) (e : Entry) (w : ℕ) (v : Work) (here : In v (after opening es).todo) (is_reply : reply_of v.kind ≡ Some w) (on : v.list ≡ OfThread e.seat) where
  only_reply : (x : Work) → In x (items_taken (after opening es) e.seat e.step) → is_answer_of w x ≡ true → reply_of x.kind ≡ Some w
  only_reply x l told =
      let k = own_taken (after opening es) e v here on x l in
      let t = both (is_answer x.kind) (x.id.place == w) told in
      let is = always_single es v x e.seat here k.0 on k.1 (reply_kind v.kind w is_reply).0 t.0 ((owed_after es).made v w here is_reply ∙ sym (eqb-true x.id.place w t.1)) in
      ap (λ (y : Work). reply_of y.kind) (sym is) ∙ is_reply

-- ---- the law

module _ (h : History) (s w : ℕ) (taken_is : reply_taken_at h s ≡ Some w) where
  abbrev answer : Answered h s w
  answer = latest.answer h s w taken_is

  -- the space and the entry of the reading
  p : At h.entries s (λ z e. reply_taken z e ≡ Some w)
  p = at_place h s w taken_is

  abbrev z : Space
  z = after opening p.0

  by : thread_made z p.1.seat ≡ Some answer.caller
  by = at_same h.entries s (λ z e. thread_made z e.seat ≡ Some answer.caller) (λ z e. reply_taken z e ≡ Some w) answer.read p

  at_whole : (i : ℕ) (P : Space → Entry → Type 0) → At p.0 i P → At h.entries i P
  at_whole i P x = subst (λ es. At es i P) (sym p.2.all) (at_more p.0 (p.1 ∷ p.2.rest) i P x)

  module _ (j : ℕ) (later : answer.call < j) (early : j < s) (called : Called h.entries j answer.caller) where
    abbrev first : (j < w) × At h.entries w (λ z e. list_any (is_frame j) z.frames ≡ false)
    first = latest.ended h s w taken_is j later early called

    -- Behind the step at w no space has a frame of the call made at j any more.
    gone : (i : ℕ) (P : Space → Entry → Type 0) → (x : At h.entries i P) → w < i → NoFrame j (after opening x.0)
    gone i P x lt =
        let o = first.1 in
        no_frame_later h.entries w i o.0 x.0 o.1 x.1 o.2 x.2 lt j first.0
        (step_no_frame (after opening o.0) o.1 j (let a = always_steps o.0 in let b = o.2.at in let c = first.0 in omega arith) (closed_no_frame (after opening o.0) j o.3))

    closes_first : (d : ℕ) → At h.entries d (λ z e. Closes z e j) → d < w
    closes_first d x = elim (cases_order d w) [
      | inl is ↦ (
          let yes = (at_same h.entries w (λ z e. Closes z e j) (λ z e. list_any (is_frame j) z.frames ≡ false) (subst (λ i. At h.entries i (λ z e. Closes z e j)) is x) first.1).stood in
          let none = first.1.3 in absurd (cc))
      | inr o ↦ elim o [
        | inl lt ↦ lt
        | inr lt ↦ (let f = any_found (is_frame j) (after opening x.0).frames x.3.stood in absurd (gone d (λ z e. Closes z e j) x lt f.0 f.1 (eqb-true f.0.made j f.2)))
      ]
    ]

    -- The call made at j ended by the step at d, and what its thread was told of that was read before the reply.
    ended_at : (d : ℕ) → At p.0 d (λ z e. Closes z e j)
        → ((r : ℕ) × (d < r) × (r < s) × At h.entries r (λ z e. ReadsAnswer z e d answer.caller))
        ⊎ At h.entries s (λ z e. list_any (is_answer_of d) (before_reply (items_taken z e.seat e.step)) ≡ true)
        → Ended h.entries s w j answer.caller
    ended_at d closes told =
        let closed = at_whole d (λ z e. Closes z e j) closes in
        record { made = first.0; closed = d; closed_first = closes_first d closed; closes = closed; told = told }

    waits_ended : (d : ℕ) → At p.0 d (λ z e. Closes z e j) → Waits z p.1.seat d → Ended h.entries s w j answer.caller
    unfolding reply_taken
    waits_ended d closes v =
        let lt = closes_first d (at_whole d (λ z e. Closes z e j) closes) in
        let item = first_in (items_taken z p.1.seat p.1.step) w p.3 in
        let r = reading z p.1.seat p.1.step item.0 item.1 in
        let lined = always_lined p.0 in
        let items = own_items z p.1 v.0 v.1 v.2 r in
        let here = stands_before z w d lt v.0 v.4 (filter (is_on (OfThread p.1.seat)) z.todo) (r.limit - 4)
        (pairs_filter NotLater (is_on (OfThread p.1.seat)) z.todo lined.sorted)
        (λ x b l e. (owed_after p.0).made x b (in_filter (is_on (OfThread p.1.seat)) x z.todo l).0 e)
        (filter_in (is_on (OfThread p.1.seat)) v.0 z.todo v.1 (on_own v.0 p.1.seat v.2))
        (sym (ap first_reply_in items) ∙ p.3) in
        let told = any_in (is_answer_of d) v.0 (before_reply (taken z (r.limit - 4) (filter (is_on (OfThread p.1.seat)) z.todo))) here
        (and_both (is_answer v.0.kind) (v.0.id.place == d) v.3 (eq-eqb v.0.id.place d v.4)) in
        ended_at d closes (inr (p.0, p.1, p.2, ap (λ ws. list_any (is_answer_of d) (before_reply ws)) items ∙ told))

    was_read : WasRead p.0 j answer.caller → Ended h.entries s w j answer.caller
    was_read r =
        let lt = at_below p.0 r.read (λ z e. ReadsAnswer z e r.closed answer.caller) r.reads in
        let at = p.2.at in
        ended_at r.closed r.closes (inl (r.read, r.order, omega arith, at_whole r.read (λ z e. ReadsAnswer z e r.closed answer.caller) r.reads))

    ended : Ended h.entries s w j answer.caller
    ended =
        let past = called_before h.entries p.0 p.1 p.2.rest j answer.caller p.2.all (let at = p.2.at in omega arith) called in
        elim (always_answered p.0 j answer.caller p.1.seat past by) [
          | inl f ↦ absurd (gone s (λ z e. reply_taken z e ≡ Some w) p answer.reply_next f.0 f.1 f.2)
          | inr x ↦ elim x [ inl v ↦ waits_ended v.0 v.1 v.2 | inr r ↦ was_read r ]
        ]

  -- ---- of the call itself nothing was read before

  unanswered : (r : ℕ) → r < s → At h.entries r (λ z e. ReadsAnswer z e w answer.caller) → ⊥
  unfolding reply_taken
  unanswered r lt q =
      let y = after opening q.0 in
      let e = q.1 in
      let x = any_found (is_answer_of w) (items_taken y e.seat e.step) q.3.taken in
      let took_is = reading y e.seat e.step x.0 x.1 in
      let items = reading_items y e.seat e.step took_is in
      let l : In x.0 (taken y (took_is.limit - 4) (list_to_read y took_is.actor_is.thread)) = subst (In x.0) items x.1 in
      let place = eqb-true x.0.id.place w (both (is_answer x.0.kind) (x.0.id.place == w) x.2).1 in
      let next_is : w < r = (
      let below = (tidy_after q.0).told.fresh x.0 (read_in y took_is.actor_is.thread (took_is.limit - 4) x.0 l) in
      let steps = always_steps q.0 in
      let at = q.2.at in
      omega arith)
      in
      let v = latest.unread_between h s w taken_is r next_is lt (q.0, q.1, q.2, q.3.by) in
      let reply = only_reply q.0 e w v.0 v.1 v.2 v.3 x.0 x.1 x.2 in
      let first_is = ap first_reply_in items ∙ taken_first y x.0 w reply (list_to_read y took_is.actor_is.thread) (took_is.limit - 4) l in
      taken_once h.entries w r s (q.0, q.1, q.2, first_is) p next_is lt

  none_first : At h.entries s (λ z e. list_any (is_answer_of w) (before_reply (items_taken z e.seat e.step)) ≡ false)
  none_first = (p.0, p.1, p.2, to_false _ none_before)
    where
      none_before : list_any (is_answer_of w) (before_reply (items_taken z p.1.seat p.1.step)) ≡ true → ⊥
      none_before q =
          let x = any_found (is_answer_of w) (before_reply (items_taken z p.1.seat p.1.step)) q in
          let i = before_in (items_taken z p.1.seat p.1.step) x.0 x.1 in
          let k = took z (owed_after p.0) p.1 w p.3 in
          let reply = only_reply p.0 p.1 w k.item k.here k.reply k.list x.0 i.0 x.2 in
          let some : is_none (reply_of x.0.kind) ≡ false = ap (λ (o : Option ℕ). is_none o) reply in
          let none = i.1 in
          absurd (cc)

  pub answers_latest : AnswersLatest h s w
  answers_latest = record {
    call = answer.call;
    caller = answer.caller;
    answers = answer.answers;
    read = answer.read;
    replied = latest_open h.entries w answer.call answer.caller answer.server answer.called answer.replied;
    ended = ended;
    unanswered = unanswered;
    first = none_first;
  }
