-- RepliesAnswerTheLatestOpenCall: an accepted reply closes its caller's latest open call, and a thread with an unread reply makes no call.
use Rattle.bd_laws.proofs.words.Logic.{◌≡◌, ℕ, ◌<◌, ◌≤◌, ◌==◌, Bool, true, false, not, ◌&&◌, ◌||◌, List, [], ◌∷◌, Option, Some, None, Ok, ◌⊎◌, inl, inr, refl, ap, sym, subst, ◌∙◌, arith, nat_le, list_any, is_some, is_none, option_map, option_and_then_some, eq-eqb}
use Rattle.std.proofs.lemmas.Bool.{cases_order}
use Rattle.bd_laws.proofs.words.Types.{TransactionData, NotServing, Unread, Parcel, Command, Accepted, Entry, Work, Frame, Actor, OfThread, WorkKind}
use Rattle.bd_laws.proofs.words.Space.{when, first_of, is_some_and, Space, opening, actor, calls, is_frame, innermost, innermost_in, served_innermost, made_of, has_unread, keeps_from_calling, is_on, same_list, Delivery, transaction_step, caller_cause, is_one_way, reply_check, reply_step, caller_of, command_step, change, History, after}
use Rattle.bd_uapi.specs.declared.command.Command.TheVariants as bc
use Rattle.bd_space.specs.declared.space.WorkKind.TheVariants as work
use Rattle.bd_todo.specs.TodoList.{reply_of}
use Rattle.bd_laws.specs.Lists.{In}
use Rattle.bd_laws.proofs.Lists.{any_in, any_found, all_in, in_all}
use Rattle.bd_laws.proofs.Tests.{and_both, some_eq, eq_some, bound_if, if_bound}
use Rattle.bd_laws.proofs.Checks.{reply_checked, transaction_may_call}
use Rattle.bd_laws.proofs.OnPaths.PathWords.{served_is}
use Rattle.bd_laws.proofs.OnPaths.Innermost.{innermost_is, innermost_childless, calls_true}
use Rattle.bd_laws.proofs.Always.{always_on_paths}
use Rattle.bd_audit.specs.Replies.{thread_made, frame_of, reply_taken_at, Calls, AnswersCall, At, Answered}
use Rattle.bd_audit.specs.Latest.{IsLatest}
use Rattle.bd_laws.proofs.Machine.Steps.{always_steps}
use Rattle.bd_audit.proofs.RepliesReachTheirCallers.Answering.{always_traced, absent}
use Rattle.bd_audit.proofs.RepliesReachTheirCallers.Traces.{Called, Answers, answers_more, at_more, actor_made}
use Rattle.bd_audit.proofs.RepliesReachTheirCallers.ReplyLaw.{reaches, stood, took, at_place, owed_after, no_reply_later, step_no_reply}
use Rattle.bd_audit.proofs.RepliesAnswerTheLatestOpenCall.Callers.{called_before, always_callers, one_seat}

-- ---- what an accepted step has tested

reply_tested : (s : Space) (e : Entry) (d : TransactionData) (parcel : Option Parcel) → (change s e.seat (Command (bc.Reply d) parcel)).answer ≡ Accepted
    → (a : Actor) × (actor s e.seat ≡ Some a) × (f : Frame) × (served_innermost s a.thread.seat ≡ Some f) × (v : Delivery) × (reply_check s a d parcel f ≡ Ok v)
unfolding change command_step reply_step
reply_tested s e d parcel h = search arith

call_tested : (s : Space) (e : Entry) (d : TransactionData) (parcel : Option Parcel) → is_one_way d ≡ false → (change s e.seat (Command (bc.Transaction d) parcel)).answer ≡ Accepted
    → caller_cause s e.seat ≡ None
unfolding change command_step transaction_step
call_tested s e d parcel two_way h = search (arith, actor_made, transaction_may_call)

-- A work item whose list is that of a thread passes the test for that list.
pub on_own : (v : Work) (t : ℕ) → v.list ≡ OfThread t → is_on (OfThread t) v ≡ true
on_own v t on = ap (λ x. same_list (OfThread t) x) on ∙ eq-eqb t t refl

-- a thread with an unread reply has a cause against a call
unread_stops : (s : Space) (seat b : ℕ) (w : Work) → In w s.todo → reply_of w.kind ≡ Some b → w.list ≡ OfThread seat → caller_cause s seat ≡ None → ⊥
unfolding caller_cause has_unread
unread_stops s seat b w l e on none =
    let keeps = any_in (λ (x : Work). is_on (OfThread seat) x && keeps_from_calling x.kind) w s.todo l
    (and_both (is_on (OfThread seat) w) (keeps_from_calling w.kind) (on_own w seat on) (way w.kind e)) in
    at (is_some (innermost s seat) && is_none (served_innermost s seat)) (has_unread s seat) keeps none
  where
    way : (k : WorkKind) → reply_of k ≡ Some b → keeps_from_calling k ≡ true
    way (work.Reply c) h = refl
    way _ h = absurd (cc)

    at : (p q : Bool) → q ≡ true → first_of (when p NotServing ∷ when q Unread ∷ []) ≡ None → ⊥
    at p q h k = search arith

-- ---- one thread makes a call

same_place : (es : List Entry) (i : ℕ) (P Q : Space → Entry → Type 0) (p : At es i P) (q : At es i Q) → (p.0 ≡ q.0) × (p.1 ≡ q.1)
same_place es i P Q p q =
    let a = stood es i p.0 p.1 p.2 in
    let b = stood es i q.0 q.1 q.2 in
    (sym a.1 ∙ b.1, (let k : Some p.1 ≡ Some q.1 = sym a.0 ∙ b.0 in cc))

-- Two statements about the entry at one place are about the same space and entry.
pub at_same : (es : List Entry) (i : ℕ) (P Q : Space → Entry → Type 0) → At es i P → (q : At es i Q) → P (after opening q.0) q.1
at_same es i P Q p q = let k = same_place es i P Q p q in subst (P (after opening q.0)) k.1 (subst (λ xs. P (after opening xs) p.1) k.0 p.3)

pub one_caller : (es : List Entry) (c m n : ℕ) → Called es c m → Called es c n → m ≡ n
one_caller es c m n p q = let j : Some m ≡ Some n = sym (at_same es c (λ z e. Calls z e m) (λ z e. Calls z e n) p q).by ∙ q.3.by in cc

pub one_closed : (es : List Entry) (w c d m n : ℕ) → At es w (λ z e. AnswersCall z e c m) → At es w (λ z e. AnswersCall z e d n) → c ≡ d
one_closed es w c d m n p q = let j : Some c ≡ Some d = sym (at_same es w (λ z e. AnswersCall z e c m) (λ z e. AnswersCall z e d n) p q).innermost ∙ q.3.innermost in cc

-- ---- the frame that the reply closes

calling : (s : Space) (f : Frame) (x : Actor) → caller_of s f ≡ Some x → (t : ℕ) × (f.caller ≡ Some t)
unfolding caller_of
calling s f x h = option_and_then_some (actor s) f.caller x h (λ t i j. (t, i))

pub latest_open : (es : List Entry) (w c m n : ℕ) → Called es c m → At es w (λ z e. AnswersCall z e c n) → At es w (λ z e. IsLatest z c m)
unfolding frame_of innermost
latest_open es w c m n called k =
    let s = after opening k.0 in
    let e = k.1 in
    let a = k.3 in
    let r = reply_tested s e a.fields a.parcel (ap (λ x. (change s e.seat x).answer) (sym a.command) ∙ a.accepted) in
    let f = r.2 in
    let seat = r.0.thread.seat in
    let is = served_is s seat f r.3 in
    let at_seat : innermost_in s.frames e.seat ≡ Some f = subst (λ x. innermost_in s.frames x ≡ Some f) (actor_made s e.seat r.0 r.1).0 is.0 in
    let made : f.made ≡ c = (let j : Some f.made ≡ Some c = sym (ap (option_map made_of) at_seat) ∙ a.innermost in cc) in
    let caller = calling s f (reply_checked s r.0 a.fields a.parcel f r.4 r.5).caller (reply_checked s r.0 a.fields a.parcel f r.4 r.5).found in
    let paths = always_on_paths k.0 in
    let here = (innermost_is s.frames seat f is.0).0 in
    let none = innermost_childless paths.0 s.frames paths.1.sorted paths.1.parents seat f is.0 is.1 in
    let traced = (always_traced k.0).callers f caller.0 here caller.1 in
    let before : Called es c traced.0 = called_later k traced.0 (subst (λ x. Called k.0 x traced.0) made traced.2) in (
      k.0,
      k.1,
      k.2,
      record {
        seat = caller.0;
        lives = subst (λ x. thread_made s caller.0 ≡ Some x) (one_caller es c traced.0 m before called) traced.1;
        stands = any_in (λ (g : Frame). is_frame c g && calls caller.0 g) f s.frames here (and_both (is_frame c f) (calls caller.0 f) (eq-eqb f.made c made) (calls_true caller.0 f caller.1));
        latest = all_in (λ (g : Frame). not (calls caller.0 g) || nat_le g.made c) s.frames (λ g l.
            bound_if (calls caller.0 g) g.made c (λ yes.
            subst (λ x. g.made ≤ x) made (paths.1.leaf f g here l (paths.1.shared caller.0 f g here l (inl caller.1) (inl (some_eq caller.0 g.caller yes))) none)));
      },
    )
  where
    called_later : (k : At es w (λ z e. AnswersCall z e c n)) (x : ℕ) → Called k.0 c x → Called es c x
    called_later k x h = subst (λ y. Called y c x) (sym k.2.all) (at_more k.0 (k.1 ∷ k.2.rest) c (λ z e. Calls z e x) h)

-- ---- while the reply is unread

-- some item is this reply, or none
pub find_reply : (todo : List Work) (b : ℕ) → ((v : Work) × In v todo × (reply_of v.kind ≡ Some b)) ⊎ ((v : Work) → In v todo → reply_of v.kind ≡ Some b → ⊥)
find_reply todo b = at (list_any (λ (v : Work). is_some_and (reply_of v.kind) (λ c. c == b)) todo) refl
  where
    at : (q : Bool) → list_any (λ (v : Work). is_some_and (reply_of v.kind) (λ c. c == b)) todo ≡ q
        → ((v : Work) × In v todo × (reply_of v.kind ≡ Some b)) ⊎ ((v : Work) → In v todo → reply_of v.kind ≡ Some b → ⊥)
    at true q = let v = any_found (λ (v : Work). is_some_and (reply_of v.kind) (λ c. c == b)) todo q in inl (v.0, v.1, some_eq b (reply_of v.0.kind) v.2)
    at false q = inr (λ v l e. let yes = any_in (λ (v : Work). is_some_and (reply_of v.kind) (λ c. c == b)) v todo l (eq_some b (reply_of v.kind) e) in absurd (cc))

module _ (h : History) (s w : ℕ) (taken : reply_taken_at h s ≡ Some w) where
  pub answer : Answered h s w
  answer = reaches h s w taken

  -- until it is read, the reply stands on the list of its thread
  pub unread_between : (j : ℕ) → w < j → j < s → (k : At h.entries j (λ z e. thread_made z e.seat ≡ Some answer.caller))
      → (v : Work) × In v (after opening k.0).todo × (reply_of v.kind ≡ Some w) × (v.list ≡ OfThread k.1.seat)
  unread_between j after_reply before_reading k =
      let p = at_place h s w taken in
      let item = took (after opening p.0) (owed_after p.0) p.1 w p.3 in
      let z = after opening k.0 in
      elim (find_reply z.todo w) [
        | inl v ↦ (
            let on = (owed_after k.0).list v.0 w v.1 v.2 in
            let t = (always_traced k.0).replies v.0 w on.0 v.1 v.2 on.1 in
            let whole = answers_more k.0 (k.1 ∷ k.2.rest) w t.0 t.2 in
            let here : Answers h.entries w t.0 = subst (λ es. Answers es w t.0) (sym k.2.all) whole in
            let call : here.call ≡ answer.call = one_closed h.entries w here.call answer.call here.server answer.server here.replied answer.replied in
            let caller : t.0 ≡ answer.caller = one_caller h.entries answer.call t.0 answer.caller (subst (λ c. Called h.entries c t.0) call here.called) answer.called in
            let same = one_seat k.0 answer.caller on.0 k.1.seat (t.1 ∙ ap (λ n. Some n) caller) k.3 in
            (v.0, v.1, v.2, on.1 ∙ ap (λ n. OfThread n) same))
        | inr none ↦
            absurd (no_reply_later h.entries j s k.0 p.0 k.1 p.1 k.2 p.2 before_reading w after_reply
            (step_no_reply z k.1 w (let a = always_steps k.0 in let b = k.2.at in omega arith) none) item.item item.here item.reply)
      ]

  quiet_between : (j : ℕ) → w < j → j < s → At h.entries j (λ z e. Calls z e answer.caller) → ⊥
  quiet_between j after_reply before_reading k =
      let z = after opening k.0 in
      let v = unread_between j after_reply before_reading (k.0, k.1, k.2, k.3.by) in
      unread_stops z k.1.seat w v.0 v.1 v.2 v.3 (call_tested z k.1 k.3.fields k.3.parcel k.3.two_way (ap (λ x. (change z k.1.seat x).answer) (sym k.3.command) ∙ k.3.accepted))

  -- a reply is no call
  not_both : Called h.entries w answer.caller → ⊥
  not_both k =
      let a = (at_same h.entries w (λ z e. Calls z e answer.caller) (λ z e. AnswersCall z e answer.call answer.server) k answer.replied).command in
      let b = answer.replied.3.command in
      absurd (cc)

  pub ended : (j : ℕ) → answer.call < j → j < s → Called h.entries j answer.caller → (j < w) × At h.entries w (λ z e. list_any (is_frame j) z.frames ≡ false)
  ended j later before_reading k = elim (cases_order j w) [
    | inl is ↦ absurd (not_both (subst (λ c. Called h.entries c answer.caller) is k))
    | inr o ↦ elim o [
      | inl lt ↦ (lt, then_closed lt)
      | inr lt ↦ absurd (quiet_between j lt before_reading k)
    ]
  ]
    where
      then_closed : j < w → At h.entries w (λ z e. list_any (is_frame j) z.frames ≡ false)
      then_closed lt =
          let o = latest_open h.entries w answer.call answer.caller answer.server answer.called answer.replied in
          let frames = (after opening o.0).frames in
          let past = called_before h.entries o.0 o.1 o.2.rest j answer.caller o.2.all (let a = o.2.at in omega arith) k in (
            o.0,
            o.1,
            o.2,
            absent j frames (λ g l is.
                let caller = always_callers o.0 g answer.caller o.3.seat l (subst (λ c. Called o.0 c answer.caller) (sym is) past) o.3.lives in
                let all = in_all (λ (x : Frame). not (calls o.3.seat x) || nat_le x.made answer.call) frames o.3.latest g l in
                let le = if_bound (calls o.3.seat g) g.made answer.call all (calls_true o.3.seat g caller) in
                absurd (omega arith)),
          )
