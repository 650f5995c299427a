-- For the search `call_of_reply`, and for no law: what it answers is the call of the reading at a place, and no other is.
use Rattle.bd_laws.proofs.words.Logic.{◌≡◌, ℕ, ◌<◌, ◌≤◌, ◌-◌, ◌&&◌, ◌||◌, true, not, nat_le, List, [], ◌∷◌, ◌++◌, take, Option, Some, Result, Ok, Err, MatchResult, inl, inr, ap, sym, subst, ◌∙◌, arith, append_assoc, list_any, option_and_then, eqb-true, eq-eqb}
use Rattle.std.specs.Prelude.{IfOk}
use Rattle.bd_laws.proofs.words.Types.{Fault, NoMemory, Entry, Frame, Work}
use Rattle.bd_laws.proofs.words.Space.{Space, opening, calls, counted, is_frame, list_to_read, History, after, next, space_after}
use Rattle.bd_todo.specs.TodoList.{reply_of, first_reply_in}
use Rattle.bd_laws.specs.Lists.{In}
use Rattle.bd_laws.proofs.Lists.{any_in, any_found, in_all}
use Rattle.bd_laws.proofs.Tests.{and_both, both, some_eq, eq_some, if_bound}
use Rattle.bd_laws.proofs.OnPaths.Innermost.{calls_true}
use Rattle.bd_laws.proofs.Machine.EveryStep.{every_whole_step}
use Rattle.bd_laws.proofs.Machine.Steps.{always_steps}
use Rattle.bd_audit.specs.Gifts.{Stands}
use Rattle.bd_audit.specs.Replies.{thread_made, items_taken, reply_taken, reply_taken_at, call_answered, AnswersCall, At, Answered}
use Rattle.bd_audit.specs.Latest.{IsLatest}
use Rattle.bd_audit.specs.Ending.{EndsCall}
use Rattle.bd_audit.specs.CallOf.{ClosesByReply, TakesReply, IsCallOf, IsAnswerOf, is_reply_of}
use Rattle.bd_audit.proofs.Beginnings.{after_append}
use Rattle.bd_audit.proofs.RepliesReachTheirCallers.Answering.{always_traced}
use Rattle.bd_audit.proofs.RepliesReachTheirCallers.Traces.{Called, Answers, answers_more}
use Rattle.bd_audit.proofs.RepliesReachTheirCallers.Places.{later_place}
use Rattle.bd_audit.proofs.RepliesReachTheirCallers.ReplyTaken.{NoReply, first_in}
use Rattle.bd_audit.proofs.RepliesReachTheirCallers.ReplyLaw.{reaches, stood, took, at_place, owed_after, step_no_reply, open_frame, answered_by}
use Rattle.bd_audit.proofs.TurnsTellOfCalls.CallsOut.{reading, reading_items}
use Rattle.bd_audit.proofs.CallsEndLatestFirst.LatestFirst.{latest_first}
use Rattle.bd_audit.proofs.RepliesAnswerTheLatestOpenCall.Callers.{Comes, comes_kept, called_before, made_first, always_callers, one_seat}
use Rattle.bd_audit.proofs.RepliesAnswerTheLatestOpenCall.LatestCall.{taken_first}
use Rattle.bd_audit.proofs.RepliesAnswerTheLatestOpenCall.LatestOpen.{at_same, one_caller, one_closed, find_reply, latest_open}

-- ---- the Reply that a reading takes

-- where one is among its items, it is that
pub takes_first : (z : Space) (e : Entry) (w : ℕ) → list_any (is_reply_of w) (items_taken z e.seat e.step) ≡ true → reply_taken z e ≡ Some w
unfolding reply_taken
takes_first z e w t =
    let x = any_found (is_reply_of w) (items_taken z e.seat e.step) t in
    let is = some_eq w (reply_of x.0.kind) x.2 in
    let r = reading z e.seat e.step x.0 x.1 in
    let items = reading_items z e.seat e.step r in
    ap first_reply_in items ∙ taken_first z x.0 w is (list_to_read z r.actor_is.thread) (r.limit - 4) (subst (In x.0) items x.1)

pub first_takes : (z : Space) (e : Entry) (w : ℕ) → reply_taken z e ≡ Some w → list_any (is_reply_of w) (items_taken z e.seat e.step) ≡ true
unfolding reply_taken
first_takes z e w t =
    let x = first_in (items_taken z e.seat e.step) w t in
    any_in (is_reply_of w) x.0 (items_taken z e.seat e.step) x.1 (eq_some w (reply_of x.0.kind) x.2)

place_at : (h : History) (s w : ℕ) → At h.entries s (λ z e. reply_taken z e ≡ Some w) → reply_taken_at h s ≡ Some w
unfolding reply_taken_at space_after
place_at h s w k =
    let at = stood h.entries s k.0 k.1 k.2 in
    ap (λ o. option_and_then (reply_taken (after opening (take s h.entries))) o) at.0 ∙ ap (λ es. reply_taken (after opening es) k.1) at.1 ∙ k.3

-- ---- what is answered is the call of the reading

closes_frame : (z : Space) (e : Entry) (c n : ℕ) → AnswersCall z e c n → ClosesByReply z e c
closes_frame z e c n a =
    let f = open_frame z e c a.innermost in
    record {
      fields = a.fields;
      parcel = a.parcel;
      command = a.command;
      accepted = a.accepted;
      closes = record { stood = any_in (is_frame c) f.0 z.frames f.1 (eq-eqb f.0.made c f.2); goes = a.closes };
    }

taken_call : (h : History) (s w : ℕ) (taken : reply_taken_at h s ≡ Some w) → IsCallOf h s (reaches h s w taken).call
taken_call h s w taken =
    let a = reaches h s w taken in
    let p = at_place h s w taken in
    let r = a.replied in
    record {
      caller = a.caller;
      reply = w;
      called = a.called;
      replied = (r.0, r.1, r.2, closes_frame (after opening r.0) r.1 a.call a.server r.3);
      read = (
        p.0,
        p.1,
        p.2,
        record {
          by = at_same h.entries s (λ z e. thread_made z e.seat ≡ Some a.caller) (λ z e. reply_taken z e ≡ Some w) a.read p;
          taken = first_takes (after opening p.0) p.1 w p.3;
        },
      );
    }

is_call : (h : History) (s c : ℕ) → call_answered h s ≡ Some c → IsCallOf h s c
is_call h s c e =
    let b = answered_by h s c e in
    let a = reaches h s b.0 b.1 in
    let same : a.call ≡ c = (let x = a.answers in let j : Some a.call ≡ Some c = sym x ∙ e in cc) in
    subst (IsCallOf h s) same (taken_call h s b.0 b.1)

-- ---- no other call is it: of its thread's open calls the reply closed the latest alone

-- the reading at s takes the reply made at w
module _ (h : History) (s w : ℕ) (taken : reply_taken_at h s ≡ Some w) where
  abbrev answer : Answered h s w
  answer = reaches h s w taken

  abbrev reply : At h.entries w (λ z e. IsLatest z answer.call answer.caller)
  reply = latest_open h.entries w answer.call answer.caller answer.server answer.called answer.replied

  abbrev past : List Entry
  past = reply.0

  abbrev e : Entry
  e = reply.1

  abbrev z : Space
  z = after opening past

  abbrev there : Stands h.entries w past e
  there = reply.2

  abbrev is_latest : IsLatest z answer.call answer.caller
  is_latest = reply.3

  abbrev more : List Entry
  more = past ++ e ∷ []

  -- after its step the reply stands on its thread's list, and that thread lives on
  stands_then : (v : Work) × In v (after opening more).todo × (reply_of v.kind ≡ Some w)
  stands_then =
      let p = at_place h s w taken in
      let item = took (after opening p.0) (owed_after p.0) p.1 w p.3 in
      let same = after_append opening past (e ∷ []) in
      elim (find_reply (after opening more).todo w) [
        | inl v ↦ v
        | inr none ↦ absurd (later_place (NoReply w) w (λ z e tidy lt. step_no_reply z e w lt) h.entries w s past p.0 e p.1 there p.2 answer.reply_next (omega arith)
            (subst (NoReply w) same none) item.item item.here item.reply)
      ]

  -- a thread that is there after the step sat there before it
  sat : (t : ℕ) → thread_made (next z e) t ≡ Some answer.caller → thread_made z t ≡ Some answer.caller
  unfolding counted
  sat t i =
      let comes = every_whole_step z e.seat e.step (Comes past e) (Comes past e) (comes_kept past e) in
      let first = made_first h.entries answer.call answer.caller answer.called in
      let steps = always_steps past in
      let at = there.at in
      let lt : answer.caller < z.steps = (let x = answer.call_first in let y = answer.handed_next in omega arith) in
      comes.threads t answer.caller lt i

  lives_still : thread_made (next z e) is_latest.seat ≡ Some answer.caller
  lives_still =
      let v = stands_then in
      let on = (owed_after more).list v.0 w v.1 v.2 in
      let t = (always_traced more).replies v.0 w on.0 v.1 v.2 on.1 in
      let all : h.entries ≡ more ++ there.rest = there.all ∙ sym (append_assoc past (e ∷ []) there.rest) in
      let here : Answers h.entries w t.0 = subst (λ es. Answers es w t.0) (sym all) (answers_more more there.rest w t.0 t.2) in
      let call : here.call ≡ answer.call = one_closed h.entries w here.call answer.call here.server answer.server here.replied answer.replied in
      let caller : t.0 ≡ answer.caller = one_caller h.entries answer.call t.0 answer.caller (subst (λ c. Called h.entries c t.0) call here.called) answer.called in
      let same = after_append opening past (e ∷ []) in
      let made : thread_made (next z e) on.0 ≡ Some answer.caller = subst (λ z. thread_made z on.0 ≡ Some answer.caller) same (t.1 ∙ ap (λ n. Some n) caller) in
      let seat : on.0 ≡ is_latest.seat = one_seat past answer.caller on.0 is_latest.seat (sat on.0 made) is_latest.lives in
      subst (λ u. thread_made (next z e) u ≡ Some answer.caller) seat made

  -- a frame of the thread's that this step closes is that of the call
  module _ (c : ℕ) (called : Called h.entries c answer.caller) (replied : At h.entries w (λ z e. ClosesByReply z e c)) where
    closing : ClosesByReply z e c
    closing = at_same h.entries w (λ z e. ClosesByReply z e c) (λ z e. IsLatest z answer.call answer.caller) replied reply

    found : (g : Frame) × In g z.frames × (g.made ≡ c) × (g.caller ≡ Some is_latest.seat)
    found =
        let g = any_found (is_frame c) z.frames closing.closes.stood in
        let made = eqb-true g.0.made c g.2 in
        let below = (always_traced past).below g.0 g.1 in
        let before : Called past c answer.caller = called_before h.entries past e there.rest c answer.caller there.all (omega (arith, below, made)) called in
        (g.0, g.1, made, always_callers past g.0 answer.caller is_latest.seat g.1 (subst (λ x. Called past x answer.caller) (sym made) before) is_latest.lives)

    ends : EndsCall z e c answer.caller
    ends =
        let g = found in
        record {
          seat = is_latest.seat;
          stands = any_in (λ (f : Frame). is_frame c f && calls is_latest.seat f) g.0 z.frames g.1
              (and_both (is_frame c g.0) (calls is_latest.seat g.0) (eq-eqb g.0.made c g.2) (calls_true is_latest.seat g.0 g.3));
          lives = is_latest.lives;
          lives_on = lives_still;
          closes = closing.closes.goes;
        }

    also_latest : IsLatest z c answer.caller
    also_latest =
        let l = latest_first h.entries w c answer.caller (past, e, there, ends) in
        at_same h.entries w (λ z e. IsLatest z c answer.caller) (λ z e. IsLatest z answer.call answer.caller) l reply

    -- no later than the latest
    no_later : (d b : ℕ) → IsLatest z d answer.caller → (g : Frame) → In g z.frames → g.made ≡ b → g.caller ≡ Some is_latest.seat → b ≤ d
    no_later d b l g i made caller =
        let seat : l.seat ≡ is_latest.seat = one_seat past answer.caller l.seat is_latest.seat l.lives is_latest.lives in
        let all = in_all (λ (x : Frame). not (calls l.seat x) || nat_le x.made d) z.frames l.latest g i in
        let le = if_bound (calls l.seat g) g.made d all (calls_true l.seat g (caller ∙ ap (λ n. Some n) (sym seat))) in
        omega (arith, le, made)

    pub same_call : answer.call ≡ c
    same_call =
        let g = found in
        let stands = any_found (λ (f : Frame). is_frame answer.call f && calls is_latest.seat f) z.frames is_latest.stands in
        let is = both (is_frame answer.call stands.0) (calls is_latest.seat stands.0) stands.2 in
        let low = no_later answer.call c is_latest g.0 g.1 g.2 g.3 in
        let high = no_later c answer.call also_latest stands.0 stands.1 (eqb-true stands.0.made answer.call is.0) (some_eq is_latest.seat stands.0.caller is.1) in
        omega (arith, low, high)

only_call : (h : History) (s c : ℕ) → IsCallOf h s c → call_answered h s ≡ Some c
only_call h s c k =
    let r = k.read in
    let taken = place_at h s k.reply (r.0, r.1, r.2, takes_first (after opening r.0) r.1 k.reply r.3.taken) in
    let a = reaches h s k.reply taken in
    let by : thread_made (after opening r.0) r.1.seat ≡ Some a.caller = at_same h.entries s (λ z e. thread_made z e.seat ≡ Some a.caller) (λ z e. TakesReply z e k.reply k.caller) a.read r in
    let caller : k.caller ≡ a.caller = (let j : Some k.caller ≡ Some a.caller = sym r.3.by ∙ by in cc) in
    a.answers ∙ ap (λ n. Some n) (same_call h s k.reply taken c (subst (λ m. Called h.entries c m) caller k.called) k.replied)

-- ---- the call that is found is the reading's, and no other is

pub answers_call : (h : History) (s : ℕ) (o : Option ℕ) → o ≡ call_answered h s → IsAnswerOf h s o
answers_call h s o e = record { is = λ c f. is_call h s c (sym e ∙ f); only = λ c k. e ∙ only_call h s c k }

pub answers_known : (h : History) (s : ℕ) (r : Result (Option ℕ) Fault) → MatchResult r (λ v. v ≡ call_answered h s) (λ f. f ≡ NoMemory) → IfOk r (IsAnswerOf h s)
answers_known h s (Ok v) e = answers_call h s v e
answers_known h s (Err f) e = tt
