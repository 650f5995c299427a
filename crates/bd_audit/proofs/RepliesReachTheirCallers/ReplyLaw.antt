-- For RepliesReachTheirCallers: replies reach their callers, by what each reply has behind it, and since what is gone never
-- comes again.
use Rattle.bd_laws.proofs.words.Logic.{◌≡◌, ℕ, zero, suc, ◌<◌, false, List, [], ◌∷◌, ◌++◌, length, take, Some, inl, inr, refl, ap, sym, subst, ◌∙◌, arith, list_any, slice_get, option_and_then, option_and_then_some, eqb-true, eq-eqb}
use Rattle.bd_laws.proofs.words.Types.{Read, Entry, Work, Frame, OfThread}
use Rattle.bd_laws.proofs.words.Space.{Space, opening, is_frame, innermost, counted, History, after, next, space_after}
use Rattle.bd_todo.specs.TodoList.{reply_of}
use Rattle.bd_laws.specs.Lists.{In}
use Rattle.bd_laws.proofs.Lists.{find_in, any_in}
use Rattle.bd_audit.specs.Gifts.{Stands}
use Rattle.bd_audit.specs.Replies.{thread_made, reply_taken, reply_taken_at, frame_of, call_closed_at, call_answered, HandsOutCall, AnswersCall, At, Answered}
use Rattle.bd_audit.proofs.TurnsTellOfCalls.TurnsTelling.{handed_later}
use Rattle.bd_audit.proofs.RepliesReachTheirCallers.Places.{later_place}
use Rattle.bd_audit.proofs.RepliesReachTheirCallers.CallsOnce.{handed_once}
use Rattle.bd_audit.proofs.RepliesReachTheirCallers.RepliesDue.{IsOwed, always_owed, step_from}
use Rattle.bd_audit.proofs.RepliesReachTheirCallers.ReplyTaken.{taken_or_not, first_stands, NoReply}
use Rattle.bd_audit.proofs.RepliesReachTheirCallers.Answering.{always_traced}
use Rattle.bd_audit.proofs.RepliesReachTheirCallers.Traces.{Answers, answers_more, at_below}

-- ---- what is gone never comes again

-- The space has no frame of a call made at c.
abbrev pub NoFrame : ℕ → Space → Type 0
NoFrame c z = (f : Frame) → In f z.frames → f.made ≡ c → ⊥

pub step_no_frame : (s : Space) (e : Entry) (c : ℕ) → c < s.steps → NoFrame c s → NoFrame c (next s e)
unfolding counted
step_no_frame s e c lt h f l is = elim ((step_from s e).frames f l) [
  | inl g ↦ h g.0 g.1 (sym g.2 ∙ is)
  | inr at ↦ absurd (omega arith)
]

pub step_no_reply : (s : Space) (e : Entry) (b : ℕ) → b < s.steps → NoReply b s → NoReply b (next s e)
unfolding counted
step_no_reply s e b lt h w l is = elim ((step_from s e).replies w b l is) [ inl i ↦ h w i is | inr new ↦ (let at = new.0 in absurd (omega arith)) ]

-- ---- places of a list

standing : (es : List Entry) (i : ℕ) (e : Entry) → slice_get es i ≡ Some e → Stands es i (take i es) e
standing [] i e h = absurd (cc)
standing (x ∷ es) zero e h = record { rest = es; all = ap (λ y. y ∷ es) (let is : x ≡ e = cc in is); at = refl }
standing (x ∷ es) (suc i) e h = let k = standing es i e h in record { rest = k.rest; all = ap (λ ys. x ∷ ys) k.all; at = let a = k.at in omega arith }

pub placed : (before : List Entry) (e : Entry) (rest : List Entry) (i : ℕ) → length before ≡ i
    → (slice_get (before ++ e ∷ rest) i ≡ Some e) × (take i (before ++ e ∷ rest) ≡ before)
placed [] e rest zero at = (refl, refl)
placed [] e rest (suc i) at = absurd (omega arith)
placed (x ∷ before) e rest zero at = absurd (omega arith)
placed (x ∷ before) e rest (suc i) at = let k = placed before e rest i (omega arith) in (k.0, ap (λ ys. x ∷ ys) k.1)

pub stood : (es : List Entry) (i : ℕ) (before : List Entry) (e : Entry) → Stands es i before e → (slice_get es i ≡ Some e) × (take i es ≡ before)
stood es i before e k = subst (λ xs. (slice_get xs i ≡ Some e) × (take i xs ≡ before)) (sym k.all) (placed before e k.rest i k.at)

module _ (es : List Entry) (i j : ℕ) (before later : List Entry) (e f : Entry) (at : Stands es i before e) (then : Stands es j later f) (lt : i < j) where
  pub no_frame_later : (c : ℕ) → c < i → NoFrame c (next (after opening before) e) → NoFrame c (after opening later)
  no_frame_later c below = later_place (NoFrame c) c (λ s e tidy. step_no_frame s e c) es i j before later e f at then lt (omega arith)

  pub no_reply_later : (b : ℕ) → b < i → NoReply b (next (after opening before) e) → NoReply b (after opening later)
  no_reply_later b below = later_place (NoReply b) b (λ s e tidy. step_no_reply s e b) es i j before later e f at then lt (omega arith)

-- ---- a call is closed once, and a reply taken once

pub open_frame : (s : Space) (e : Entry) (c : ℕ) → frame_of s e ≡ Some c → (f : Frame) × In f s.frames × (f.made ≡ c)
unfolding frame_of innermost
open_frame s e c h = search (arith, find_in)

pub closed_no_frame : (s : Space) (c : ℕ) → list_any (is_frame c) s.frames ≡ false → NoFrame c s
closed_no_frame s c h f l is = let yes = any_in (is_frame c) f s.frames l (eq-eqb f.made c is) in absurd (cc)

abbrev Closes : List Entry → ℕ → ℕ → Type 0
Closes es w c = (n : ℕ) × At es w (λ z e. AnswersCall z e c n)

closed_once : (es : List Entry) (c w v : ℕ) → Closes es w c → Closes es v c → w < v → ⊥
closed_once es c w v h k lt =
    let p = h.1 in
    let q = k.1 in
    let f = open_frame (after opening q.0) q.1 c q.3.innermost in
    let g = open_frame (after opening p.0) p.1 c p.3.innermost in
    let below : c < w = (let b = (always_traced p.0).below g.0 g.1 in let made = g.2 in let at = p.2.at in omega arith) in
    no_frame_later es w v p.0 q.0 p.1 q.1 p.2 q.2 lt c below (closed_no_frame (next (after opening p.0) p.1) c p.3.closes) f.0 f.1 f.2

pub is_reading : (s : Space) (e : Entry) (r : ℕ) → reply_taken s e ≡ Some r → (limit : ℕ) × (e.step ≡ Read limit)
unfolding reply_taken
is_reading s e r h = search arith

-- the item that a reading takes stood on its thread's list, and has gone
pub record Took (s : Space) (e : Entry) (r : ℕ) : Type 0 where
  pub item : Work
  pub here : In item s.todo
  pub reply : reply_of item.kind ≡ Some r
  pub list : item.list ≡ OfThread e.seat
  pub gone : NoReply r (next s e)

pub took : (s : Space) → IsOwed s → (e : Entry) (r : ℕ) → reply_taken s e ≡ Some r → Took s e r
took s h e r t = search (arith, is_reading, taken_or_not, first_stands, eqb-true)

pub owed_after : (es : List Entry) → IsOwed (after opening es)
unfolding space_after
owed_after es = always_owed (record { seats = 0; entries = es })

abbrev Reads : List Entry → ℕ → ℕ → Type 0
Reads es s w = At es s (λ z e. reply_taken z e ≡ Some w)

pub taken_once : (es : List Entry) (w s r : ℕ) → Reads es s w → Reads es r w → w < s → s < r → ⊥
taken_once es w s r p q below lt =
    let k = took (after opening p.0) (owed_after p.0) p.1 w p.3 in
    let l = took (after opening q.0) (owed_after q.0) q.1 w q.3 in
    no_reply_later es s r p.0 q.0 p.1 q.1 p.2 q.2 lt w below k.gone l.item l.here l.reply

-- ---- the law

record Found (h : History) (s w : ℕ) : Type 0 where
  caller : ℕ
  answers : Answers h.entries w caller
  reads : Reads h.entries s w
  read : At h.entries s (λ z e. thread_made z e.seat ≡ Some caller)
  reply_next : w < s

pub at_place : (h : History) (s w : ℕ) → reply_taken_at h s ≡ Some w → Reads h.entries s w
unfolding reply_taken_at space_after
at_place h s w e = search (arith, standing)

find_answer : (h : History) (s w : ℕ) → reply_taken_at h s ≡ Some w → Found h s w
find_answer h s w e =
    let p = at_place h s w e in
    let k = took (after opening p.0) (owed_after p.0) p.1 w p.3 in
    let t = (always_traced p.0).replies k.item w p.1.seat k.here k.reply k.list in
    let rest = p.1 ∷ p.2.rest in
    record {
      caller = t.0;
      answers = subst (λ es. Answers es w t.0) (sym p.2.all) (answers_more p.0 rest w t.0 t.2);
      reads = p;
      read = (p.0, p.1, p.2, t.1);
      reply_next = let lt = at_below p.0 w (λ z e. AnswersCall z e t.2.call t.2.server) t.2.replied in let at = p.2.at in omega arith;
    }

closes_call : (h : History) (w c n : ℕ) → At h.entries w (λ z e. AnswersCall z e c n) → call_closed_at h w ≡ Some c
unfolding call_closed_at space_after
closes_call h w c n k =
    let at = stood h.entries w k.0 k.1 k.2 in
    ap (λ o. option_and_then (frame_of (after opening (take w h.entries))) o) at.0 ∙ ap (λ es. frame_of (after opening es) k.1) at.1 ∙ k.3.innermost

answered : (h : History) (s w c : ℕ) → reply_taken_at h s ≡ Some w → call_closed_at h w ≡ Some c → call_answered h s ≡ Some c
unfolding call_answered
answered h s w c e f = ap (λ o. option_and_then (call_closed_at h) o) e ∙ f

pub answered_by : (h : History) (s c : ℕ) → call_answered h s ≡ Some c → (w : ℕ) × (reply_taken_at h s ≡ Some w) × (call_closed_at h w ≡ Some c)
unfolding call_answered
answered_by h s c e = option_and_then_some (call_closed_at h) (reply_taken_at h s) c e (λ w f g. (w, f, g))

pub reaches : (h : History) (s w : ℕ) → reply_taken_at h s ≡ Some w → Answered h s w
reaches h s w e =
    let k = find_answer h s w e in
    let a = k.answers in
    let hands : At h.entries a.handed (HandsOutCall a.call) = (let t = a.taken in (t.0, t.1, t.2, t.3.taken)) in
    record {
      call = a.call;
      handed = a.handed;
      caller = k.caller;
      server = a.server;
      answers = answered h s w a.call e (closes_call h w a.call a.server a.replied);
      called = a.called;
      taken = a.taken;
      once = λ p f. handed_once h.entries a.call k.caller a.called p a.handed f hands;
      replied = a.replied;
      read = k.read;
      call_first = handed_later h.entries a.handed a.call hands;
      handed_next = a.handed_next;
      reply_next = k.reply_next;
      alone = λ r f.
          let b = answered_by h r a.call f in
          let l = find_answer h r b.0 b.1 in
          let c = l.answers in
          let same_call : c.call ≡ a.call = (let x = closes_call h b.0 c.call c.server c.replied in let y = b.2 in let j : Some c.call ≡ Some a.call = sym x ∙ y in cc) in
          let first : Closes h.entries w a.call = (a.server, a.replied) in
          let other : Closes h.entries b.0 a.call = subst (Closes h.entries b.0) same_call (c.server, c.replied) in
          let same_reply : b.0 ≡ w = omega (arith, closed_once h.entries a.call b.0 w other first, closed_once h.entries a.call w b.0 first other) in
          let reads : Reads h.entries r w = subst (Reads h.entries r) same_reply l.reads in
          let below : w < r = subst (λ n. n < r) same_reply l.reply_next in
          omega (arith, taken_once h.entries w r s reads k.reads below, taken_once h.entries w s r k.reads reads k.reply_next);
    }
