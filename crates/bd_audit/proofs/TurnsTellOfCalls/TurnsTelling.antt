-- For TurnsTellOfCalls, RepliesReachTheirCallers and RepliesAnswerTheLatestOpenCall: one entry more, and the turns of an
-- object tell of its one-way calls up to there.
use Rattle.bd_laws.proofs.words.Logic.{◌≡◌, ℕ, zero, suc, ◌<◌, ◌==◌, Bool, true, false, not, List, [], ◌∷◌, ◌++◌, length, take, drop, Option, Some, None, ◌⊎◌, inl, inr, refl, ap, sym, subst, ◌∙◌, map, length-append, arith, list_any, filter_map, slice_get, is_some, eq-eqb, cases_lt}
use Rattle.std.proofs.Math.Seq.{take-append_seam, drop-append_seam}
use Rattle.bd_laws.proofs.words.Types.{Identity, Entry, Buffer, Work}
use Rattle.bd_laws.proofs.words.Space.{same, when, is_some_and, Space, opening, is_call, is_made_at, change, counted, after, next}
use Rattle.bd_laws.proofs.words.Laws.{In, On, Before}
use Rattle.bd_laws.proofs.Lists.{in_left, in_right, map_in, filter_map_in, any_found, any_in}
use Rattle.bd_laws.proofs.Tests.{and_both, not_true, not_false, eq_same}
use Rattle.bd_laws.proofs.IsInTurn.InTurn.{is_call_hands}
use Rattle.bd_laws.proofs.IsInTurn.Passing.{Passing, step_passes}
use Rattle.bd_laws.proofs.IsInTurn.Received.{one_buffer}
use Rattle.bd_audit.specs.declared.turns.Turn.{Turn}
use Rattle.bd_audit.specs.TurnSearch.{is_call_on, is_live, is_handed, noted_at, marked, turn_made, next_turns}
use Rattle.bd_audit.specs.Replies.{items_taken, HandsOutCall, At}
use Rattle.bd_audit.specs.TurnCalls.{CallsOneWay, EndsBuffer, TellsOf}
use Rattle.bd_audit.proofs.Beginnings.{after_append}
use Rattle.bd_audit.proofs.TurnsAreTaken.TurnsKept as turn_log_parts
use Rattle.bd_audit.proofs.TurnsAreTaken.TurnsKept.{log_after, NewTurn}
use Rattle.bd_audit.proofs.TurnsAreTaken.Logged.{Logged, live_in, live_found, handed_found, noted_some, noted_kept, some_case}
use Rattle.bd_laws.proofs.Machine.Steps.{always_steps}
use Rattle.bd_audit.proofs.RepliesReachTheirCallers.Places.{between}
use Rattle.bd_audit.proofs.RepliesReachTheirCallers.Traces.{at_more, at_here, at_below}
use Rattle.bd_audit.proofs.TurnsAreTaken.CallItems.{step_treats}
use Rattle.bd_audit.proofs.TurnsAreTaken.CallItemsKept.{DueOnce, fresh_once, Treats}
use Rattle.bd_audit.proofs.TurnsTellOfCalls.CallsOut.{items_due, hands_it_out, call_makes}
use Rattle.bd_laws.proofs.Machine.Fields.{counted_buffers}
use Rattle.bd_laws.proofs.Always.{tidy_after}

-- ---- places

-- an entry of a list stands before the last one, or it is the last one
in_front : (es : List Entry) (e : Entry) (before : List Entry) (x : Entry) (rest : List Entry) → es ++ e ∷ [] ≡ before ++ x ∷ rest
    → ((more : List Entry) × (es ≡ before ++ x ∷ more)) ⊎ ((before ≡ es) × (x ≡ e))
in_front es e before x rest h = elim (cases_lt (length before) (length es)) [
  | inl lt ↦ inl (between before es x e rest [] (sym h) lt)
  | inr ge ↦ (
      let a = length-append es (e ∷ []) in
      let b = length-append before (x ∷ rest) in
      let whole = ap length h in
      let same_length : length es ≡ length before = omega arith in
      let back : e ∷ [] ≡ x ∷ rest = sym (drop-append_seam es (e ∷ [])) ∙ ap (drop (length es)) h ∙ ap (λ n. drop n (before ++ x ∷ rest)) same_length ∙ drop-append_seam before (x ∷ rest) in
      let front = sym (take-append_seam es (e ∷ [])) ∙ ap (take (length es)) h ∙ ap (λ n. take n (before ++ x ∷ rest)) same_length ∙ take-append_seam before (x ∷ rest) in
      inr (sym front, (let head : x ≡ e = cc in head)))
]

pub at_split : (es : List Entry) (e : Entry) (p : ℕ) (P : Space → Entry → Type 0) → At (es ++ e ∷ []) p P → At es p P ⊎ ((p ≡ length es) × P (after opening es) e)
at_split es e p P h = search (arith, in_front)

pub in_slice : (ts : List Turn) (t : Turn) → In t ts → (i : ℕ) × (slice_get ts i ≡ Some t)
in_slice [] t i = absurd i
in_slice (x ∷ ts) t (inl e) = (zero, ap (λ y. Some y) e)
in_slice (x ∷ ts) t (inr i) = let k = in_slice ts t i in (suc k.0, k.1)

pub slice_in : (ts : List Turn) (i : ℕ) (t : Turn) → slice_get ts i ≡ Some t → In t ts
slice_in [] i t h = absurd (cc)
slice_in (x ∷ ts) zero t h = inl (cc)
slice_in (x ∷ ts) (suc i) t h = inr (slice_in ts i t h)

-- a call is handed out later than it was made
pub handed_later : (es : List Entry) (p c : ℕ) → At es p (HandsOutCall c) → c < p
handed_later es p c h =
    let s = after opening h.0 in
    let w = any_found (λ (w : Work). is_call c w.kind) (items_taken s h.1.seat h.1.step) h.3 in
    let lt = (tidy_after h.0).before.turns.fresh c (w.0, items_due s h.1.seat h.1.step w.0 w.1, is_call_hands c w.0.kind w.2) in
    let steps = always_steps h.0 in
    let at = h.2.at in omega arith

-- A call's buffer ends later than the call was made.
ends_later : (es : List Entry) (p c : ℕ) → At es p (EndsBuffer c) → c < p
ends_later es p c h =
    let b = live_found (after opening h.0).buffers c h.3.0 in
    let lt = (tidy_after h.0).before.turns.below b.0 b.1 in
    let is = b.2 in
    let steps = always_steps h.0 in
    let at = h.2.at in omega arith

noted_now : (o : Option ℕ) (n p : ℕ) (now : Bool) → is_some o ≡ false → now ≡ true → p ≡ n → noted_at o n now ≡ Some p
noted_now o n p now h k e = search arith

-- ---- one entry more

-- what is known of the turns so far
pub record Telling (o : Identity) (es : List Entry) (ts : List Turn) : Type 0 where
  pub log : Logged o ts (after opening es)
  pub tells : (t : Turn) → In t ts → TellsOf es o t
  pub all : (c : ℕ) → At es c (λ z e. CallsOneWay z e o) → list_any (λ t. t.made == c) ts ≡ true
  pub once : (t : Turn) → In t ts → DueOnce t.made (after opening es).buffers (after opening es).todo

counted_once : (z : Space) (m : ℕ) → DueOnce m z.buffers z.todo → DueOnce m (counted z).buffers (counted z).todo
unfolding counted
counted_once z m h = h

module _ (o : Identity) (es : List Entry) (e : Entry) (ts : List Turn) (k : Telling o es ts) where
  abbrev pub s : Space
  s = after opening es

  abbrev pub z : Space
  z = (change s e.seat e.step).space

  abbrev pub more : List Entry
  more = es ++ e ∷ []

  abbrev pub turns_after : List Turn
  turns_after = next_turns o s.steps z.buffers ts

  pub before : Before s
  before = (tidy_after es).before

  passing : Passing s z
  passing = step_passes s e before.turns before.received.lists

  log_more : Logged o turns_after (counted z)
  log_more = log_after s z before passing.turns passing.passed o ts k.log

  treated : (m : ℕ) → DueOnce m s.buffers s.todo → Treats s e m z
  treated m due = step_treats s e m before.turns due

  more_is : after opening more ≡ counted z
  more_is = after_append opening es (e ∷ [])

  at_now : (p : ℕ) (P : Space → Entry → Type 0) → p ≡ s.steps → P s e → At more p P
  at_now p P is h = subst (λ n. At more n P) (sym (is ∙ always_steps es)) (at_here es e P h)

  lives_more : (t : Turn) → In t turns_after → t.ended ≡ None → is_live (after opening more).buffers t.made ≡ true
  lives_more t i f =
      let b = log_more.live t i f in
      ap (λ (y : Space). is_live y.buffers t.made) more_is ∙ live_in (counted z).buffers b.0 t.made b.1.here b.1.made

  -- ---- turns that were there

  -- the place of what a note tells of
  module _ (note : Option ℕ) (now : Bool) (P : Space → Entry → Type 0) (p : ℕ) where
    noted : ((p : ℕ) → note ≡ Some p → At es p P) → (note ≡ None → now ≡ true → P s e) → noted_at note s.steps now ≡ Some p → At more p P
    noted old new f = elim (noted_some note s.steps now p f) [
      | inl g ↦ at_more es (e ∷ []) p P (old p g)
      | inr g ↦ at_now p P g.2 (new g.0 g.1)
    ]

    unnoted : ((p : ℕ) → At es p P → note ≡ Some p) → (P s e → (is_some note ≡ false) × (now ≡ true)) → At more p P → noted_at note s.steps now ≡ Some p
    unnoted old new h = elim (at_split es e p P h) [
      | inl a ↦ noted_kept note s.steps now p (old p a)
      | inr a ↦ (let k = new a.1 in noted_now note s.steps p now k.0 k.1 (a.0 ∙ sym (always_steps es)))
    ]

  module _ (u : Turn) (i : In u ts) where
    -- while its buffer lives, the turn hasn't ended, and tells whether it was handed out
    open_still : (b : Buffer) → In b s.buffers → b.made ≡ u.made → (is_some u.ended ≡ false) × (b.handed ≡ is_some u.handed)
    open_still b here made = elim (some_case u.ended) [
      | inl n ↦ (let c = k.log.live u i n in (ap is_some n, ap (λ (x : Buffer). x.handed) (one_buffer s before.turns b c.0 here c.1.here (made ∙ sym c.1.made)) ∙ c.1.handed))
      | inr q ↦ absurd (k.log.gone u i q.0 q.1 b here made)
    ]

    old_handed : u.handed ≡ None → is_handed z.buffers u.made ≡ true → HandsOutCall u.made s e
    old_handed none given =
        let c = handed_found z.buffers u.made given in
        elim ((treated u.made (k.once u i)).handed c.0 c.1 c.2 c.3) [
          | inl b ↦ (let is = (open_still b.0 b.1 b.2).1 in let was = b.3 in let no : is_some u.handed ≡ false = ap is_some none in absurd (cc))
          | inr items ↦ items
        ]

    -- who is handed out now was due, and so not handed out before
    old_unhanded : HandsOutCall u.made s e → (is_some u.handed ≡ false) × (is_handed z.buffers u.made ≡ true)
    old_unhanded takes =
        let w = any_found (λ (w : Work). is_call u.made w.kind) (items_taken s e.seat e.step) takes in
        let unread = (k.once u i).unread w.0 (items_due s e.seat e.step w.0 w.1, is_call_hands u.made w.0.kind w.2) in
        (sym (open_still unread.buffer unread.here unread.made).1 ∙ unread.handed, hands_it_out s u.made unread.buffer unread.here unread.made e.seat e.step takes)

    old_ended : u.ended ≡ None → not (is_live z.buffers u.made) ≡ true → EndsBuffer u.made s e
    old_ended none gone =
        let b = k.log.live u i none in
        (live_in s.buffers b.0 u.made b.1.here b.1.made, ap (λ bs. is_live bs u.made) (counted_buffers z) ∙ not_true (is_live z.buffers u.made) gone)

    old_unended : EndsBuffer u.made s e → (is_some u.ended ≡ false) × (not (is_live z.buffers u.made) ≡ true)
    old_unended ends =
        let b = live_found s.buffers u.made ends.0 in
        ((open_still b.0 b.1 b.2).0, not_false (is_live z.buffers u.made) (ap (λ bs. is_live bs u.made) (sym (counted_buffers z)) ∙ ends.1))

    old_tells : In (marked s.steps z.buffers u) turns_after → TellsOf more o (marked s.steps z.buffers u)
    old_tells j = record {
      made = at_more es (e ∷ []) u.made (λ z e. CallsOneWay z e o) (k.tells u i).made;
      handed = λ p. noted u.handed (is_handed z.buffers u.made) (HandsOutCall u.made) p (k.tells u i).handed old_handed;
      unhanded = λ p. unnoted u.handed (is_handed z.buffers u.made) (HandsOutCall u.made) p (k.tells u i).unhanded old_unhanded;
      ended = λ p. noted u.ended (not (is_live z.buffers u.made)) (EndsBuffer u.made) p (k.tells u i).ended old_ended;
      unended = λ p. unnoted u.ended (not (is_live z.buffers u.made)) (EndsBuffer u.made) p (k.tells u i).unended old_unended;
      lives = lives_more (marked s.steps z.buffers u) j;
    }

    old_once : DueOnce u.made z.buffers z.todo
    old_once = (treated u.made (k.once u i)).once (inl (k.log.past u i).made)

  -- ---- the turn that the step makes

  module _ (t : Turn) (i : In t turns_after) (c : Buffer) (n : NewTurn s z before passing.turns passing.passed o ts k.log t c) where
    new_calls : CallsOneWay s e o
    new_calls = (treated t.made (fresh_once s before.turns t.made n.1)).made o c n.0 n.4 n.5

    -- no step comes after the one that makes it
    nowhere : {A : Type 0} (p : ℕ) → t.made < p → p < length more → A
    nowhere p later below = let l = length-append es (e ∷ []) in let steps = always_steps es in let made = n.1 in absurd (omega arith)

    new_tells : TellsOf more o t
    new_tells = record {
      made = at_now t.made (λ z e. CallsOneWay z e o) n.1 new_calls;
      handed = λ p f. let none = n.2 in absurd (cc);
      unhanded = λ p h. nowhere p (handed_later more p t.made h) (at_below more p (HandsOutCall t.made) h);
      ended = λ p f. let none = n.3 in absurd (cc);
      unended = λ p h. nowhere p (ends_later more p t.made h) (at_below more p (EndsBuffer t.made) h);
      lives = lives_more t i;
    }

    new_once : DueOnce t.made z.buffers z.todo
    new_once = let call = new_calls in (treated t.made (fresh_once s before.turns t.made n.1)).once (inr (call.fields, call.parcel, call.command, call.one_way))

  -- ---- all turns

  tells_more : (t : Turn) → In t turns_after → TellsOf more o t × DueOnce t.made z.buffers z.todo
  tells_more t i = elim (turn_log_parts.turn_is_of s z before passing.turns passing.passed o ts k.log t i) [
    | inl u ↦ (subst (TellsOf more o) u.2 (old_tells u.0 u.1 (subst (λ x. In x turns_after) (sym u.2) i)), subst (λ n. DueOnce n z.buffers z.todo) (ap (λ (x : Turn). x.made) u.2) (old_once u.0 u.1))
    | inr c ↦ (new_tells t i c.0 c.1, new_once t i c.0 c.1)
  ]

  new_turn : (c : Buffer) → In c z.buffers → c.made ≡ s.steps → On o c → In (record { made = s.steps; handed = None; ended = None }) turns_after
  new_turn c i made on =
      let target : is_some_and c.target (λ x. same x o) ≡ true = ap (λ y. is_some_and y (λ x. same x o)) on.1 ∙ eq_same o o refl in
      let test = and_both (is_made_at s.steps c) (is_call_on o c) (eq-eqb c.made s.steps made) (and_both c.one_way (is_some_and c.target (λ x. same x o)) on.0 target) in
      in_right _ (map (marked s.steps z.buffers) ts) (filter_map (turn_made o s.steps) z.buffers)
      (filter_map_in (turn_made o s.steps) _ c z.buffers i (ap (λ b. when b (let t : Turn = record { made = s.steps; handed = None; ended = None } in t)) test))

  all_more : (c : ℕ) → At more c (λ z e. CallsOneWay z e o) → list_any (λ (t : Turn). t.made == c) turns_after ≡ true
  all_more c h = elim (at_split es e c (λ z e. CallsOneWay z e o) h) [
    | inl a ↦ (
        let t = any_found (λ (t : Turn). t.made == c) ts (k.all c a) in
        any_in (λ (t : Turn). t.made == c) (marked s.steps z.buffers t.0) turns_after
        (in_left (marked s.steps z.buffers t.0) (map (marked s.steps z.buffers) ts) (filter_map (turn_made o s.steps) z.buffers) (map_in (marked s.steps z.buffers) t.0 ts t.1)) t.2)
    | inr a ↦ (
        let b = call_makes s e o a.1 in
        any_in (λ (t : Turn). t.made == c) (record { made = s.steps; handed = None; ended = None }) turns_after (new_turn b.0 b.1 b.2 b.3) (eq-eqb s.steps c (always_steps es ∙ sym a.0)))
  ]

  pub step_telling : Telling o more (next_turns o s.steps (next s e).buffers ts)
  step_telling = subst (λ bs. Telling o more (next_turns o s.steps bs ts)) (sym (counted_buffers z)) (record {
    log = subst (Logged o turns_after) (sym more_is) log_more;
    tells = λ t i. (tells_more t i).0;
    all = all_more;
    once = λ t i. subst (λ (y : Space). DueOnce t.made y.buffers y.todo) (sym more_is) (counted_once z t.made (tells_more t i).1);
  })
