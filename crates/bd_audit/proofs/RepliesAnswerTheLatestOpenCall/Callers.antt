-- RepliesAnswerTheLatestOpenCall: what a step leaves of frames, within it; so an open call has its caller as long as the thread
-- that made it lives.
use Rattle.bd_laws.proofs.words.Logic.{◌≡◌, ℕ, zero, suc, ◌<◌, ◌-◌, not, List, [], ◌∷◌, ◌++◌, length, Some, ◌⊎◌, inl, inr, refl, ap, sym, subst, ◌∙◌, arith}
use Rattle.bd_laws.proofs.words.Types.{TransactionData, Entry, Thread, Frame, Actor}
use Rattle.bd_laws.proofs.words.Space.{Space, opening, actor, closed, is_frame, owe, list_to_read, ripen, follow, notify, work_goes, deaths_go, names_go, assign_numbers, objects_go, Delivery, delivered, own_notices, add_buffer, with_carried, refer, make_objects, transacted, replied, read_by, taken, counted, change, after}
use Rattle.bd_space.specs.declared.space.WorkKind.TheVariants as work
use Rattle.bd_laws.specs.Lists.{In}
use Rattle.bd_laws.proofs.Lists.{in_filter, by_last}
use Rattle.bd_laws.proofs.Machine.Adding.{told_keeps}
use Rattle.bd_laws.proofs.Machine.EveryStep.{KeepsWhole, whole, every_whole_step}
use Rattle.bd_laws.proofs.Machine.Table.{Any, set_up_by, changes_by}
use Rattle.bd_audit.specs.Replies.{made_in, thread_made, Calls}
use Rattle.bd_audit.proofs.Beginnings.{after_append}
use Rattle.bd_laws.proofs.Machine.Steps.{always_steps}
use Rattle.bd_audit.proofs.RepliesReachTheirCallers.Answering.{always_traced}
use Rattle.bd_audit.proofs.RepliesReachTheirCallers.Traces.{Called, at_below, actor_made}
use Rattle.bd_audit.proofs.RepliesReachTheirCallers.Places.{between}
use Rattle.bd_audit.proofs.Seated.{seat_at, always_seated}
use Rattle.bd_audit.proofs.TurnsTellOfCalls.TurnsTelling.{at_split}
use Rattle.bd_audit.proofs.RepliesAnswerTheLatestOpenCall.Unread as part
use Rattle.bd_audit.proofs.RepliesAnswerTheLatestOpenCall.Unread.{Was, was_same, Leaves, leaves_table, leaves_exits, New, read_came}

-- a call of an earlier place, in the entries before
pub called_before : (es later : List Entry) (f : Entry) (more : List Entry) (c m : ℕ) → es ≡ later ++ f ∷ more → c < length later → Called es c m → Called later c m
called_before es later f more c m is lt k = search (arith, between)

-- ---- threads and their places

pub seat_below : (es : List Entry) (m t : ℕ) → seat_at es m ≡ Some t → m < length es
seat_below [] m t h = absurd (cc)
seat_below (e ∷ es) zero t h = omega arith
seat_below (e ∷ es) (suc m) t h = let lt = seat_below es m t h in omega arith

-- a thread was made before its call
pub made_first : (es : List Entry) (c m : ℕ) → Called es c m → m < c
made_first es c m k = let lt = seat_below k.0 m k.1.seat (always_seated k.0 k.1.seat m k.3.by) in let at = k.2.at in omega arith

pub one_seat : (es : List Entry) (m t u : ℕ) → thread_made (after opening es) t ≡ Some m → thread_made (after opening es) u ≡ Some m → t ≡ u
one_seat es m t u h k = let j : Some t ≡ Some u = sym (always_seated es t m h) ∙ always_seated es u m k in cc

-- ---- what a step leaves of frames, within it

-- each frame was there before, or is that of the call that the step makes
pub record Came (s : Space) (seat n : ℕ) (ts : List Thread) (fs : List Frame) : Type 0 where
  pub steps : n ≡ s.steps
  pub threads : (t m : ℕ) → m < s.steps → made_in ts t ≡ Some m → thread_made s t ≡ Some m
  pub frames : (f : Frame) → In f fs → ((g : Frame) × In g s.frames × Was s.steps ts f g) ⊎ New s seat f

module _ (es : List Entry) (e : Entry) where
  abbrev s : Space
  s = after opening es

  abbrev more : List Entry
  more = es ++ e ∷ []

  abbrev pub Comes : Space → Type 0
  Comes z = Came s e.seat z.steps z.threads z.frames

  left : (z : Space) → Leaves z s → Comes z
  left z k = record { steps = k.steps; threads = k.threads; frames = λ f l. let g = k.came f l in inl (g.0, g.1, g.2) }

  closes : (z : Space) (made : ℕ) → Comes z → Comes (closed z made)
  unfolding closed
  closes z made k = record { steps = k.steps; threads = k.threads; frames = λ f l. k.frames f (in_filter (λ (g : Frame). not (is_frame made g)) f z.frames l).0 }

  transacts : (a : Actor) (d : TransactionData) (v : Delivery) → actor s e.seat ≡ Some a → Comes (transacted s a d v)
  transacts a d v acts =
      let p = part.transacts s a d v in
      record {
        steps = p.steps;
        threads = λ t m lt i. ap (λ ts. made_in ts t) (sym p.threads) ∙ i;
        frames = λ f l. elim (p.came f l) [
          | inl i ↦ inl (f, i, was_same s.steps _ f)
          | inr new ↦ inr (subst (λ seat. New s seat f) (actor_made s e.seat a acts).0 new)
        ];
      }

  pub comes_kept : KeepsWhole s e.seat e.step Comes Comes
  unfolding replied closed read_by owe delivered own_notices add_buffer with_carried assign_numbers refer make_objects ripen follow notify work_goes deaths_go objects_go names_go
  comes_kept = whole s e.seat e.step Comes Comes (record {
    set_up = set_up_by Leaves Any leaves_table s e.seat e.step Comes left;
    changes = changes_by Leaves Any leaves_table s e.seat e.step Comes left leaves_exits (record {
      transacts = λ a d parcel v x i t. transacts a d v i;
      replies = λ a d parcel f v x i g t. told_keeps Comes (work.Reply s.steps) (λ z t k. k) _ f.caller (closes s f.made (left s (leaves_table.same s)));
      reads = λ a limit i x n. record { steps = refl; threads = λ t m lt i. i; frames = λ f l. inl (read_came s a.thread.seat (taken s (limit - 4) (list_to_read s a.thread)) f l) };
      ripens = λ z k. k;
    });
    follows = λ z k. k;
    closes = closes;
    refuses = λ z t r k. k;
    tells = λ z t r k. k;
  })

-- ---- callers

abbrev pub HasCallers : List Entry → Space → Type 0
HasCallers es z = (f : Frame) (m t : ℕ) → In f z.frames → Called es f.made m → thread_made z t ≡ Some m → f.caller ≡ Some t

module _ (es : List Entry) (e : Entry) (h : HasCallers es (after opening es)) where
  abbrev before : Space
  before = after opening es

  abbrev longer : List Entry
  longer = es ++ e ∷ []

  -- the thread that calls is the one of the step's seat
  own : (m t : ℕ) → Called longer before.steps m → thread_made before t ≡ Some m → t ≡ e.seat
  own m t c i = elim (at_split es e before.steps (λ z e. Calls z e m) c) [
    | inl past ↦ (let lt = at_below es before.steps (λ z e. Calls z e m) past in let place = always_steps es in absurd (omega arith))
    | inr now ↦ one_seat es m t e.seat i now.1.by
  ]

  pub callers_within : (z : Space) → Comes es e z → HasCallers longer z
  callers_within z k f m t l c i = elim (k.frames f l) [
    | inl g ↦ (
        let old : g.0.made < length es = (always_traced es).below g.0 g.1 in
        let call : Called longer g.0.made m = subst (λ n. Called longer n m) g.2.made c in
        let first = made_first longer g.0.made m call in
        let place = always_steps es in
        let lt : m < before.steps = omega arith in
        g.2.caller t m lt i (h g.0 m t g.1 (called_before longer es e [] g.0.made m refl old call) (k.threads t m lt i)))
    | inr new ↦ (
        let call : Called longer before.steps m = subst (λ n. Called longer n m) new.made c in
        let first = made_first longer before.steps m call in
        new.caller ∙ ap (λ u. Some u) (sym (own m t call (k.threads t m first i))))
  ]

  step_callers : HasCallers longer (after opening longer)
  unfolding counted
  step_callers = subst (HasCallers longer) (sym (after_append opening es (e ∷ [])))
      (callers_within (change before e.seat e.step).space (every_whole_step before e.seat e.step (Comes es e) (Comes es e) (comes_kept es e)))

pub always_callers : (es : List Entry) → HasCallers es (after opening es)
always_callers es = by_last (λ es. HasCallers es (after opening es)) step_callers (λ f m t l c i. absurd l) es
