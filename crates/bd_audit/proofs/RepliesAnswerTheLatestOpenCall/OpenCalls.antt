-- RepliesAnswerTheLatestOpenCall: where a call stands open, and which list its thread reads.
use Rattle.bd_laws.proofs.words.Logic.{◌≡◌, ℕ, ◌<◌, Bool, true, false, cond, ◌&&◌, List, ◌++◌, Option, Some, None, Ok, Err, Result, ◌⊎◌, inl, inr, ap, sym, ◌∙◌, filter, arith, is_none, eqb-true}
use Rattle.bd_laws.proofs.words.Types.{TransactionData, DeadReply, Cause, Parcel, Command, Accepted, Entry, Thread, Work, Frame, Actor, TodoList, OfThread, OfProcess, WorkKind}
use Rattle.bd_laws.proofs.words.Space.{Space, actor, closed, is_gone, innermost_in, owe, is_on, same_list, list_to_read, work_on, has_work_in, ripen, follow, notify, work_goes, deaths_go, names_go, objects_go, is_abandoned, Delivery, completed, transaction_step, transaction_outcome, transaction_check, transacted, is_one_way, command_step, taken, change, by_actor}
use Rattle.bd_uapi.specs.declared.command.Command.TheVariants as bc
use Rattle.bd_space.specs.declared.space.WorkKind.TheVariants as work
use Rattle.bd_laws.specs.Lists.{In}
use Rattle.bd_laws.proofs.Lists.{in_last, in_filter, filter_in, find_in}
use Rattle.bd_laws.proofs.Tests.{both, not_false}
use Rattle.bd_laws.proofs.Checks.{transaction_checked}
use Rattle.bd_audit.specs.Replies.{thread_made, At}
use Rattle.bd_audit.specs.Latest.{Closes, ReadsAnswer, is_answer}
use Rattle.bd_laws.proofs.IsInTurn.Ripening as read
use Rattle.bd_audit.proofs.RepliesReachTheirCallers.Traces.{Called, at_more}
use Rattle.bd_audit.proofs.RepliesAnswerTheLatestOpenCall.Unread.{Holds, holds_owe, transacts}
use Rattle.bd_laws.proofs.Machine.Fields.{owe_frames, owe_threads}
use Rattle.bd_laws.proofs.Machine.Settled.{settle_keeps}

abbrev pub StandsIn : Space → ℕ → Type 0
StandsIn z j = (f : Frame) × In f z.frames × (f.made ≡ j)

-- the thread of the seat is still to read what the step at d told it of a call of its own
abbrev pub Waits : Space → ℕ → ℕ → Type 0
Waits z t d = (v : Work) × In v z.todo × (v.list ≡ OfThread t) × (is_answer v.kind ≡ true) × (v.id.place ≡ d)

-- the thread made at m has read that the call made at j ended
pub record WasRead (es : List Entry) (j m : ℕ) : Type 0 where
  pub closed : ℕ
  pub read : ℕ
  pub order : closed < read
  pub closes : At es closed (λ z e. Closes z e j)
  pub reads : At es read (λ z e. ReadsAnswer z e closed m)

abbrev pub Stays : List Entry → Space → ℕ → ℕ → ℕ → Type 0
Stays es z j m t =
    StandsIn z j ⊎ (((d : ℕ) × At es d (λ y e. Closes y e j) × Waits z t d) ⊎ WasRead es j m)

abbrev pub Answered : List Entry → Space → Type 0
Answered es z = (j m t : ℕ) → Called es j m → thread_made z t ≡ Some m → Stays es z j m t

pub was_more : (es fs : List Entry) (j m : ℕ) → WasRead es j m → WasRead (es ++ fs) j m
was_more es fs j m h = record {
  closed = h.closed;
  read = h.read;
  order = h.order;
  closes = at_more es fs h.closed (λ z e. Closes z e j) h.closes;
  reads = at_more es fs h.read (λ z e. ReadsAnswer z e h.closed m) h.reads;
}

pub holds_waits : (z y : Space) (t d : ℕ) → Holds z.todo y.todo → Waits y t d → Waits z t d
holds_waits z y t d h v = (v.0, h v.0 v.3 v.1, v.2, v.3, v.4)

-- ---- a caller that is told

abbrev pub told : Space → Option ℕ → WorkKind → Space
told y caller kind = elim caller as (λ (o : Option ℕ). Space) [ None ↦ y | Some t ↦ owe y (OfThread t) kind ]

pub told_threads : (y : Space) (caller : Option ℕ) (kind : WorkKind) → (told y caller kind).threads ≡ y.threads
told_threads y caller kind = search (arith, owe_threads)

pub told_holds : (y : Space) (caller : Option ℕ) (kind : WorkKind) → Holds (told y caller kind).todo y.todo
told_holds y caller kind = search (arith, holds_owe)

pub told_waits : (y : Space) (caller : Option ℕ) (kind : WorkKind) (n : ℕ) → is_answer kind ≡ true → y.steps ≡ n → (t : ℕ) → caller ≡ Some t → Waits (told y caller kind) t n
unfolding owe
told_waits y None kind n a e t c = absurd (cc)
told_waits y (Some u) kind n a e t c = (_, in_last _ y.todo, ap (λ x. OfThread x) (let j : u ≡ t = cc in j), a, e)

-- ---- a call stays open while its server hasn't gone

-- The frame made at n stands in the space, and its server hasn't gone.
abbrev pub Open : Space → ℕ → Type 0
Open z n = StandsIn z n × ((g : Frame) → In g z.frames → g.made ≡ n → is_gone g.server ≡ false)

module _ (n : ℕ) where
  told_open : (y : Space) (caller : Option ℕ) (kind : WorkKind) → Open y n → Open (told y caller kind) n
  told_open y caller kind h = search (arith, owe_frames)

  closed_open : (z : Space) (f : Frame) → (f.made ≡ n → ⊥) → Open z n → Open (closed z f.made) n
  unfolding closed
  closed_open z f other h = search (arith, filter_in, not_false, in_filter, eqb-true)

  completed_open : (z : Space) → Open z n → Open (completed z) n
  unfolding completed ripen follow notify work_goes deaths_go objects_go names_go
  completed_open z = settle_keeps (λ y. Open y n) (λ y f e h.
      let k = find_in (is_abandoned y.frames) f y.frames e in
      let gone = (both (is_gone f.server) _ k.1).0 in
      told_open (closed y f.made) f.caller (work.Verdict DeadReply) (closed_open y f (λ is. let here = h.1 f k.0 is in absurd (cc)) h)) (follow (ripen z))

transacted_open : (s : Space) (a : Actor) (d : TransactionData) (v : Delivery) → v.one_way ≡ false → ((f : Frame) → In f s.frames → f.made < s.steps) → Open (transacted s a d v) s.steps
transacted_open s a d v two_way below =
    let p = transacts s a d v in
    (p.new two_way, λ g l is. elim (p.came g l) [ inl i ↦ (let lt = below g i in absurd (omega arith)) | inr new ↦ ap is_gone new.server ])

pub called_stands : (s : Space) (seat : ℕ) (d : TransactionData) (parcel : Option Parcel) → ((f : Frame) → In f s.frames → f.made < s.steps) → is_one_way d ≡ false
    → (change s seat (Command (bc.Transaction d) parcel)).answer ≡ Accepted → StandsIn (change s seat (Command (bc.Transaction d) parcel)).space s.steps
unfolding change command_step transaction_step
called_stands s seat d parcel below two_way h = at (actor s seat) h
  where
    checks : (a : Actor) (r : Result Delivery Cause) → transaction_check s a d parcel ≡ r → (transaction_outcome s a d r).answer ≡ Accepted → StandsIn (transaction_outcome s a d r).space s.steps
    checks a (Err x) k q = absurd (cc)
    checks a (Ok v) k q = (completed_open s.steps (transacted s a d v) (transacted_open s a d v ((transaction_checked s a d parcel v k).one_way ∙ two_way) below)).0

    at : (o : Option Actor) → (by_actor s o (λ a. command_step s a (bc.Transaction d) parcel)).answer ≡ Accepted → StandsIn (by_actor s o (λ a. command_step s a (bc.Transaction d) parcel)).space s.steps
    at o q = search (arith, checks)

-- ---- which list is read

-- what a thread reads of a thread's list is of its own
pub read_on : (s : Space) (th : Thread) (left : ℕ) (w : Work) (t : ℕ) → In w (taken s left (list_to_read s th)) → w.list ≡ OfThread t → t ≡ th.seat
unfolding list_to_read
read_on s th left w t l on = at (has_work_in s.todo (OfThread th.seat)) (th.looping && is_none (innermost_in s.frames th.seat)) (read.taken_in s (list_to_read s th) left w l)
  where
    own : (list : TodoList) → In w (filter (is_on list) s.todo) → same_list list (OfThread t) ≡ true
    own list i = ap (λ x. same_list list x) (sym on) ∙ (in_filter (is_on list) w s.todo i).1

    at : (b c : Bool) → In w (work_on s.todo (cond b (Some (OfThread th.seat)) (cond c (Some (OfProcess th.process)) None))) → t ≡ th.seat
    at b c i = search (arith, eqb-true, own)
