-- For RepliesAreHandedOut and RepliesReachTheirCallers: each reply that is due has its buffer, through transactions and
-- replies.
use Rattle.bd_laws.proofs.words.Logic.{◌≡◌, ℕ, Bool, true, false, cond, List, [], ◌∷◌, ◌++◌, Option, Some, None, Ok, inl, inr, refl, ap, sym, subst, ◌∙◌, arith}
use Rattle.bd_laws.proofs.words.Types.{TransactionData, Parcel, Process, Thread, Buffer, Frame, Turn, Work, Actor, TodoList, OfThread, OfProcess, WorkKind}
use Rattle.bd_laws.proofs.words.Space.{Space, actor, turn_of, turns_of, is_ripe, ripened, ripen, with_work, owe, hands_out, assign_numbers, closed, goes_to, Delivery, delivered, own_notices, add_buffer, with_carried, refer, make_objects, buffer_of, transacted, called, call_out, reply_check, replied}
use Rattle.bd_space.specs.declared.space.WorkKind.TheVariants as work
use Rattle.bd_todo.specs.TodoList.{reply_of}
use Rattle.bd_laws.proofs.words.Laws.{In, IsInTurn}
use Rattle.bd_laws.proofs.Lists.{in_left, in_last, in_push, in_filter_map}
use Rattle.bd_laws.proofs.Checks.{actor_acts, reply_checked}
use Rattle.bd_laws.proofs.IsInTurn.OneWay.{Less, owe_less, sent_due}
use Rattle.bd_laws.proofs.Machine.Fields.{closed_same, closed_steps, closed_threads, owe_buffers, sent_steps, sent_threads, owe_threads}
use Rattle.bd_laws.proofs.AtHome.HomesSent.{caller_acts}

-- the buffer of the reply made at b, which stands on this list: one of a thread of the process that receives it
pub record HasBuffer (threads : List Thread) (buffers : List Buffer) (list : TodoList) (b : ℕ) : Type 0 where
  pub buffer : Buffer
  pub here : In buffer buffers
  pub made : buffer.made ≡ b
  pub handed : buffer.handed ≡ false
  pub two_way : buffer.one_way ≡ false
  pub thread : Thread
  pub lives : In thread threads
  pub on : list ≡ OfThread thread.seat
  pub receiver : thread.process ≡ buffer.receiver

-- Each reply has its buffer, and no other item hands that over. So the buffer can't go with another item, nor be freed before
-- the reply is read.
pub record Held (threads : List Thread) (buffers : List Buffer) (todo : List Work) : Type 0 where
  pub buffer : (w : Work) (b : ℕ) → In w todo → reply_of w.kind ≡ Some b → HasBuffer threads buffers w.list b
  pub one : (v w : Work) (b : ℕ) → In v todo → In w todo → hands_out v.kind ≡ Some b → reply_of w.kind ≡ Some b → v ≡ w

abbrev pub RepliesHeld : Space → Type 0
RepliesHeld z = Held z.threads z.buffers z.todo

pub reply_hands : (k : WorkKind) (b : ℕ) → reply_of k ≡ Some b → hands_out k ≡ Some b
reply_hands (work.Reply c) b e = e
reply_hands _ b e = absurd (cc)

pub has_moved : (ts us : List Thread) (bs cs : List Buffer) (list : TodoList) (b : ℕ) → (x : HasBuffer ts bs list b) → In x.buffer cs → In x.thread us → HasBuffer us cs list b
has_moved ts us bs cs list b x here lives = search arith

-- ---- nothing more that hands a buffer over, and no buffer and no thread less

pub record Grows (z y : Space) : Type 0 where
  pub due : (w : Work) (m : ℕ) → In w z.todo → hands_out w.kind ≡ Some m → In w y.todo
  pub buffers : (c : Buffer) → In c y.buffers → In c z.buffers
  pub threads : (t : Thread) → In t y.threads → (u : Thread) × In u z.threads × (u.seat ≡ t.seat) × (u.process ≡ t.process)

pub grown : (z y : Space) → Grows z y → RepliesHeld y → RepliesHeld z
grown z y k h = record {
  buffer = λ w b l e.
      let x = h.buffer w b (k.due w b l (reply_hands w.kind b e)) e in
      let u = k.threads x.thread x.lives in
      record {
        buffer = x.buffer;
        here = k.buffers x.buffer x.here;
        made = x.made;
        handed = x.handed;
        two_way = x.two_way;
        thread = u.0;
        lives = u.1;
        on = x.on ∙ ap (λ n. OfThread n) (sym u.2);
        receiver = u.3 ∙ x.receiver;
      };
  one = λ v w b i j e f. h.one v w b (k.due v b i e) (k.due w b j (reply_hands w.kind b f)) e f;
}

pub calm : (z y : Space) → Less z y → z.buffers ≡ y.buffers → z.threads ≡ y.threads → RepliesHeld y → RepliesHeld z
calm z y l bs ts h =
    grown z y (record {
      due = l.due;
      buffers = λ c i. subst (In c) (sym bs) i;
      threads = λ t i. (t, subst (In t) (sym ts) i, refl, refl);
    }) h

-- ---- one item more

module _ (threads : List Thread) (buffers : List Buffer) (place : ℕ) (todo : List Work) where
  -- a call whose buffer is no reply's
  pub call_held : (list : TodoList) (n : ℕ) → ((w : Work) → In w todo → reply_of w.kind ≡ Some n → ⊥) → Held threads buffers todo
      → Held threads buffers (with_work place todo list (work.Call n))
  call_held list n none h = record {
    buffer = λ w b l e. search (arith, in_push, h.buffer);
    one = λ v w b i j e f. search (arith, in_push, h.one, none);
  }

  -- a reply whose buffer no item hands over
  reply_held : (t n : ℕ) → ((v : Work) → In v todo → hands_out v.kind ≡ Some n → ⊥) → HasBuffer threads buffers (OfThread t) n → Held threads buffers todo
      → Held threads buffers (with_work place todo (OfThread t) (work.Reply n))
  reply_held t n none x h = record {
    buffer = λ w b l e. search (arith, in_push, h.buffer, x);
    one = λ v w b i j e f. search (arith, in_push, h.one, none, reply_hands);
  }

-- ---- ripening: each call whose turn comes is a buffer's

module _ (P : List Work → Type 0) (z : Space)
    (k : (todo : List Work) (b : Buffer) (t : Turn) → In b z.buffers → turn_of b ≡ Some t → P todo → P (with_work z.steps todo (OfProcess t.receiver) (work.Call t.made))) where
  either : (b : Bool) (more todo : List Work) → (P todo → P more) → P todo → P (cond b more todo)
  either b more todo f h = search arith

  ripened_keeps_in : (ts older : List Turn) (todo : List Work) → ((t : Turn) → In t ts → (b : Buffer) × In b z.buffers × (turn_of b ≡ Some t)) → P todo → P (ripened z.steps older todo ts)
  ripened_keeps_in [] older todo own h = h
  ripened_keeps_in (t ∷ ts) older todo own h =
      let b = own t (inl refl) in
      ripened_keeps_in ts (older ++ t ∷ []) _ (λ u l. own u (inr l)) (either (is_ripe todo older t) _ todo (k todo b.0 t b.1 b.2) h)

  pub ripen_keeps_in : P z.todo → P (ripen z).todo
  unfolding ripen
  ripen_keeps_in h = ripened_keeps_in (turns_of z.buffers) [] z.todo (λ t l. in_filter_map turn_of t z.buffers l) h

-- ---- what changes neither buffers nor threads

pub owed : (z : Space) (list : TodoList) (kind : WorkKind) → hands_out kind ≡ None → RepliesHeld z → RepliesHeld (owe z list kind)
owed z list kind none h = calm (owe z list kind) z (owe_less z list kind none) (owe_buffers z list kind) (owe_threads z list kind) h

-- ---- transactions and replies

abbrev pub sent : Space → Actor → TransactionData → Delivery → Bool → Space
sent s a d v spam = owe (delivered s a d v) (OfThread a.thread.seat) (work.Complete spam)

sent_buffers : (s : Space) (a : Actor) (d : TransactionData) (v : Delivery) (spam : Bool) → (sent s a d v spam).buffers ≡ s.buffers ++ buffer_of (with_carried s v) a d v ∷ []
unfolding owe delivered own_notices add_buffer with_carried assign_numbers refer make_objects
sent_buffers s a d v spam = refl

sends : (s : Space) (a : Actor) (d : TransactionData) (v : Delivery) (spam : Bool) → RepliesHeld s → RepliesHeld (sent s a d v spam)
sends s a d v spam h = search (arith, grown, sent, sent_due, sent_buffers, in_left, sent_threads)

calls_out : (y : Space) (seat p : ℕ) (one_way : Bool) → ((w : Work) → In w y.todo → reply_of w.kind ≡ Some y.steps → ⊥) → RepliesHeld y → RepliesHeld (called y seat p one_way)
unfolding call_out owe
calls_out y seat p true none h = h
calls_out y seat p false none h = call_held y.threads y.buffers y.steps y.todo (goes_to y seat p) y.steps none h

-- nothing that is due hands over the buffer of a step to come
unmade : (s : Space) → IsInTurn s → (w : Work) → In w s.todo → hands_out w.kind ≡ Some s.steps → ⊥
unmade s turns w l e = let lt = turns.fresh s.steps (w, l, e) in absurd (omega arith)

pub transacts : (s : Space) (a : Actor) (d : TransactionData) (v : Delivery) → IsInTurn s → RepliesHeld s → RepliesHeld (transacted s a d v)
unfolding transacted
transacts s a d v turns h = search (arith, calls_out, sent, reply_hands, sent_steps, unmade, sent_due, sends)

-- where the caller is there, it is told
pub told_when : (R : Space → Type 0) (kind : WorkKind) (z : Space) (caller : Option ℕ) → ((t : ℕ) → caller ≡ Some t → R z → R (owe z (OfThread t) kind)) → R z
    → R (elim caller as (λ (o : Option ℕ). Space) [ None ↦ z | Some t ↦ owe z (OfThread t) kind ])
told_when R kind z None k h = h
told_when R kind z (Some t) k h = k t refl h

answers : (y : Space) (t n : ℕ) → ((v : Work) → In v y.todo → hands_out v.kind ≡ Some n → ⊥) → HasBuffer y.threads y.buffers (OfThread t) n → RepliesHeld y
    → RepliesHeld (owe y (OfThread t) (work.Reply n))
unfolding owe
answers y t n = reply_held y.threads y.buffers y.steps y.todo t n

pub closes : (z : Space) (made : ℕ) → RepliesHeld z → RepliesHeld (closed z made)
unfolding closed
closes z made h = h

-- the reply's buffer is the caller's process's, and its thread lives
fits : (s x : Space) (t : ℕ) (a c : Actor) (d : TransactionData) (v : Delivery) → x.steps ≡ s.steps → x.threads ≡ s.threads → actor s t ≡ Some c
    → v.receiver ≡ c.process → v.one_way ≡ false → HasBuffer (sent x a d v false).threads (sent x a d v false).buffers (OfThread t) s.steps
unfolding with_carried assign_numbers refer make_objects
fits s x t a c d v steps threads acts to two_way =
    let k = actor_acts s t c acts in
    record {
      buffer = buffer_of (with_carried x v) a d v;
      here = subst (In (buffer_of (with_carried x v) a d v)) (sym (sent_buffers x a d v false)) (in_last (buffer_of (with_carried x v) a d v) x.buffers);
      made = steps;
      handed = refl;
      two_way = two_way;
      thread = c.thread;
      lives = subst (In c.thread) (sym (sent_threads x a d v false ∙ threads)) k.thread;
      on = ap (λ n. OfThread n) (sym k.seat);
      receiver = sym (ap (λ (y : Process). y.made) to ∙ k.own);
    }

pub replies : (s : Space) (a : Actor) (d : TransactionData) (parcel : Option Parcel) (f : Frame) (v : Delivery) → IsInTurn s → reply_check s a d parcel f ≡ Ok v → RepliesHeld s
    → RepliesHeld (replied s a d f v)
unfolding replied
replies s a d parcel f v turns checked h =
    let x = closed s f.made in
    let r = reply_checked s a d parcel f v checked in
    told_when RepliesHeld (work.Reply s.steps) (sent x a d v false) f.caller (λ t e.
    answers (sent x a d v false) t s.steps (λ w l hands. unmade s turns w (subst (In w) (closed_same s f.made).3 (sent_due x a d v false w s.steps l hands)) hands)
    (fits s x t a r.caller d v (closed_steps s f.made) (closed_threads s f.made) (caller_acts s f t r.caller r.found e) r.receiver r.one_way))
    (sends x a d v false (closes s f.made h))
