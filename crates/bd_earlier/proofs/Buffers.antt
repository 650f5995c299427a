-- PlacesAreEarlier: who receives a buffer, who sent it, and on which object. A step makes one buffer at most, between live
-- processes, on an object that is there; of other buffers it changes nothing of this.
use Rattle.bd_laws.proofs.words.Logic.{◌≡◌, ℕ, ◌<◌, ◌==◌, Bool, true, false, cond, List, Option, Some, None, Ok, inl, inr, subst, sym, ◌∙◌, arith, filter, option_and_then}
use Rattle.bd_laws.proofs.words.Types.{Identity, TransactionData, Step, Actor, Buffer, Frame, Object, Parcel, Process, Work, OfThread}
use Rattle.bd_laws.proofs.words.Space.{Space, actor, caller_of, owe, closed, work_goes, with_looping, without_buffer, with_thread, Delivery, delivered, own_notices, add_buffer, with_carried, refer, make_objects, assign_numbers, buffer_of, transaction_check, reply_check, transacted, replied, buffer_taken, handed_buffers, hand_out, is_made_at, read_by, thread_goes, without_process, change, is_spam, process_in}
use Rattle.bd_space.specs.declared.space.WorkKind.TheVariants as work
use Rattle.bd_laws.proofs.words.Laws.{In}
use Rattle.bd_laws.proofs.Lists.{in_push, in_filter, in_changed, find_in}
use Rattle.bd_laws.proofs.Checks.{transaction_checked, reply_checked, actor_acts}
use Rattle.bd_laws.proofs.Machine.EveryStep.{Keeps, every_step}
use Rattle.bd_laws.proofs.Machine.Fields.{owe_buffers}
use Rattle.bd_laws.proofs.Machine.Untouched.{called_untouched, told_untouched}
use Rattle.bd_laws.proofs.Machine.Table.{Table, Exits, Closing, Any, ripen_by, keeps_by}

-- the buffer's receiver, sender and target are of steps below n
pub record Sent (n : ℕ) (b : Buffer) : Type 0 where
  pub receiver : b.receiver < n
  pub sender : b.sender < n
  pub target : (o : Identity) → b.target ≡ Some o → o.place < n

abbrev pub AllSent : ℕ → List Buffer → Type 0
AllSent n bs = (b : Buffer) → In b bs → Sent n b

fewer : (n : ℕ) (p : Buffer → Bool) (bs : List Buffer) → AllSent n bs → AllSent n (filter p bs)
fewer n p bs h b l = h b (in_filter p b bs l).0

pub later : (n m : ℕ) → n < m → (bs : List Buffer) → AllSent n bs → AllSent m bs
later n m lt bs h b l =
    let k = h b l in
    let receiver = k.receiver in
    let sender = k.sender in
    record { receiver = omega arith; sender = omega arith; target = λ o e. let target = k.target o e in omega arith }

-- ---- spaces

abbrev pub Keeping : Space → Space → Type 0
Keeping z y = (n : ℕ) → AllSent n y.buffers → AllSent n z.buffers

sent_table : Table Keeping Any
unfolding with_thread with_looping without_buffer owe work_goes
sent_table = record {
  same = λ z n h. h;
  trans = λ z y x h k n i. h n (k n i);
  beside = λ z qs m os rs ns ds n h. h;
  seats = λ z seat p n h. h;
  loops = λ z t looping n h. h;
  frees = λ z made n h. fewer n _ z.buffers h;
  owes = λ z list kind t n h. h;
  sheds = λ z n h. h;
  notice = λ o. tt;
  death = λ made. tt;
  clear = λ cookie. tt;
}

sent_exits : Exits Keeping
unfolding thread_goes without_process
sent_exits = record { goes = λ z seat n. fewer n _ z.buffers; rest = λ z p n. fewer n _ z.buffers }

sent_closing : Closing Keeping
unfolding closed
sent_closing z made n h = h

-- ---- the buffer that a step makes

module _ (n : ℕ) (s : Space) (a : Actor) (d : TransactionData) (v : Delivery) (receiver : v.receiver.made < n) (sender : a.process.made < n) (target : (o : Identity) → v.target ≡ Some o → o.place < n)
    (h : AllSent n s.buffers) where
  delivered_sent : AllSent n (delivered s a d v).buffers
  unfolding delivered own_notices add_buffer with_carried assign_numbers refer make_objects
  delivered_sent b l = elim (in_push b (buffer_of (with_carried s v) a d v) s.buffers l) [
    | inl i ↦ h b i
    | inr is ↦ subst (Sent n) is (record { receiver = receiver; sender = sender; target = target })
  ]

  sent_sent : (spam : Bool) → AllSent n (owe (delivered s a d v) (OfThread a.thread.seat) (work.Complete spam)).buffers
  sent_sent spam = subst (AllSent n) (sym (owe_buffers (delivered s a d v) (OfThread a.thread.seat) (work.Complete spam))) delivered_sent

  transacted_sent : AllSent n (transacted s a d v).buffers
  unfolding transacted
  transacted_sent =
      let spam = is_spam (delivered s a d v) a v in
      let y = owe (delivered s a d v) (OfThread a.thread.seat) (work.Complete spam) in
      subst (AllSent n) (sym (called_untouched y a.thread.seat v.receiver.made v.one_way).buffers) (sent_sent spam)

replied_sent : (n : ℕ) (s : Space) (a : Actor) (d : TransactionData) (f : Frame) (v : Delivery) → v.receiver.made < n → a.process.made < n → ((o : Identity) → v.target ≡ Some o → o.place < n)
    → AllSent n s.buffers → AllSent n (replied s a d f v).buffers
unfolding replied
replied_sent n s a d f v receiver sender target h =
    let y = owe (delivered (closed s f.made) a d v) (OfThread a.thread.seat) (work.Complete false) in
    subst (AllSent n) (sym (told_untouched y f.caller (work.Reply s.steps)).buffers)
    (sent_sent n (closed s f.made) a d v receiver sender target (sent_closing s f.made n h) false)

-- ---- reading

hand_sent : (n : ℕ) (t : Bool) (b : Buffer) → Sent n b → Sent n (cond t (hand_out b) b)
hand_sent n true b h = record { receiver = h.receiver; sender = h.sender; target = h.target }
hand_sent n false b h = h

handed_sent : (n : ℕ) (bs : List Buffer) (o : Option Buffer) → AllSent n bs → AllSent n (handed_buffers bs o)
handed_sent n bs None h = h
handed_sent n bs (Some c) h = λ b l.
    let u = in_changed (is_made_at c.made) hand_out b bs l in
    subst (Sent n) (sym u.2) (hand_sent n (is_made_at c.made u.0) u.0 (h u.0 u.1))

read_sent : (n : ℕ) (s : Space) (seat : ℕ) (ws : List Work) → AllSent n s.buffers → AllSent n (read_by s seat ws).buffers
unfolding read_by
read_sent n s seat ws = handed_sent n s.buffers (buffer_taken s ws)

-- ---- every step

-- processes and objects are of steps before
pub record Older (s : Space) : Type 0 where
  pub born : (q : Process) → In q s.processes → q.made < s.steps
  pub objects : (x : Object) → In x s.objects → x.id.place < s.steps

module _ (s : Space) (older : Older s) where
  abbrev F : Space → Type 0
  F z = AllSent s.steps z.buffers

  live : (p : ℕ) (q : Process) → process_in s.processes p ≡ Some q → q.made < s.steps
  live p q e = older.born q (find_in (λ (q : Process). q.made == p) q s.processes e).0

  acts : (seat : ℕ) (a : Actor) → actor s seat ≡ Some a → a.process.made < s.steps
  acts seat a e = older.born a.process (actor_acts s seat a e).process

  transacts : (seat : ℕ) (a : Actor) (d : TransactionData) (parcel : Option Parcel) (v : Delivery) → F s → actor s seat ≡ Some a → transaction_check s a d parcel ≡ Ok v → F (transacted s a d v)
  transacts seat a d parcel v h e check =
      let t = transaction_checked s a d parcel v check in
      transacted_sent s.steps s a d v (live t.owned.object.owner v.receiver t.owned.lives) (acts seat a e)
      (λ o is.
      let same : t.object ≡ o = (let k = t.target in cc) in
      subst (λ (i : Identity). i.place < s.steps) (t.owned.id ∙ same) (older.objects t.owned.object t.owned.here)) h

  caller : (c : Option ℕ) (b : Actor) → option_and_then (actor s) c ≡ Some b → b.process.made < s.steps
  caller None b e = absurd (cc)
  caller (Some t) b e = acts t b e

  answers : (seat : ℕ) (a : Actor) (d : TransactionData) (parcel : Option Parcel) (f : Frame) (v : Delivery) → F s → actor s seat ≡ Some a → reply_check s a d parcel f ≡ Ok v → F (replied s a d f v)
  unfolding caller_of
  answers seat a d parcel f v h e check =
      let t = reply_checked s a d parcel f v check in
      replied_sent s.steps s a d f v (subst (λ (q : Process). q.made < s.steps) (sym t.receiver) (caller f.caller t.caller t.found)) (acts seat a e)
      (λ o is. let none = t.target in absurd (cc)) h

  kept : (seat : ℕ) (x : Step) → F s → Keeps s seat x F F
  kept seat x h =
      keeps_by Keeping Any sent_table s seat x F (λ z k. k s.steps h) sent_exits sent_closing (λ z y k. k s.steps) (λ r. tt) (λ r. tt) (record {
        transacts = λ a d parcel v e i t. transacts seat a d parcel v h i t;
        replies = λ a d parcel f v e i g t. answers seat a d parcel f v h i t;
        reads = λ a limit e i k. read_sent s.steps s a.thread.seat _ h;
        ripens = λ z. ripen_by Keeping Any sent_table (λ made. tt) z s.steps;
      })

  pub next_sent : (seat : ℕ) (x : Step) → F s → F (change s seat x).space
  next_sent seat x h = every_step s seat x F F (kept seat x h)
