-- For the laws of turns and for RepliesReachTheirCallers, where a call is handed out once: the work items of a one-way call:
-- it is due once at most, on its receiver's list, while its buffer lives and isn't handed out; and what a step makes of its
-- buffer.
use Rattle.bd_laws.proofs.words.Logic.{◌≡◌, ℕ, ◌-◌, ◌<◌, Bool, true, false, not, List, [], ◌∷◌, Option, Some, None, Ok, ◌⊎◌, inl, inr, refl, ap, sym, ◌∙◌, filter, arith, list_any, eqb-true}
use Rattle.bd_laws.proofs.words.Types.{TransactionData, Identity, Parcel, Command, Read, Entry, Actor, Frame, Buffer, Work, TodoList, OfThread, WorkKind}
use Rattle.bd_laws.proofs.words.Space.{Space, actor, owe, with_work, is_call, hands_out, list_to_read, is_item, closed, goes_to, follow, assign_numbers, Delivery, delivered, own_notices, add_buffer, with_carried, refer, make_objects, buffer_of, transaction_check, transacted, called, call_out, is_one_way, reply_check, replied, is_made_at, taken, read_by, buffer_taken, hand_out, handed_buffers, read_fault, change, is_spam, ask, drop_asked, acknowledge, with_looping, without_process, threads_go}
use Rattle.bd_uapi.specs.declared.command.Command.TheVariants as bc
use Rattle.bd_space.specs.declared.space.WorkKind.TheVariants as work
use Rattle.bd_laws.proofs.words.Laws.{In, IsInTurn}
use Rattle.bd_laws.proofs.Machine.EveryStep.{Keeps, every_step}
use Rattle.bd_laws.proofs.Lists.{in_left, in_push, in_filter, in_changed, changed_in, any_in}
use Rattle.bd_laws.proofs.Tests.{not_true}
use Rattle.bd_laws.proofs.IsInTurn.OneWay.{with_work_less, own_notices_less}
use Rattle.bd_laws.proofs.IsInTurn.Ripening.{taken_due, read_in, made_kept}
use Rattle.bd_laws.proofs.Checks.{Transacts, transaction_checked, reply_checked}
use Rattle.bd_laws.proofs.IsInTurn.Passing.{at_pointer_in}
use Rattle.bd_laws.proofs.IsInTurn.Passed.{follow_after}
use Rattle.bd_laws.proofs.OnPaths.PathWords.{same_item}
use Rattle.bd_laws.proofs.Machine.Deaths.{KeptOnDeaths, on_kept, on_told, on_commands}
use Rattle.bd_laws.proofs.Machine.Following.{threads_keep}
use Rattle.bd_laws.proofs.Machine.EveryEnding.{set_up_beside}
use Rattle.bd_audit.specs.Replies.{items_taken, items_read, items_unless}
use Rattle.bd_audit.specs.TurnCalls.{CallsOneWay}
use Rattle.bd_audit.proofs.RepliesReachTheirCallers.Traces.{transaction_accepted}
use Rattle.bd_laws.proofs.Machine.Fields.{sent_steps}
use Rattle.bd_audit.proofs.TurnsAreTaken.CallItemsKept.{Hands, DueOnce, IsOneWay, HandedBefore, Treated, Treats, once_less, treats_same, gone_buffer, gone_thread, gone_process, ripens}

module _ (s : Space) (e : Entry) (m : ℕ) where
  -- ---- transactions and replies

  delivers : (y : Space) (a : Actor) (d : TransactionData) (v : Delivery) → ((o : Identity) → v.one_way ≡ true → v.target ≡ Some o → CallsOneWay s e o) → Treats s e m y
      → Treats s e m (delivered y a d v)
  unfolding delivered own_notices add_buffer with_carried assign_numbers refer make_objects
  delivers y a d v calls h = record {
    once = λ fits.
        (once_less s e m) y.buffers _ _ y.todo (λ w i. own_notices_less (add_buffer (with_carried y v) (buffer_of (with_carried y v) a d v)) a.thread.seat v.sending.items w m i.0 i.1)
        (λ w i u. in_left u.buffer y.buffers (buffer_of (with_carried y v) a d v ∷ []) u.here) (h.once fits);
    handed = λ c i made handed. elim (in_push c (buffer_of (with_carried y v) a d v) y.buffers i) [
      | inl k ↦ h.handed c k made handed
      | inr is ↦ (let no : false ≡ c.handed = ap (λ (x : Buffer). x.handed) is in absurd (cc))
    ];
    made = λ o c i at on. elim (in_push c (buffer_of (with_carried y v) a d v) y.buffers i) [
      | inl k ↦ h.made o c k at on
      | inr is ↦ calls o (ap (λ (x : Buffer). x.one_way) is ∙ on.0) (ap (λ (x : Buffer). x.target) is ∙ on.1)
    ];
  }

  -- an item that hands over what the step makes, but that is no one-way call
  hands_other : (bs : List Buffer) (place : ℕ) (todo : List Work) (list : TodoList) (kind : WorkKind) → hands_out kind ≡ Some s.steps → (IsOneWay e.step → ⊥) → Treated s e m bs todo
      → Treated s e m bs (with_work place todo list kind)
  hands_other bs place todo list kind hands none h = record {
    once = λ fits. elim fits [
      | inl lt ↦ (once_less s e m) bs bs (with_work place todo list kind) todo (was lt) (λ w i u. u.here) (h.once (inl lt))
      | inr call ↦ absurd (none call)
    ];
    handed = h.handed;
    made = h.made;
  }
    where
      was : m < s.steps → (w : Work) → Hands m (with_work place todo list kind) w → In w todo
      was lt w i = search (arith, in_push)

  owes : (z : Space) (list : TodoList) (kind : WorkKind) → hands_out kind ≡ None → Treats s e m z → Treats s e m (owe z list kind)
  unfolding owe
  owes z list kind none h = (treats_same s e m) z.buffers z.buffers _ z.todo refl (λ w i. with_work_less z.steps z.todo list kind none w m i.0 i.1) h

  deaths_treat : KeptOnDeaths (Treats s e m)
  deaths_treat = search (arith, owes)

  calls : (z : Space) (seat p : ℕ) (one_way : Bool) → z.steps ≡ s.steps → (one_way ≡ false → IsOneWay e.step → ⊥) → Treats s e m z → Treats s e m (called z seat p one_way)
  unfolding call_out owe
  calls z seat p true steps none h = h
  calls z seat p false steps none h = hands_other z.buffers z.steps z.todo (goes_to z seat p) (work.Call z.steps) (ap (λ n. Some n) steps) (none refl) h

  replies_to : (z : Space) (caller : Option ℕ) → (IsOneWay e.step → ⊥) → Treats s e m z
      → Treats s e m (elim caller as (λ (o : Option ℕ). Space) [ None ↦ z | Some t ↦ owe z (OfThread t) (work.Reply s.steps) ])
  unfolding owe
  replies_to z None none h = h
  replies_to z (Some t) none h = hands_other z.buffers z.steps z.todo (OfThread t) (work.Reply s.steps) refl none h

  sends : (y : Space) (a : Actor) (d : TransactionData) (v : Delivery) (spam : Bool) → ((o : Identity) → v.one_way ≡ true → v.target ≡ Some o → CallsOneWay s e o) → Treats s e m y
      → Treats s e m (owe (delivered y a d v) (OfThread a.thread.seat) (work.Complete spam))
  sends y a d v spam made h = owes (delivered y a d v) (OfThread a.thread.seat) (work.Complete spam) refl (delivers y a d v made h)

  module _ (a : Actor) (acts : actor s e.seat ≡ Some a) (d : TransactionData) (parcel : Option Parcel) where
    transacts : (v : Delivery) → e.step ≡ Command (bc.Transaction d) parcel → transaction_check s a d parcel ≡ Ok v → Treats s e m s → Treats s e m (transacted s a d v)
    unfolding transacted
    transacts v x check h =
        calls (owe (delivered s a d v) (OfThread a.thread.seat) (work.Complete spam)) a.thread.seat v.receiver.made v.one_way (sent_steps s a d v spam) other (sends s a d v spam made h)
      where
        spam : Bool
        spam = is_spam (delivered s a d v) a v

        t : Transacts s a d parcel v
        t = transaction_checked s a d parcel v check

        other : v.one_way ≡ false → IsOneWay e.step → ⊥
        other two_way k =
            let same_step : Command (bc.Transaction d) parcel ≡ Command (bc.Transaction k.0) k.1 = sym x ∙ k.2 in
            let is : d ≡ k.0 = cc in
            let yes : is_one_way d ≡ true = ap is_one_way is ∙ k.3 in
            let either_way = t.one_way in
            absurd (cc)

        made : (o : Identity) → v.one_way ≡ true → v.target ≡ Some o → CallsOneWay s e o
        made o one_way target =
            let is : t.object ≡ o = (let f = t.target in cc) in
            record {
              actor_is = a;
              acts = acts;
              fields = d;
              parcel = parcel;
              command = x;
              one_way = sym t.one_way ∙ one_way;
              target = t.named ∙ ap (λ (y : Identity). Ok y) is;
              accepted = ap (λ y. (change s e.seat y).answer) x ∙ transaction_accepted s e.seat a d parcel v acts check;
            }

    replies : (f : Frame) (v : Delivery) → e.step ≡ Command (bc.Reply d) parcel → reply_check s a d parcel f ≡ Ok v → Treats s e m s → Treats s e m (replied s a d f v)
    unfolding replied closed
    replies f v x check h =
        replies_to (owe (delivered (closed s f.made) a d v) (OfThread a.thread.seat) (work.Complete false)) f.caller other
        (sends (closed s f.made) a d v false made h)
      where
        other : IsOneWay e.step → ⊥
        other k = let same_step : Command (bc.Reply d) parcel ≡ Command (bc.Transaction k.0) k.1 = sym x ∙ k.2 in absurd (cc)

        made : (o : Identity) → v.one_way ≡ true → v.target ≡ Some o → CallsOneWay s e o
        made o one_way target = let none = (reply_checked s a d parcel f v check).target in absurd (cc)

  -- ---- reading

  module _ (turns : IsInTurn s) (due : DueOnce m s.buffers s.todo) where
    at_start : Treats s e m s
    at_start = record {
      once = λ fits. due;
      handed = λ c i made handed. inl (c, i, made, handed);
      made = λ o c i at on. let lt = turns.below c i in absurd (omega arith);
    }

    module _ (a : Actor) (limit : ℕ) (acts : actor s e.seat ≡ Some a) (x : e.step ≡ Read limit) (n : read_fault limit (list_to_read s a.thread) ≡ None) where
      abbrev items : List Work
      items = taken s (limit - 4) (list_to_read s a.thread)

      takes_items : items_taken s e.seat e.step ≡ items
      takes_items = ap (λ y. items_taken s e.seat y) x ∙ ap (λ o. items_read s limit o) acts ∙ ap (λ o. items_unless o items) n

      abbrev left : Work → Bool
      left w = not (list_any (λ (d : Work). is_item w d) items)

      was : (w : Work) → Hands m (filter left s.todo) w → Hands m s.todo w
      was w i = ((in_filter left w s.todo i.0).0, i.1)

      -- who hands the buffer over is among the items taken
      hander : (b : Buffer) → buffer_taken s items ≡ Some b → b.made ≡ m → (v : Work) × In v items × Hands m s.todo v
      hander b e made = search (arith, taken_due, read_in)

      -- a buffer whose item isn't taken stays as it was
      stays : (w : Work) → Hands m (filter left s.todo) w → (b : Buffer) → In b s.buffers → b.made ≡ m
          → (o : Option Buffer) → buffer_taken s items ≡ o → In b (handed_buffers s.buffers o)
      stays w i b here made o f = search (arith, changed_in, hander, eqb-true, was, any_in, same_item, not_true, in_filter, left)

      handed_out : (c : Buffer) → (o : Option Buffer) → buffer_taken s items ≡ o → In c (handed_buffers s.buffers o) → c.made ≡ m → c.handed ≡ true
          → HandedBefore s m ⊎ (list_any (λ (w : Work). is_call m w.kind) (items_taken s e.seat e.step) ≡ true)
      handed_out c o f i made handed = search (arith, in_changed, hander, takes_items, any_in, eqb-true)

      old_made : (c : Buffer) → (o : Option Buffer) → In c (handed_buffers s.buffers o) → c.made < s.steps
      old_made c None i = turns.below c i
      old_made c (Some y) i =
          let b = in_changed (is_made_at y.made) hand_out c s.buffers i in
          let at : c.made ≡ b.0.made = ap (λ (x : Buffer). x.made) b.2 ∙ made_kept (is_made_at y.made b.0) b.0 in
          let lt = turns.below b.0 b.1 in omega arith

      reads : Treats s e m (read_by s a.thread.seat items)
      unfolding read_by
      reads = record {
        once = λ fits. (once_less s e m) s.buffers _ _ s.todo (λ w i. (was w i).0) (λ w i u. stays w i u.buffer u.here u.made (buffer_taken s items) refl) due;
        handed = λ c i made handed. handed_out c (buffer_taken s items) refl i made handed;
        made = λ o c i at on. let lt = old_made c (buffer_taken s items) i in absurd (omega arith);
      }

    -- ---- every step

    treating : Keeps s e.seat e.step (Treats s e m) (Treats s e m)
    unfolding ask assign_numbers drop_asked acknowledge with_looping closed
    treating = record {
      set_up = set_up_beside s e.seat (Treats s e m) (λ qs ts os rs k. at_start);
      changes = record {
        transacts = λ a d parcel v x i t. transacts a i d parcel v x t at_start;
        replies = λ a d parcel f v x i g t. replies a i d parcel f v x t at_start;
        frees = λ p ptr b i t. (gone_buffer s e m) b turns (at_pointer_in s p ptr b i) t at_start;
        asks = λ a n strong o x i t. at_start;
        drops = λ p o strong. at_start;
        acknowledges = λ o strong i. at_start;
        loops = λ a looping x. at_start;
        on_deaths = on_commands s (Treats s e m) (on_kept (Treats s e m) deaths_treat s at_start);
        reads = λ a limit i x n. reads a limit i x n;
        leaves = λ a i. (gone_thread s e m) s a.thread.seat at_start;
        ends = λ a i. on_told (Treats s e m) deaths_treat (without_process (threads_go s a.process.made) a.process.made) a.process.made
            ((gone_process s e m) (threads_go s a.process.made) a.process.made (threads_keep (Treats s e m) (gone_thread s e m) s a.process.made at_start));
        ripens = ripens s e m;
      };
      follows = λ z. (treats_same s e m) z.buffers (follow z).buffers (follow z).todo z.todo (follow_after z).buffers (λ w i. (follow_after z).due w m i.0 i.1);
      closes = λ z made h. h;
      refuses = λ z t r. owes z (OfThread t) (work.Refusal r) refl;
      tells = λ z t r. owes z (OfThread t) (work.Verdict r) refl;
    }

    pub step_treats : Treats s e m (change s e.seat e.step).space
    step_treats = every_step s e.seat e.step (Treats s e m) (Treats s e m) treating
