-- What follows from a transaction and from a reply: a look at the objects of the parcel does it all, but for a call that ripens
-- and those that close.
use Rattle.bd_step.proofs.Words.{Actor, Bool, CanCall, CanSend, Delivers, Delivery, Earlier, Frame, Identity, In, IsFollowed, IsReplying, IsSending, IsServing, IsTidy, None, OneEach, Option, Pairs, Some, Space, TransactionData, ap, are_known_before, calm, close_up, closed, closed_before, closed_sends, completed, delivered, delivered_elsewhere, delivered_kept, false, follow_of, if◌then◌else◌, length}
use Rattle.bd_step.proofs.{Words.{no_name, objects_of_items, one_each, one_way_local, refl, replied, replied_childless, replied_kept, reply_checked, reply_local, ripen_next, ripen_of, sending_made_sent, sending_sends, sym, transacted, transacted_kept, transaction_checked, transaction_delivers, true, two_way_local, ℕ, ◌∙◌, ◌≡◌}, Finding.{found_lives}}
use Rattle.bd_step.proofs.{Known.{known_elsewhere, transacted_elsewhere, replied_elsewhere, looked_at_less}, New.{can_send}, Stacked.{tidy_takes}}

pub ripened_ordered : (target : Option Identity) (s : Space) → Pairs Earlier s.objects → Pairs Earlier (ripen_next target s).objects
unfolding ripen_of
ripened_ordered None s h = h
ripened_ordered (Some o) s h = h

-- ---- a transaction

module _ (s : Space) (a : Actor) (d : TransactionData) (v : Delivery) (p : IsSending a d v s) where
  pub sent_call : CanCall v s
  sent_call =
      let t = transaction_checked s a d p.checked.0 v p.checked.1 in
      record {
        sends = can_send s a.process.made p.tidy d p.checked.0 v t.sends (λ o e. let is : t.object ≡ o = (let k = t.target in cc) in (t.owned.object, t.owned.here, t.owned.id ∙ is));
        lives = found_lives s.processes t.owned.object.owner v.receiver t.owned.lives;
        takes = tidy_takes s p.tidy;
      }

  pub sent_ordered : Pairs Earlier (transacted s a d v).objects
  sent_ordered = (transacted_kept s a d p.checked.0 v p.tidy.before.objects p.checked.1).in_order

  -- at the objects that are sent
  all_followed : completed (transacted s a d v) ≡ follow_of no_name (objects_of_items v.sending.items) (ripen_next (if v.one_way then v.target else None) (transacted s a d v))
  all_followed = at v.one_way refl
    where
      at : (b : Bool) → v.one_way ≡ b
          → completed (transacted s a d v) ≡ follow_of no_name (objects_of_items v.sending.items) (ripen_next (if b then v.target else None) (transacted s a d v))
      at true one =
          let t = transaction_checked s a d p.checked.0 v p.checked.1 in
          one_way_local s a d v (calm s p.tidy.quiet) p.tidy.before.objects (transaction_delivers s a d p.checked.0 v p.tidy.before.objects p.checked.1) p.tidy.quiet.settled t.object one t.target
          ∙ ap (λ (o : Option Identity). follow_of no_name (objects_of_items v.sending.items) (ripen_next o (transacted s a d v))) (sym t.target)
      at false two = two_way_local s a d v (calm s p.tidy.quiet) p.tidy.before.objects (transaction_delivers s a d p.checked.0 v p.tidy.before.objects p.checked.1) p.tidy.quiet.settled two

  delivered_ordered : Pairs Earlier (delivered s a d v).objects
  delivered_ordered =
      let t = transaction_checked s a d p.checked.0 v p.checked.1 in
      let kept = delivered_kept s a d v p.tidy.before.objects (sending_sends s a.process.made d p.checked.0 v.sending t.sends)
      (λ o e. let is : t.object ≡ o = (let k = t.target in cc) in (t.owned.object, t.owned.here, t.owned.id ∙ is)) in
      kept.in_order

  -- so it does at those that were known before
  pub sent_followed : completed (transacted s a d v) ≡ follow_of no_name (are_known_before s.steps v.sending.items) (ripen_next (if v.one_way then v.target else None) (transacted s a d v))
  sent_followed =
      let target : Option Identity = if v.one_way then v.target else None in
      let delivers = transaction_delivers s a d p.checked.0 v p.tidy.before.objects p.checked.1 in
      let followed = p.tidy.quiet.followed in
      all_followed
      ∙ looked_at_less (objects_of_items v.sending.items) (are_known_before s.steps v.sending.items) (ripen_next target (transacted s a d v))
      (transacted_elsewhere s a d v (objects_of_items v.sending.items) (delivered_elsewhere s v followed p.tidy.before.objects delivers a d) target)
      (transacted_elsewhere s a d v (are_known_before s.steps v.sending.items)
      (known_elsewhere s v followed p.tidy.before.objects delivers a d delivered_ordered) target)

-- ---- a reply

pub one_frame_each : (s : Space) → IsTidy s → OneEach s.frames
one_frame_each s tidy = one_each s tidy.framed

pub served_there : (s : Space) (seat : ℕ) (f : Frame) → IsServing seat f s → In f s.frames
served_there s seat f p = (replied_childless s seat f p.tidy p.serves).0

module _ (s : Space) (a : Actor) (d : TransactionData) (f : Frame) (v : Delivery) (p : IsReplying a d f v s) where
  pub replied_sends : CanSend v s
  replied_sends =
      let t = reply_checked s a d p.checked.0 f v p.checked.1 in
      can_send s a.process.made p.serving.tidy d p.checked.0 v t.sends (λ o e. let none = t.target in absurd (cc))

  pub replied_ordered : Pairs Earlier (replied s a d f v).objects
  replied_ordered = (replied_kept s a d p.checked.0 f v p.serving.tidy.before.objects p.checked.1).in_order

  -- frames close from the parent of the one that ends
  all_replied : (let z = follow_of no_name (objects_of_items v.sending.items) (replied s a d f v) in completed (replied s a d f v) ≡ close_up (length z.frames) f.parent z)
  all_replied = reply_local s a d p.checked.0 f v p.serving.tidy p.checked.1 (one_frame_each s p.serving.tidy) (served_there s a.thread.seat f p.serving)

  abbrev x : Space
  x = closed s f.made

  x_followed : IsFollowed x
  unfolding closed
  x_followed =
      let h = p.serving.tidy.quiet.followed in
      record { names = h.names; objects = h.objects; deaths = h.deaths; notices = h.notices; tellings = h.tellings; made = h.made }

  x_delivers : Delivers x v
  unfolding closed
  x_delivers =
      let t = reply_checked s a d p.checked.0 f v p.checked.1 in
      let sends = sending_sends s a.process.made d p.checked.0 v.sending t.sends in
      record { sent = sending_made_sent s a.process.made d p.checked.0 v.sending t.sends; new = sends.makes.place; target = λ o e. (let none = t.target in absurd (cc)) }

  x_ordered : Pairs Earlier (delivered x a d v).objects
  x_ordered =
      let t = reply_checked s a d p.checked.0 f v p.checked.1 in
      let sends = sending_sends s a.process.made d p.checked.0 v.sending t.sends in
      let kept = delivered_kept x a d v (closed_before s f.made p.serving.tidy.before.objects) (closed_sends s f.made a.process.made v.sending.made v.sending.items sends)
      (λ o e. let none = t.target in absurd (cc)) in
      kept.in_order

  looked : follow_of no_name (objects_of_items v.sending.items) (replied s a d f v) ≡ follow_of no_name (are_known_before s.steps v.sending.items) (replied s a d f v)
  unfolding closed
  looked =
      let kept = closed_before s f.made p.serving.tidy.before.objects in
      looked_at_less (objects_of_items v.sending.items) (are_known_before s.steps v.sending.items) (replied s a d f v)
      (replied_elsewhere s a d f v (objects_of_items v.sending.items) (delivered_elsewhere x v x_followed kept x_delivers a d))
      (replied_elsewhere s a d f v (are_known_before s.steps v.sending.items) (known_elsewhere x v x_followed kept x_delivers a d x_ordered))

  pub replied_followed : (let z = follow_of no_name (are_known_before s.steps v.sending.items) (replied s a d f v) in completed (replied s a d f v) ≡ close_up (length z.frames) f.parent z)
  replied_followed = all_replied ∙ ap (λ (z : Space). close_up (length z.frames) f.parent z) looked
