-- For the engine, by FollowingIsLocal: after a BC_REPLY it is enough to look at the sent objects, and at frames from the
-- closed one's parent upwards.
use Rattle.bd_laws.proofs.words.Logic.{arith, ◌≡◌, ℕ, not, [], ◌++◌, Option, Ok, ap, sym, subst, ◌∙◌, filter, length, append-nil, cons_option, false}
use Rattle.bd_laws.proofs.words.Types.{TransactionData, Parcel, Frame, Actor, OfThread}
use Rattle.bd_laws.proofs.words.Space.{Space, closed, is_frame, owe, turns_of, completed, Delivery, delivered, replied, reply_check, ObjectTest, follow_of, no_name, objects_of_items, close_up}
use Rattle.bd_space.specs.declared.space.WorkKind.TheVariants as work
use Rattle.bd_laws.proofs.words.Laws.{In, Elsewhere, NoneRipe, IsTidy}
use Rattle.bd_laws.proofs.Lists.{in_filter}
use Rattle.bd_laws.proofs.Sendings.{sending_sends}
use Rattle.bd_laws.proofs.Checks.{reply_checked}
use Rattle.bd_laws.proofs.KeptBefore.ObjectsKept.{closed_before}
use Rattle.bd_laws.proofs.Follow.{follow_local}
use Rattle.bd_laws.proofs.FollowingIsLocal.Ripe.{ripen_still}
use Rattle.bd_laws.proofs.NothingIsPending.Quiet.{IsCalm, closed_calm}
use Rattle.bd_laws.proofs.Freeing.{owe_elsewhere, owed_unripe}
use Rattle.bd_laws.proofs.Sending as sending
use Rattle.bd_laws.proofs.Sending.{none_found}
use Rattle.bd_laws.proofs.FollowingIsLocal.Sent.{Delivers}
use Rattle.bd_laws.proofs.Pings.{sending_made_sent}
use Rattle.bd_laws.proofs.NothingIsPending.NextParts.{calm}
use Rattle.bd_laws.proofs.Abandoned.{OneEach, only_parent, settle_up}
use Rattle.bd_laws.proofs.Machine.Fields.{follow_of_frames, closed_frames, told_frames}
use Rattle.bd_laws.proofs.Machine.Adding.{told_keeps}

closed_delivers : (s : Space) (made : ℕ) (v : Delivery) → Delivers s v → Delivers (closed s made) v
unfolding closed
closed_delivers s made v h = record { sent = h.sent; new = h.new; target = h.target }

module _ (s : Space) (a : Actor) (d : TransactionData) (parcel : Option Parcel) (f : Frame) (v : Delivery) (tidy : IsTidy s) (check : reply_check s a d parcel f ≡ Ok v) where
  abbrev sent : ObjectTest
  sent = objects_of_items v.sending.items

  x : Space
  x = closed s f.made

  delivers : Delivers s v
  delivers =
      let t = reply_checked s a d parcel f v check in
      let sends = sending_sends s a.process.made d parcel v.sending t.sends in
      record { sent = sending_made_sent s a.process.made d parcel v.sending t.sends; new = sends.makes.place; target = λ o e. (let none = t.target in absurd (cc)) }

  y : Space
  y = owe (delivered x a d v) (OfThread a.thread.seat) (work.Complete false)

  x_calm : IsCalm x
  unfolding x
  x_calm = closed_calm s f.made (calm s tidy.quiet)

  y_elsewhere : Elsewhere no_name sent y
  unfolding y x sending.y sending.z
  y_elsewhere = sending.y_elsewhere x a d v x_calm (closed_before s f.made tidy.before.objects) (closed_delivers s f.made v delivers) false

  y_unripe : NoneRipe y.todo [] (turns_of y.buffers)
  unfolding y x sending.y sending.z
  y_unripe =
      let kept = closed_before s f.made tidy.before.objects in
      let k = closed_delivers s f.made v delivers in
      let two = (reply_checked s a d parcel f v check).one_way in
      let turns = sending.turns_are x a d v x_calm kept k false ∙ ap (λ g. turns_of x.buffers ++ cons_option g []) (sending.turn_two_way x a d v x_calm kept k two) ∙ append-nil (turns_of x.buffers) in
      subst (λ ts. NoneRipe y.todo [] ts) (sym turns) (sending.y_unripe x a d v x_calm kept k false)

  y_frames : y.frames ≡ x.frames
  unfolding y x sending.y sending.z
  y_frames = sending.y_frames x a d v x_calm (closed_before s f.made tidy.before.objects) (closed_delivers s f.made v delivers) false

  z_frames : (replied s a d f v).frames ≡ filter (λ g. not (is_frame f.made g)) s.frames
  unfolding replied y x
  z_frames = search (arith, told_frames, y_frames, closed_frames)

  z_elsewhere : Elsewhere no_name sent (replied s a d f v)
  unfolding replied y x owe
  z_elsewhere = told_keeps (Elsewhere no_name sent) (work.Reply s.steps) (λ z t. owe_elsewhere no_name sent z (OfThread t) (work.Reply s.steps) ((λ o e. cc), (λ n e. cc))) y f.caller y_elsewhere

  z_unripe : NoneRipe (replied s a d f v).todo [] (turns_of (replied s a d f v).buffers)
  unfolding replied y x
  z_unripe = search (arith, owed_unripe, y_unripe)

  abbrev followed : Space
  followed = follow_of no_name sent (replied s a d f v)

  pub reply_local : OneEach s.frames → In f s.frames → completed (replied s a d f v) ≡ close_up (length followed.frames) f.parent followed
  unfolding completed
  reply_local one l = search (arith, follow_of_frames, z_frames, ripen_still, z_unripe, follow_local, z_elsewhere, settle_up, in_filter, only_parent, none_found)
