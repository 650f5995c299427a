-- For the engine, by FollowingIsLocal: after a BC_TRANSACTION with objects it is enough to look at these, and for a one-way
-- call at its target.
use Rattle.bd_laws.proofs.words.Logic.{arith, ◌≡◌, ℕ, Bool, true, false, List, [], ◌∷◌, ◌++◌, Some, None, inl, inr, refl, ap, sym, subst, ◌∙◌, find, append-nil, list_any, cons_option}
use Rattle.bd_laws.proofs.words.Types.{TransactionData, Identity, Frame, Buffer, Turn, Actor, Work, OfThread}
use Rattle.bd_laws.proofs.words.Space.{same, Space, assign_numbers, goes_to, is_gone, owe, is_call, turn_of, turns_of, is_abandoned, Delivery, delivered, own_notices, add_buffer, with_carried, refer, make_objects, buffer_of, transacted, called, call_out, completed, ObjectTest, follow_of, ripen_of, no_name, objects_of_items, is_spam}
use Rattle.bd_space.specs.declared.space.WorkKind.TheVariants as work
use Rattle.bd_laws.proofs.words.Laws.{In, KeptBefore, Elsewhere, IsSettled, NoneRipe}
use Rattle.bd_laws.proofs.Lists.{all_push}
use Rattle.bd_laws.proofs.Tests.{eq_same}
use Rattle.bd_laws.proofs.FollowingIsLocal.Ripe.{NoneRipeBut}
use Rattle.bd_laws.proofs.NothingIsPending.Quiet.{IsCalm, any_more, still_unripe_if}
use Rattle.bd_laws.proofs.Fewer.{completed_local}
use Rattle.bd_laws.proofs.Freeing.{owe_elsewhere, completed_ripe}
use Rattle.bd_laws.proofs.FollowingIsLocal.Sent.{Delivers, delivered_todo, delivered_elsewhere}

-- ---- one-way calls and frames

turns_push : (bs : List Buffer) (b : Buffer) → turns_of (bs ++ b ∷ []) ≡ turns_of bs ++ cons_option (turn_of b) []
turns_push [] b = refl
turns_push (c ∷ cs) b = search (arith, turns_push cs b)

but_push : (o : Identity) (todo : List Work) (ts older : List Turn) (t : Turn) → same t.target o ≡ true → NoneRipe todo older ts → NoneRipeBut o todo older (ts ++ t ∷ [])
but_push o todo [] older t e h = ((λ none. absurd (cc)), tt)
but_push o todo (u ∷ us) older t e h = ((λ none. h.0), but_push o todo us (older ++ u ∷ []) t e h.1)

module _ {A : Type 0} (p : A → Bool) where
  pub find_none : (xs : List A) → ((x : A) → In x xs → p x ≡ false) → find p xs ≡ None
  find_none [] h = refl
  find_none (x ∷ xs) h = rw (h x (inl refl)) (find_none xs (λ y l. h y (inr l)))

  pub none_found : (xs : List A) → find p xs ≡ None → (x : A) → In x xs → p x ≡ false
  none_found [] h x l = absurd l
  none_found (y ∷ ys) h x l = search (arith, none_found ys)

settled_push : (fs : List Frame) (g : Frame) → is_gone g.server ≡ false → IsSettled fs → IsSettled (fs ++ g ∷ [])
settled_push fs g none h =
    find_none (is_abandoned (fs ++ g ∷ [])) (fs ++ g ∷ [])
    (all_push fs g (λ f. is_abandoned (fs ++ g ∷ []) f ≡ false) (λ f i. search (arith, any_more, none_found)) (rw none refl))

-- ---- the whole step of a transaction

module _ (s : Space) (a : Actor) (d : TransactionData) (v : Delivery) (h : IsCalm s) (kept : KeptBefore s) (k : Delivers s v) where
  abbrev pub sent : ObjectTest
  sent = objects_of_items v.sending.items

  unfoldable pub z : Space
  z = delivered s a d v

  abbrev pub new_buffer : Buffer
  new_buffer = buffer_of (with_carried s v) a d v

  turn_one_way : (o : Identity) → v.one_way ≡ true → v.target ≡ Some o
      → (t : Turn) × (turn_of new_buffer ≡ Some t) × (same t.target o ≡ true)
  turn_one_way o one target =
      (record { made = new_buffer.made; receiver = v.receiver.made; target = o; handed = false }, rw (one, target) refl, eq_same o o refl)

  pub turn_two_way : v.one_way ≡ false → turn_of new_buffer ≡ None
  turn_two_way two = rw two refl

  -- once the writer is owed its completion, which may report flooding
  module _ (spam : Bool) where
    unfoldable pub y : Space
    y = owe z (OfThread a.thread.seat) (work.Complete spam)

    pub y_elsewhere : Elsewhere no_name sent y
    unfolding y owe z delivered
    y_elsewhere = owe_elsewhere no_name sent z (OfThread a.thread.seat) (work.Complete spam) ((λ o e. cc), (λ n e. cc)) (delivered_elsewhere s v h.followed kept k a d)

    y_calls : (n : ℕ) → list_any (λ (w : Work). is_call n w.kind) s.todo ≡ true → list_any (λ (w : Work). is_call n w.kind) y.todo ≡ true
    unfolding y owe z
    y_calls n e = any_more (λ (w : Work). is_call n w.kind) z.todo _ ((delivered_todo s v h.followed kept k a d).calls n e)

    pub y_unripe : NoneRipe y.todo [] (turns_of s.buffers)
    y_unripe = still_unripe_if s.todo y.todo s y_calls (turns_of s.buffers) [] h.unripe

    pub y_frames : y.frames ≡ s.frames
    unfolding y owe z delivered own_notices add_buffer with_carried assign_numbers refer make_objects
    y_frames = refl

    y_buffers : y.buffers ≡ s.buffers ++ buffer_of (with_carried s v) a d v ∷ []
    unfolding y owe z delivered own_notices add_buffer with_carried assign_numbers refer make_objects
    y_buffers = search arith

    pub turns_are : turns_of y.buffers ≡ turns_of s.buffers ++ cons_option (turn_of new_buffer) []
    turns_are = ap turns_of y_buffers ∙ turns_push s.buffers new_buffer

    y_settled : IsSettled s.frames → IsSettled y.frames
    y_settled settled = search (arith, y_frames)

    out : Space
    out = call_out y a.thread.seat v.receiver.made

    out_elsewhere : Elsewhere no_name sent out
    unfolding out call_out owe
    out_elsewhere =
        let e = owe_elsewhere no_name sent y (goes_to y a.thread.seat v.receiver.made) (work.Call y.steps) ((λ o e. cc), (λ n e. cc)) y_elsewhere in
        record { names = e.names; objects = e.objects; deaths = e.deaths; notices = e.notices; tellings = e.tellings; made = e.made }

    out_unripe : v.one_way ≡ false → NoneRipe out.todo [] (turns_of out.buffers)
    unfolding out call_out owe
    out_unripe two = search (arith, turns_are, append-nil, still_unripe_if, any_more, y_unripe)

    out_settled : IsSettled s.frames → IsSettled out.frames
    unfolding out call_out owe
    out_settled settled = search (arith, settled_push, y_settled)

  abbrev suspect : Bool
  suspect = is_spam z a v

  transacted_is : (b : Bool) → v.one_way ≡ b → transacted s a d v ≡ called (y suspect) a.thread.seat v.receiver.made b
  unfolding transacted y z
  transacted_is b e = search arith

  -- one-way: sent objects are looked at, and the target's oldest call may ripen
  pub one_way_local : IsSettled s.frames → (o : Identity) → v.one_way ≡ true → v.target ≡ Some o
      → completed (transacted s a d v) ≡ follow_of no_name sent (ripen_of o (transacted s a d v))
  one_way_local settled o one target =
      let is = transacted_is true one in
      let t = turn_one_way o one target in
      let turns = turns_are suspect ∙ ap (λ f. turns_of s.buffers ++ cons_option f []) t.1 in
      let but = subst (λ ts. NoneRipeBut o (y suspect).todo [] ts) (sym turns) (but_push o (y suspect).todo (turns_of s.buffers) [] t.0 t.2 (y_unripe suspect)) in
      ap completed is ∙ completed_ripe no_name sent o (y suspect) (y_elsewhere suspect) but (y_settled suspect settled) ∙ ap (λ x. follow_of no_name sent (ripen_of o x)) (sym is)

  -- a two-way call: nothing ripens
  pub two_way_local : IsSettled s.frames → v.one_way ≡ false → completed (transacted s a d v) ≡ follow_of no_name sent (transacted s a d v)
  unfolding out
  two_way_local settled two =
      let is = transacted_is false two in
      ap completed is ∙ completed_local no_name sent (out suspect) (out_elsewhere suspect) (out_unripe suspect two) (out_settled suspect settled) ∙ ap (follow_of no_name sent) (sym is)
