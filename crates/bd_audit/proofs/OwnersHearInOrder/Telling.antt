-- For OwnersHearInOrder: what an owner was told of an object agrees with what it has heard of it.
use Rattle.bd_laws.proofs.words.Logic.{◌≡◌, ℕ, ◌+◌, ◌≤◌, ◌==◌, Bool, true, false, not, ◌&&◌, ◌||◌, List, [], ◌∷◌, Option, Ok, inl, inr, refl, ap, sym, subst, ◌∙◌, filter, arith, eqb-true}
use Rattle.bd_laws.proofs.words.Types.{TransactionData, Identity, Parcel, Step, Process, Actor, Frame, Object, Reference, Asked, Manager, Item, OfThread}
use mathlib.Core.Bool.{beq}
use Rattle.bd_laws.proofs.words.Space.{same, with_looping, Space, lives_in, reference_of, held_in, owned_in, objects_go, is_asking, is_shaking, is_of_buffer, is_handshake, names_go, assign_numbers, closed, owe, ripen, follow, notify, work_goes, deaths_go, Delivery, delivered, own_notices, add_buffer, with_carried, refer, make_objects, buffer_references, transaction_check, transacted, reply_check, replied, ask, drop_asked, without_buffer, thread_goes, is_lost_reference, threads_go, without_process, is_dropped_with, with_thread, with_process, with_manager, is_spam, with_spam_detection}
use Rattle.bd_space.specs.declared.space.WorkKind.TheVariants as work
use Rattle.bd_laws.proofs.words.Laws.{In, Pairs, Differ, KeptBefore, Before}
use Rattle.bd_laws.proofs.Earlier.{in_order_differ}
use Rattle.bd_laws.proofs.Lists.{in_append, in_push, in_last, in_filter, any_found, any_in, pairs_either}
use Rattle.bd_laws.proofs.Tests.{both, not_true, not_eq, same_eq, to_false}
use Rattle.bd_laws.proofs.Machine.EveryEnding.{IsReading, IsAcknowledging}
use Rattle.bd_laws.proofs.Machine.EveryStep.{Keeps}
use Rattle.bd_laws.proofs.Machine.Untouched.{Untouched, told_untouched, called_untouched}
use Rattle.bd_laws.proofs.Checks.{transaction_checked, reply_checked}
use Rattle.bd_laws.proofs.Sendings.{Sends, sending_sends}
use Rattle.bd_laws.proofs.KeptBefore.ObjectsKept.{and_false, closed_before, closed_sends, later, threads_go_kept}
use Rattle.bd_laws.proofs.Machine.Deaths.{KeptOnDeaths, on_kept, on_told, on_commands}
use Rattle.bd_laws.proofs.Machine.Following.{threads_keep}
use Rattle.bd_audit.proofs.OwnersHearInOrder.Orders.{Hearing}
use Rattle.bd_audit.proofs.OwnersHearInOrder.Tallies.{tally_none}
use Rattle.bd_audit.proofs.OwnersHearInOrder.Tracking.{is_weak, is_strong, waits, number, shaken, Tracks, HeardBefore, shaking_parts, own_unasked, own_window, own_buffer, Same, tells_same, same_more, same_filter, same_without}
use Rattle.bd_laws.proofs.Machine.Marks.{marked_lives}
use Rattle.bd_laws.proofs.FollowingIsLocal.Finding.{any_none}

-- ---- parts of a step

module _ (o : Identity) (st : Hearing) where
  abbrev pub H : Space → Type 0
  H z = Tracks ⊥ o st z

  pub tracks_untouched : (E : Type 0) (z y : Space) → Untouched z y → Tracks E o st y → Tracks E o st z
  tracks_untouched E z y u h = search arith

  pub tracks_weaker : (E : Type 0) (z : Space) → H z → Tracks E o st z
  tracks_weaker E z h x l e live = search arith

  told_on_deaths : KeptOnDeaths H
  unfolding owe
  told_on_deaths = record { others = λ z ds h. h; dies = λ z p made h. h; clears = λ z t cookie h. h }

  -- where only references change
  same_told : (z : Space) (references : List Reference) → Same o z.references references → H z → H (record z { references = references })
  same_told z references k h x l e live = tells_same ⊥ ⊥ o z.references references x st k (λ n. n) (h x l e live)

  thread_goes_told : (z : Space) (seat : ℕ) → H z → H (thread_goes z seat)
  unfolding thread_goes
  thread_goes_told z seat h =
      same_told z _ (same_filter o z.references (λ (r : Reference). not (is_lost_reference z.todo (OfThread seat) r)) (λ r e own. rw (own_buffer r.holder own) refl)) h

  -- ---- a process ends

  -- an object of another process isn't p's
  unowned : (objects : List Object) (p : ℕ) (x : Object) → Pairs Differ objects → In x objects → x.id ≡ o → (x.owner ≡ p → ⊥) → owned_in objects p o ≡ false
  unowned objects p x differ l e other = search (arith, any_found, both, same_eq, eqb-true, pairs_either)

  -- a process that lives after p has ended lived before, and isn't p
  outlives : (processes : List Process) (p q : ℕ) → lives_in (filter (λ y. not (y.made == p)) processes) q ≡ true → (lives_in processes q ≡ true) × (q ≡ p → ⊥)
  outlives processes p q h = search (arith, any_found, in_filter, eqb-true, any_in, not_true)

  one_unshaken : (r : Reference) → is_handshake r.holder ≡ false → (q : Reference) → In q (r ∷ []) → is_handshake q.holder ≡ false
  one_unshaken r none q l = search arith

  without_process_told : (z : Space) (p : ℕ) → Pairs Differ z.objects → H z → H (without_process z p)
  unfolding without_process
  without_process_told z p differ h x l e live =
      let k = outlives z.processes p x.owner live in
      let other = unowned z.objects p x differ l e k.1 in
      tells_same ⊥ ⊥ o z.references _ x st
      (same_filter o z.references (λ (r : Reference). not (is_dropped_with z.objects p r))
      (λ r is own. let not_owned : owned_in z.objects p r.object ≡ false = subst (λ i. owned_in z.objects p i ≡ false) (sym is) other in
      rw (own_unasked r.holder p own, own_window r.holder p own, not_owned) refl))
      (λ n. n) (h x l e k.0)

  -- ---- objects that come

  -- nothing refers to an object that isn't there yet
  pub unreferred : (s : Space) → KeptBefore s → s.steps ≤ o.place → (b : Bool) → shaken s.references o b ≡ 0
  unreferred s k new b = tally_none (is_shaking o b) s.references (λ r l. to_false (is_shaking o b r) (λ e.
      let x = k.kept.refs r l in
      let lt = k.kept.below x.0 x.1 in
      let is : x.0.id.place ≡ o.place = ap (λ (i : Identity). i.place) (x.2 ∙ (shaking_parts o b r e).0) in
      absurd (omega arith)))

  opened_told : (s : Space) (seat pid euid window : ℕ) → Before s → H s → H (with_thread (with_process s pid euid window) seat s.steps)
  unfolding with_thread with_process
  opened_told s seat pid euid window before h x l e live =
      let other = not_eq s.steps x.owner (λ is. let lt = before.received.owners x l in absurd (omega arith)) in
      h x l e (sym (any_none (λ (q : Process). q.made == x.owner) s.processes _ (λ q m. search (arith, other))) ∙ live)

  marked_told : (s : Space) (p : ℕ) (on : Bool) → H s → H (with_spam_detection s p on)
  unfolding with_spam_detection
  marked_told s p on h x l e live = h x l e (sym (marked_lives p on s.processes x.owner) ∙ live)

  managed_told : (s : Space) (p : ℕ) → Before s → HeardBefore o st s → H (with_manager s p)
  unfolding with_manager
  managed_told s p before h x l e live =
      let r = reference_of s.steps 0 (record { place = s.steps; index = 0 }) true Manager in
      let k = same_more o s.references (r ∷ []) (one_unshaken r refl) in
      elim (in_push x _ s.objects l) [
        | inl i ↦ tells_same ⊥ ⊥ o s.references _ x st k (λ n. n) (h.tracks x i e live)
        | inr is ↦ (
            let id : r.object ≡ o = ap (λ (y : Object). y.id) is ∙ e in
            let place : s.steps ≡ o.place = ap (λ (i : Identity). i.place) id in
            let new : s.steps ≤ o.place = omega arith in
            inl (record {
              start = h.fresh new;
              weak = sym (ap (λ (y : Object). y.told_weak) is);
              strong = sym (ap (λ (y : Object). y.told_strong) is);
              manager = (r, in_last r s.references, id, refl, refl);
              shakes = λ b. k.shakes b ∙ unreferred s before.objects new b;
            }))
      ]

  buffer_unshaken : (b q : ℕ) (items : List Item) (target : Option Identity) (k : ℕ) (r : Reference) → In r (buffer_references b q k items target) → is_handshake r.holder ≡ false
  buffer_unshaken b q [] target k r l = search arith
  buffer_unshaken b q (x ∷ xs) target k r l = search (arith, buffer_unshaken b q xs target (k + 1) r)

  delivered_told : (s : Space) (a : Actor) (d : TransactionData) (v : Delivery) → KeptBefore s → HeardBefore o st s → Sends s a.process.made v.sending.made v.sending.items → H (delivered s a d v)
  unfolding delivered own_notices add_buffer with_carried assign_numbers refer make_objects
  delivered_told s a d v kept h sends x l e live =
      let k = same_more o s.references (buffer_references s.steps v.receiver.made 0 v.sending.items v.target) (buffer_unshaken s.steps v.receiver.made v.sending.items v.target 0) in
      elim (in_append x s.objects v.sending.made l) [
        | inl i ↦ tells_same ⊥ ⊥ o s.references _ x st k (λ n. n) (h.tracks x i e live)
        | inr i ↦ (
            let at : x.id.place ≡ s.steps = sends.makes.place x i in
            let place : x.id.place ≡ o.place = ap (λ (j : Identity). j.place) e in
            let new : s.steps ≤ o.place = omega arith in
            let start = h.fresh new in
            let untold = sends.makes.untold x i in
            inr (record {
              weak = untold.0 ∙ sym (ap is_weak start);
              strong = untold.1 ∙ sym (ap is_strong start);
              shakes = λ b. k.shakes b ∙ unreferred s kept new b ∙ sym (ap (λ (y : Hearing). number (waits y b)) start);
              over = λ e. absurd (cc);
            }))
      ]

  transacted_told : (s : Space) (a : Actor) (d : TransactionData) (parcel : Option Parcel) (v : Delivery) → KeptBefore s → HeardBefore o st s → transaction_check s a d parcel ≡ Ok v → H (transacted s a d v)
  unfolding transacted owe
  transacted_told s a d parcel v kept h check =
      let y = owe (delivered s a d v) (OfThread a.thread.seat) (work.Complete (is_spam (delivered s a d v) a v)) in
      tracks_untouched ⊥ _ y (called_untouched y a.thread.seat v.receiver.made v.one_way)
      (delivered_told s a d v kept h (sending_sends s a.process.made d parcel v.sending (transaction_checked s a d parcel v check).sends))

  replied_told : (s : Space) (a : Actor) (d : TransactionData) (parcel : Option Parcel) (f : Frame) (v : Delivery) → KeptBefore s → HeardBefore o st s → reply_check s a d parcel f ≡ Ok v
      → H (replied s a d f v)
  unfolding replied owe closed
  replied_told s a d parcel f v kept h check =
      let y = owe (delivered (closed s f.made) a d v) (OfThread a.thread.seat) (work.Complete false) in
      tracks_untouched ⊥ _ y (told_untouched y f.caller (work.Reply s.steps))
      (delivered_told (closed s f.made) a d v (closed_before s f.made kept) (record { tracks = h.tracks; fresh = h.fresh })
      (closed_sends s f.made a.process.made v.sending.made v.sending.items (sending_sends s a.process.made d parcel v.sending (reply_checked s a d parcel f v check).sends)))

  -- ---- what follows

  goes : (a b c d : Bool) → a ≡ false → c ≡ false → d ≡ false → (a || b && (c || d)) ≡ true → ⊥
  goes a b c d h k l t = search arith

  -- an object of which all was heard, and that nothing refers to, goes
  pub follow_told : (z : Space) → Tracks (held_in z.references o ≡ false) o st z → H (follow z)
  unfolding follow notify work_goes deaths_go objects_go names_go
  follow_told z h x l e live = search (arith, in_filter, goes)

  -- ---- a step that neither reads nor acknowledges

  pub quiet_step : (s : Space) (seat : ℕ) (x : Step) → Before s → HeardBefore o st s → (IsReading x → ⊥) → ((b : Bool) → IsAcknowledging x b → ⊥) → Keeps s seat x H H
  unfolding with_thread without_buffer ask assign_numbers drop_asked with_looping ripen closed owe
  quiet_step s seat x before h no_read no_done =
      let kept = before.objects in
      record {
        set_up = record {
          same = h.tracks;
          opened = λ pid euid window free. opened_told s seat pid euid window before h.tracks;
          attached = λ p free. h.tracks;
          managed = λ a e b. managed_told s a.process.made before h;
          marked = λ p on. marked_told s p on h.tracks;
        };
        changes = record {
          transacts = λ a d parcel v e i t. transacted_told s a d parcel v kept h t;
          replies = λ a d parcel f v e i g t. replied_told s a d parcel f v kept h t;
          frees = λ p ptr b e t. same_told s _ (same_filter o s.references (λ (r : Reference). not (is_of_buffer b.made r.holder)) (λ r e own. rw (own_buffer r.holder own) refl)) h.tracks;
          asks = λ a n strong i e j t. same_told s _ (same_more o s.references (reference_of s.steps 0 i strong (Asked a.process.made) ∷ []) (one_unshaken _ refl)) h.tracks;
          drops = λ p i strong. same_told s _
              (same_without o s.references (is_asking p i strong) (λ r own. and_false (beq r.strong strong) (same r.object i) _ (own_unasked r.holder p own))) h.tracks;
          acknowledges = λ i strong done. absurd (no_done strong done);
          loops = λ a looping e. h.tracks;
          on_deaths = on_commands s _ (on_kept H told_on_deaths s h.tracks);
          reads = λ a limit e i n. absurd (no_read (limit, i));
          leaves = λ a e. thread_goes_told s a.thread.seat h.tracks;
          ends = λ a e. on_told H told_on_deaths (without_process (threads_go s a.process.made) a.process.made) a.process.made
              (without_process_told (threads_go s a.process.made) a.process.made (in_order_differ _ (threads_go_kept s a.process.made (later s kept).kept).in_order)
              (threads_keep H thread_goes_told s a.process.made h.tracks));
          ripens = λ z k. k;
        };
        follows = λ z k. follow_told z (tracks_weaker _ z k);
        closes = λ z made k. k;
        refuses = λ z t r k. k;
        tells = λ z t r k. k;
      }
