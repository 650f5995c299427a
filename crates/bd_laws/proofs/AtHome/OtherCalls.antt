-- For SpacesAreTidy: no thread is to read a call of its own.
use Rattle.bd_laws.proofs.words.Logic.{◌≡◌, ℕ, ◌<◌, ◌==◌, Bool, true, false, ◌&&◌, Option, Some, Ok, inl, inr, refl, ap, sym, subst, ◌∙◌, arith, eqb-true, eq-eqb}
use Rattle.bd_laws.proofs.words.Types.{TransactionData, Identity, Parcel, Entry, Process, Thread, Object, Frame, Actor, Work, OfThread, OfProcess}
use Rattle.bd_laws.proofs.words.Space.{same, Space, opening, actor, owned_in, assign_numbers, strongly_named, closed, goes_to, owe, hands_out, ripen, Delivery, delivered, own_notices, add_buffer, with_carried, refer, make_objects, transaction_check, transacted, called, call_out, target_of, handle_of, replied, counted, next, is_spam}
use Rattle.bd_space.specs.declared.space.WorkKind.TheVariants as work
use Rattle.bd_laws.proofs.words.Laws.{In, IsInTurn, AtHome, OfOthers}
use Rattle.bd_laws.proofs.Lists.{in_push, find_in, any_in}
use Rattle.bd_laws.proofs.Tests.{and_both, eq_same}
use Rattle.bd_laws.proofs.Checks.{actor_acts, transaction_checked}
use Rattle.bd_laws.proofs.Machine.EveryStep.{every_step}
use Rattle.bd_laws.proofs.Machine.Adding.{told_keeps, ripen_keeps}
use Rattle.bd_laws.proofs.AtHome.Later.{later_others, closed_later, read_later, later_keeps}
use Rattle.bd_laws.proofs.AtHome.HomesSent.{one_thread, goes_home, sent_due, sent_steps, sent_threads}
use Rattle.bd_laws.proofs.Machine.Fields.{closed_same, sent_frames}

-- ---- what is due

-- the same frames, and no further call on a thread's list
fewer : (z y : Space) → z.frames ≡ y.frames → ((w : Work) (b t : ℕ) → In w z.todo → w.kind ≡ work.Call b → w.list ≡ OfThread t → In w y.todo) → OfOthers y → OfOthers z
fewer z y same calls h w f t l e on i c = h w f t (calls w f.made t l e on) e on (subst (In f) same i) c

ripen_o : (z : Space) → OfOthers z → OfOthers (ripen z)
unfolding ripen
ripen_o z h = fewer (ripen z) z refl (λ w b t l e on. ripen_keeps (λ td. (w : Work) (t : ℕ) → In w td → w.list ≡ OfThread t → In w z.todo) z (λ td r k w t l on.
    elim (in_push w _ td l) [ inl i ↦ k w t i on | inr is ↦ (let no : OfProcess r.receiver ≡ OfThread t = ap (λ (v : Work). v.list) is ∙ on in absurd (cc)) ]) (λ w t l on. l) w t l on) h

-- ---- whom a call goes to doesn't belong to its caller

unowned_target : (s : Space) (p n : ℕ) (o : Identity) → target_of s p n ≡ Ok o → owned_in s.objects p o ≡ false
unfolding target_of strongly_named
unowned_target s p n o h = search arith

-- ---- a call

module _ (s : Space) (seat : ℕ) (a : Actor) (d : TransactionData) (parcel : Option Parcel) (v : Delivery) (acts : actor s seat ≡ Some a) (check : transaction_check s a d parcel ≡ Ok v)
    (home : AtHome s) (turns : IsInTurn s) (below : (f : Frame) → In f s.frames → f.made < s.steps) (h : OfOthers s) where
  abbrev spam : Bool
  spam = is_spam (delivered s a d v) a v

  abbrev y : Space
  y = owe (delivered s a d v) (OfThread a.thread.seat) (work.Complete spam)

  y_frames : y.frames ≡ s.frames
  unfolding delivered own_notices add_buffer with_carried assign_numbers refer make_objects owe
  y_frames = search arith

  -- the receiver isn't the caller's process
  apart : v.receiver.made ≡ a.process.made → ⊥
  apart e =
      let t = transaction_checked s a d parcel v check in
      let none = unowned_target s a.process.made (handle_of d) t.object t.named in
      let q = find_in (λ (x : Process). x.made == t.owned.object.owner) v.receiver s.processes t.owned.lives in
      let owner : t.owned.object.owner ≡ a.process.made = sym (eqb-true v.receiver.made t.owned.object.owner q.1) ∙ e in
      let some = any_in (λ (x : Object). same x.id t.object && (x.owner == a.process.made)) t.owned.object s.objects t.owned.here
      (and_both (same t.owned.object.id t.object) (t.owned.object.owner == a.process.made) (eq_same t.owned.object.id t.object t.owned.id) (eq-eqb t.owned.object.owner a.process.made owner)) in cc

  -- The call doesn't go to the list of the thread that makes it, since that isn't of the owner's process.
  elsewhere : (t : ℕ) → goes_to y a.thread.seat v.receiver.made ≡ OfThread t → a.thread.seat ≡ t → ⊥
  elsewhere t e is =
      let u = goes_home y a.thread.seat v.receiver.made t e in
      let k = actor_acts s seat a acts in
      let same_thread = one_thread s home u.0 a.thread (subst (In u.0) (sent_threads s s a d v refl refl refl refl refl home turns spam) u.1) k.thread (u.2 ∙ sym is) in
      apart (sym u.3 ∙ ap (λ (x : Thread). x.process) same_thread ∙ sym k.own)

  y_others : OfOthers y
  y_others = fewer y s y_frames (λ w b t l e on. sent_due s s a d v refl refl refl refl refl home turns spam w b l (ap hands_out e)) h

  calls_out : (steps : y.steps ≡ s.steps) → OfOthers (call_out y a.thread.seat v.receiver.made)
  unfolding call_out owe
  calls_out steps w f t l e on i c = elim (in_push w _ y.todo l) [
    | inl j ↦ elim (in_push f _ y.frames i) [
      | inl m ↦ y_others w f t j e on m c
      | inr is ↦ (
          let made : s.steps ≡ f.made = sym steps ∙ ap (λ (g : Frame). g.made) is in
          let lt = turns.fresh f.made (w, sent_due s s a d v refl refl refl refl refl home turns spam w f.made j (ap hands_out e), ap hands_out e) in absurd (omega arith))
    ]
    | inr was ↦ elim (in_push f _ y.frames i) [
      | inl m ↦ (
          let kinds : work.Call y.steps ≡ work.Call f.made = ap (λ (v : Work). v.kind) was ∙ e in
          let made : y.steps ≡ f.made = cc in
          let lt = below f (subst (In f) y_frames m) in absurd (omega arith))
      | inr is ↦ (
          let caller : Some a.thread.seat ≡ Some t = ap (λ (g : Frame). g.caller) is ∙ c in
          let same_seat : a.thread.seat ≡ t = cc in
          elsewhere t (ap (λ (v : Work). v.list) was ∙ on) same_seat)
    ]
  ]

  pub transacts_o : OfOthers (transacted s a d v)
  unfolding transacted
  transacts_o = at v.one_way
    where
      at : (b : Bool) → OfOthers (called (owe (delivered s a d v) (OfThread a.thread.seat) (work.Complete spam)) a.thread.seat v.receiver.made b)
      at true = y_others
      at false = calls_out (sent_steps s s a d v refl refl refl refl refl home turns spam)

-- ---- every step

answered : (made : ℕ) (z : Space) (t : ℕ) → OfOthers z → OfOthers (owe z (OfThread t) (work.Reply made))
unfolding owe
answered made z t h = fewer (owe z (OfThread t) (work.Reply made)) z refl (λ w b u l e on. search (arith, in_push)) h

replied_o : (s : Space) (a : Actor) (d : TransactionData) (f : Frame) (v : Delivery) → AtHome s → IsInTurn s → OfOthers s → OfOthers (replied s a d f v)
unfolding replied
replied_o s a d f v home turns h =
    let x = closed s f.made in
    let k = closed_same s f.made in
    let z = owe (delivered x a d v) (OfThread a.thread.seat) (work.Complete false) in
    told_keeps OfOthers (work.Reply s.steps) (answered s.steps) z f.caller
    (fewer z x (sent_frames x a d v false) (λ w b t l e on. subst (In w) (sym k.3) (sent_due s x a d v k.0 k.1 k.2 k.3 k.4 home turns false w b l (ap hands_out e)))
    (later_others x s (closed_later s f.made) h))

-- ---- every history

pub next_of_others : (s : Space) (e : Entry) → AtHome s → IsInTurn s → ((f : Frame) → In f s.frames → f.made < s.steps) → OfOthers s → OfOthers (next s e)
unfolding counted
next_of_others s e home turns below h = every_step s e.seat e.step OfOthers OfOthers (search (arith, later_keeps, later_others, transacts_o, replied_o, read_later, ripen_o))

pub opening_of_others : OfOthers opening
opening_of_others = λ w f t l e on i c. absurd l
