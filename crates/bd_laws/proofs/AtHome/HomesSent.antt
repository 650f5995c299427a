-- For SpacesAreTidy and the engine: what is sent stands with its receiver: the buffer that an item on a thread's list hands
-- over is its process's.
use Rattle.bd_laws.proofs.words.Logic.{◌≡◌, ℕ, suc, ◌+◌, ◌≤◌, ◌==◌, Bool, true, false, List, [], ◌∷◌, Option, Some, None, Ok, ◌⊎◌, inl, inr, refl, ap, sym, subst, ◌∙◌, arith, option_and_then, eqb-true}
use Rattle.bd_laws.proofs.words.Types.{TransactionData, Identity, Parcel, Process, Thread, Reference, Buffer, Carried, Item, Frame, Actor, Work, TodoList, OfThread, WorkKind}
use Rattle.bd_laws.proofs.words.Space.{is_some_and, Space, actor, thread_in, assign_numbers, closed, goes_to, with_work, owe, hands_out, ripen, Delivery, delivered, own_notices, add_buffer, with_carried, refer, make_objects, buffer_references, transacted, called, call_out, caller_of, reply_check, replied, is_spam}
use Rattle.bd_space.specs.declared.space.WorkKind.TheVariants as work
use Rattle.bd_laws.proofs.words.Laws.{In, Pairs, IsInTurn, OtherSeat, Homed, AtHome}
use Rattle.bd_laws.proofs.Lists.{in_append, in_push, find_in, pairs_either, all_push}
use Rattle.bd_laws.specs.Items.{Home}
use Rattle.bd_laws.proofs.OnPaths.PathWords.{goes_to_waiting}
use Rattle.bd_laws.proofs.Checks.{actor_acts, reply_checked}
use Rattle.bd_laws.proofs.IsInTurn.OneWay as one_way
use Rattle.bd_laws.proofs.Machine.Adding.{ripen_keeps}
use Rattle.bd_laws.proofs.Machine.Fields.{closed_same}

abbrev pub H : ℕ → Space → Type 0
H n z = Homed n z.threads z.references z.buffers z.todo

pub one_thread : (s : Space) → AtHome s → (t u : Thread) → In t s.threads → In u s.threads → t.seat ≡ u.seat → t ≡ u
one_thread s h t u l m e = search (arith, pairs_either)

-- ---- what ripens

pub more_h : (n m : ℕ) (z : Space) → n ≤ m → H n z → H m z
more_h n m z le h = record { seats = h.seats; home = h.home; carried = λ r b q l c. let lt = h.carried r b q l c in omega arith }

-- what ripens stands on a process's list
pub ripen_h : (n : ℕ) (z : Space) → H n z → H n (ripen z)
unfolding ripen
ripen_h n z = ripen_keeps (Homed n z.threads z.references z.buffers) z (λ td u h. record {
  seats = h.seats;
  home = λ w t b. all_push td _ (λ w. w.list ≡ OfThread t → hands_out w.kind ≡ Some b → Home z.threads z.references z.buffers t b) (λ w i. h.home w t b i)
      (λ on. absurd (cc)) w;
  carried = h.carried;
})

-- ---- what is sent

pub carries : (b q k : ℕ) (items : List Item) (target : Option Identity) (r : Reference) (c p : ℕ) → In r (buffer_references b q k items target) → r.holder ≡ Carried c p → (b ≡ c) × (q ≡ p)
carries b q k [] target r c p l e = search arith
carries b q k (x ∷ xs) target r c p (inl is) e = let same : Carried b q ≡ Carried c p = ap (λ (x : Reference). x.holder) is ∙ e in (cc, cc)
carries b q k (x ∷ xs) target r c p (inr l) e = carries b q (k + 1) xs target r c p l e

pub goes_home : (s : Space) (seat p c : ℕ) → goes_to s seat p ≡ OfThread c → (u : Thread) × In u s.threads × (u.seat ≡ c) × (u.process ≡ p)
goes_home s seat p c e =
    let w = goes_to_waiting s seat p c e in
    at (thread_in s.threads c) refl (ap (λ o. is_some_and o (λ c. is_some_and (thread_in s.threads c) (λ t. t.process == p))) (sym w.2.2) ∙ w.2.3)
  where
    at : (o : Option Thread) → thread_in s.threads c ≡ o → is_some_and o (λ t. t.process == p) ≡ true → (u : Thread) × In u s.threads × (u.seat ≡ c) × (u.process ≡ p)
    at None f k = absurd (cc)
    at (Some u) f k = let l = find_in (λ (t : Thread). t.seat == c) u s.threads f in (u, l.0, eqb-true u.seat c l.1, eqb-true u.process p k)

module _ (s x : Space) (a : Actor) (d : TransactionData) (v : Delivery) (steps : x.steps ≡ s.steps) (threads : x.threads ≡ s.threads) (references : x.references ≡ s.references) (todo : x.todo ≡ s.todo)
    (buffers : x.buffers ≡ s.buffers) (h : AtHome s) (turns : IsInTurn s) (spam : Bool) where
  abbrev pub sent : Space
  sent = owe (delivered x a d v) (OfThread a.thread.seat) (work.Complete spam)

  pub sent_due : (w : Work) (m : ℕ) → In w sent.todo → hands_out w.kind ≡ Some m → In w s.todo
  sent_due w m l e = subst (In w) todo (one_way.sent_due x a d v spam w m l e)

  pub sent_steps : sent.steps ≡ s.steps
  unfolding delivered own_notices add_buffer with_carried assign_numbers refer make_objects owe
  sent_steps = steps

  pub sent_threads : sent.threads ≡ s.threads
  unfolding delivered own_notices add_buffer with_carried assign_numbers refer make_objects owe
  sent_threads = threads

  sent_references : (r : Reference) → In r sent.references → In r s.references ⊎ In r (buffer_references s.steps v.receiver.made 0 v.sending.items v.target)
  unfolding delivered own_notices add_buffer with_carried assign_numbers refer make_objects owe
  sent_references r l = search (arith, in_append)

  -- the step's own buffer, or an older one
  sent_buffers : (c : Buffer) → In c sent.buffers → In c s.buffers ⊎ ((c.made ≡ s.steps) × (c.receiver ≡ v.receiver.made))
  unfolding delivered own_notices add_buffer with_carried assign_numbers refer make_objects owe
  sent_buffers c l = elim (in_push c _ x.buffers l) [
    | inl i ↦ inl (subst (In c) buffers i)
    | inr is ↦ inr (sym (ap (λ (b : Buffer). b.made) is) ∙ steps, sym (ap (λ (b : Buffer). b.receiver) is))
  ]

  -- what this step's buffer carries lies in the receiver's window
  new_carried : (r : Reference) (q : ℕ) → In r sent.references → r.holder ≡ Carried s.steps q → v.receiver.made ≡ q
  new_carried r q l c = elim (sent_references r l) [
    | inl i ↦ (let lt = h.carried r s.steps q i c in absurd (omega arith))
    | inr i ↦ (carries s.steps v.receiver.made 0 v.sending.items v.target r s.steps q i c).1
  ]

  sent_h : H (suc s.steps) sent
  sent_h = record {
    seats = subst (Pairs OtherSeat) (sym sent_threads) h.seats;
    home = λ w t b l on e.
        let i = sent_due w b l e in
        let k = h.home w t b i on e in (
          k.0,
          subst (In k.0) (sym sent_threads) k.1,
          k.2,
          λ r q m c. elim (sent_references r m) [
            | inl j ↦ k.3 r q j c
            | inr j ↦ (
                let same = (carries s.steps v.receiver.made 0 v.sending.items v.target r b q j c).0 in
                let lt = turns.fresh b (w, i, e) in absurd (omega arith))
          ],
          λ c m is. elim (sent_buffers c m) [
            | inl j ↦ k.4 c j is
            | inr new ↦ (let at = new.0 in let lt = turns.fresh b (w, i, e) in absurd (omega arith))
          ],
        );
    carried = λ r b q l c. elim (sent_references r l) [
      | inl i ↦ (let lt = h.carried r b q i c in omega arith)
      | inr i ↦ (let same = (carries s.steps v.receiver.made 0 v.sending.items v.target r b q i c).0 in omega arith)
    ];
  }

  -- one item more, which hands this step's buffer over
  handing_h : (place : ℕ) (list : TodoList) (kind : WorkKind) → hands_out kind ≡ Some s.steps
      → ((t : ℕ) → list ≡ OfThread t → (u : Thread) × In u sent.threads × (u.seat ≡ t) × (u.process ≡ v.receiver.made)) → Homed (suc s.steps) sent.threads sent.references sent.buffers (with_work place sent.todo list kind)
  handing_h place list kind hands to = record {
    seats = sent_h.seats;
    home = λ w t b. all_push sent.todo _ (λ w. w.list ≡ OfThread t → hands_out w.kind ≡ Some b → Home sent.threads sent.references sent.buffers t b) (λ w i. sent_h.home w t b i)
        (λ on e.
        let u = to t on in
        let same : s.steps ≡ b = (let k = sym hands ∙ e in cc) in (
          u.0,
          u.1,
          u.2,
          λ r q m c. u.3 ∙ new_carried r q m (c ∙ ap (λ n. Carried n q) (sym same)),
          λ c m is. elim (sent_buffers c m) [ inl i ↦ (let lt = turns.below c i in absurd (omega arith)) | inr new ↦ u.3 ∙ sym new.1 ],
        )) w;
    carried = sent_h.carried;
  }

call_out_h : (y : Space) (n m seat p : ℕ) → y.steps ≡ m → Homed n y.threads y.references y.buffers (with_work y.steps y.todo (goes_to y seat p) (work.Call m)) → H n (call_out y seat p)
unfolding call_out owe
call_out_h y n m seat p e h = search arith

pub transacted_h : (s : Space) (a : Actor) (d : TransactionData) (v : Delivery) → AtHome s → IsInTurn s → H (suc s.steps) (transacted s a d v)
unfolding transacted
transacted_h s a d v h turns = at v.one_way
  where
    spam : Bool
    spam = is_spam (delivered s a d v) a v

    at : (b : Bool) → H (suc s.steps) (called (owe (delivered s a d v) (OfThread a.thread.seat) (work.Complete spam)) a.thread.seat v.receiver.made b)
    at true = sent_h s s a d v refl refl refl refl refl h turns spam
    at false =
        call_out_h (owe (delivered s a d v) (OfThread a.thread.seat) (work.Complete spam)) (suc s.steps) s.steps a.thread.seat v.receiver.made (sent_steps s s a d v refl refl refl refl refl h turns spam)
        (handing_h s s a d v refl refl refl refl refl h turns spam _ _ (work.Call s.steps) refl (λ t e. goes_home _ a.thread.seat v.receiver.made t e))

pub caller_acts : (s : Space) (f : Frame) (t : ℕ) (c : Actor) → caller_of s f ≡ Some c → f.caller ≡ Some t → actor s t ≡ Some c
unfolding caller_of
caller_acts s f t c h e = ap (option_and_then (actor s)) (sym e) ∙ h

pub replied_h : (s : Space) (a : Actor) (d : TransactionData) (parcel : Option Parcel) (f : Frame) (v : Delivery) → AtHome s → IsInTurn s → reply_check s a d parcel f ≡ Ok v → H (suc s.steps) (replied s a d f v)
unfolding replied owe
replied_h s a d parcel f v h turns check = at f.caller refl
  where
    to : (t : ℕ) → f.caller ≡ Some t → (m : ℕ) → OfThread t ≡ OfThread m → (u : Thread) × In u s.threads × (u.seat ≡ m) × (u.process ≡ v.receiver.made)
    to t e m is =
        let r = reply_checked s a d parcel f v check in
        let k = actor_acts s t r.caller (caller_acts s f t r.caller r.found e) in
        let same_seat : t ≡ m = cc in
        (r.caller.thread, k.thread, k.seat ∙ same_seat, sym (ap (λ (y : Process). y.made) r.receiver ∙ k.own))

    at : (o : Option ℕ) → f.caller ≡ o
        → H (suc s.steps) (elim o as (λ (o : Option ℕ). Space) [ None ↦ owe (delivered (closed s f.made) a d v) (OfThread a.thread.seat) (work.Complete false) | Some t ↦ owe (owe (delivered (closed s f.made) a d v) (OfThread a.thread.seat) (work.Complete false)) (OfThread t) (work.Reply s.steps) ])
    at None e = sent_h s (closed s f.made) a d v (closed_same s f.made).0 (closed_same s f.made).1 (closed_same s f.made).2 (closed_same s f.made).3 (closed_same s f.made).4 h turns false
    at (Some t) e =
        handing_h s (closed s f.made) a d v (closed_same s f.made).0 (closed_same s f.made).1 (closed_same s f.made).2 (closed_same s f.made).3 (closed_same s f.made).4 h turns false _ (OfThread t) (work.Reply s.steps) refl
        (λ m is. let u = to t e m is in (u.0, subst (In u.0) (sym (sent_threads s (closed s f.made) a d v (closed_same s f.made).0 (closed_same s f.made).1 (closed_same s f.made).2 (closed_same s f.made).3 (closed_same s f.made).4 h turns false)) u.1, u.2, u.3))
