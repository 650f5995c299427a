-- For SpacesAreTidy and the audit's laws: what transactions, replies, freeing and readings leave of processes, objects and
-- buffers, and what they make.
use Rattle.bd_laws.proofs.words.Logic.{◌≡◌, ℕ, ◌==◌, Bool, true, false, cond, [], ◌∷◌, Option, Some, None, Ok, inl, inr, refl, ap, sym, subst, ◌∙◌, arith, eqb-true, List}
use Rattle.bd_laws.proofs.words.Types.{TransactionData, Identity, Parcel, Process, Thread, Actor, Frame, Object, Buffer, Work, TodoList, OfThread, OfProcess, WorkKind}
use Rattle.bd_laws.proofs.words.Space.{Space, actor, assign_numbers, owe, with_work, hands_out, list_to_read, closed, goes_to, Delivery, delivered, own_notices, add_buffer, with_carried, refer, make_objects, buffer_of, transaction_check, transacted, called, call_out, reply_check, replied, without_buffer, is_made_at, taken, read_by, hand_out, handed_buffers, is_spam}
use Rattle.bd_space.specs.declared.space.WorkKind.TheVariants as work
use Rattle.bd_laws.proofs.words.Laws.{In, Due, InTurn, On, OnLists}
use Rattle.bd_laws.proofs.Lists.{in_left, in_append, in_push, in_filter, filter_in, in_changed, changed_in, find_in, pairs_either, all_push}
use Rattle.bd_laws.proofs.Tests.{not_false}
use Rattle.bd_laws.proofs.IsInTurn.OneWay
use Rattle.bd_laws.proofs.IsInTurn.Ripening.{taken_due, read_in}
use Rattle.bd_laws.proofs.Machine.Untouched
use Rattle.bd_laws.proofs.Machine.Untouched.{Untouched}
use Rattle.bd_laws.proofs.Sendings.{Made, sending_sends}
use Rattle.bd_laws.proofs.Checks.{Owned, transaction_checked, reply_checked}
use Rattle.bd_laws.proofs.IsInTurn.Passed.{Lives, Became, New, Passed, same_buffer, After, untouched_after, passed_after, Going, going_passed, actor_alive}

-- ---- transactions and replies

pub delivered_passed : (s : Space) (fs : List Frame) (a : Actor) (d : TransactionData) (v : Delivery) → InTurn s.steps s.buffers s.todo → OnLists s → Lives s.processes a.process.made
    → Made s a.process.made v.sending.made
    → ((o : Identity) → v.one_way ≡ true → v.target ≡ Some o → (x : Object) × In x s.objects × (x.id ≡ o) × (x.owner ≡ v.receiver.made) × Lives s.processes x.owner)
    → Passed s (delivered (record s { frames = fs }) a d v)
unfolding delivered own_notices add_buffer with_carried assign_numbers refer make_objects
delivered_passed s fs a d v turns l lives made owned = record {
  steps = refl;
  processes = λ q i. inl (q, i, refl);
  objects = λ x i. elim (in_append x s.objects v.sending.made i) [
    | inl k ↦ inl (x, k, refl, refl)
    | inr k ↦ inr (made.place x k, subst (Lives s.processes) (sym (made.owner x k)) lives)
  ];
  from = λ c i. elim (in_push c (buffer_of (with_carried (record s { frames = fs }) v) a d v) s.buffers i) [
    | inl k ↦ inl (c, k, same_buffer s c)
    | inr e ↦ inr (subst (New s) e (record { made = refl; handed = refl; owned = λ o on. owned o on.0 on.1 }))
  ];
  to = λ o b i on. inl (b, in_left b s.buffers (buffer_of (with_carried (record s { frames = fs }) v) a d v ∷ []) i, same_buffer s b);
  lists = λ w c o i e j on.
      let old = OneWay.delivered_due (record s { frames = fs }) a d v w c.made i e in
      elim (in_push c (buffer_of (with_carried (record s { frames = fs }) v) a d v) s.buffers j) [
        | inl k ↦ l w c o old e k on
        | inr is ↦ (let lt = turns.fresh c.made (w, old, e) in let m : s.steps ≡ c.made = ap (λ (x : Buffer). x.made) is in absurd (omega arith))
      ];
}

-- a further work item that hands over a buffer that is no one-way call
handing : (s z : Space) (place : ℕ) (list : TodoList) (kind : WorkKind) (n : ℕ) → hands_out kind ≡ Some n → ((c : Buffer) (o : Identity) → In c z.buffers → c.made ≡ n → On o c → ⊥) → OnLists z
    → (w : Work) (c : Buffer) (o : Identity) → In w (with_work place z.todo list kind) → hands_out w.kind ≡ Some c.made → In c z.buffers → On o c → w.list ≡ OfProcess c.receiver
handing s z place list kind n hands none l w c o i e j on =
    all_push z.todo _ (λ w. hands_out w.kind ≡ Some c.made → w.list ≡ OfProcess c.receiver) (λ w k e. l w c o k e j on)
    (λ e. absurd (none c o j (let f : Some n ≡ Some c.made = sym hands ∙ e in cc) on)) w i e

pub same_going : (z y : Space) → z.steps ≡ y.steps → z.processes ≡ y.processes → z.objects ≡ y.objects → z.buffers ≡ y.buffers → Going z y
same_going z y e p x b = search arith

-- no one-way call is made by this step
abbrev pub NoneNew : Space → Type 0
NoneNew z = (c : Buffer) (o : Identity) → In c z.buffers → c.made ≡ z.steps → On o c → ⊥

call_out_passed : (s z : Space) (seat p : ℕ) → NoneNew z → Passed s z → Passed s (call_out z seat p)
unfolding call_out owe
call_out_passed s z seat p none h =
    going_passed s _ z (same_going _ z refl refl refl refl) (handing s z z.steps (goes_to z seat p) (work.Call z.steps) z.steps refl none h.lists) h

called_passed : (s z : Space) (seat p : ℕ) (one_way : Bool) → (one_way ≡ false → NoneNew z) → Passed s z → Passed s (called z seat p one_way)
called_passed s z seat p true none h = h
called_passed s z seat p false none h = call_out_passed s z seat p (none refl) h

reply_out_passed : (s z : Space) (caller : Option ℕ) → z.steps ≡ s.steps → NoneNew z → Passed s z
    → Passed s (elim caller as (λ (o : Option ℕ). Space) [ None ↦ z | Some t ↦ owe z (OfThread t) (work.Reply s.steps) ])
unfolding owe
reply_out_passed s z None e none h = h
reply_out_passed s z (Some t) e none h =
    going_passed s _ z (same_going _ z refl refl refl refl) (handing s z z.steps (OfThread t) (work.Reply s.steps) z.steps (ap (λ n. Some n) (sym e)) none h.lists) h

-- the new buffer of a two-way call or a reply is no one-way call
none_new : (s : Space) (a : Actor) (d : TransactionData) (v : Delivery) → InTurn s.steps s.buffers s.todo → v.one_way ≡ false → NoneNew (delivered s a d v)
unfolding delivered own_notices add_buffer with_carried assign_numbers refer make_objects
none_new s a d v turns e c o i made on =
    elim (in_push c (buffer_of (with_carried s v) a d v) s.buffers i) [
      | inl k ↦ (let lt = turns.below c k in omega arith)
      | inr is ↦ (let f : v.one_way ≡ c.one_way = ap (λ (x : Buffer). x.one_way) is in let t = on.0 in absurd (cc))
    ]

owe_after : (z : Space) (list : TodoList) (kind : WorkKind) → hands_out kind ≡ None → After (owe z list kind) z
owe_after z list kind none = untouched_after (owe z list kind) z (Untouched.owe_untouched z list kind) (OneWay.owe_less z list kind none)

none_after : (z y : Space) → After z y → NoneNew y → NoneNew z
none_after z y a none c o i made on = none c o (subst (In c) a.buffers i) (made ∙ a.steps) on

owned_by : (s : Space) (o : Identity) (q : Process) → Owned s o q → (x : Object) × In x s.objects × (x.id ≡ o) × (x.owner ≡ q.made) × Lives s.processes x.owner
owned_by s o q h =
    let l = find_in (λ (p : Process). p.made == h.object.owner) q s.processes h.lives in
    let e = eqb-true q.made h.object.owner l.1 in
    (h.object, h.here, h.id, sym e, (q, l.0, e))

pub transacted_passed : (s : Space) (seat : ℕ) (a : Actor) (d : TransactionData) (parcel : Option Parcel) (v : Delivery) → InTurn s.steps s.buffers s.todo → OnLists s
    → actor s seat ≡ Some a → transaction_check s a d parcel ≡ Ok v → Passed s (transacted s a d v)
unfolding transacted
transacted_passed s seat a d parcel v turns l acts check =
    let t = transaction_checked s a d parcel v check in
    let sends = sending_sends s a.process.made d parcel v.sending t.sends in
    let z = delivered s a d v in
    let y = owe z (OfThread a.thread.seat) (work.Complete (is_spam z a v)) in
    let done = owe_after z (OfThread a.thread.seat) (work.Complete (is_spam z a v)) refl in
    called_passed s y a.thread.seat v.receiver.made v.one_way (λ e. none_after y z done (none_new s a d v turns e))
    (passed_after s y z done (delivered_passed s s.frames a d v turns l (actor_alive s seat a acts) sends.makes
    (λ o e f. let is : t.object ≡ o = (let g = t.target in cc) in owned_by s o v.receiver (subst (λ x. Owned s x v.receiver) is t.owned))))

pub replied_passed : (s : Space) (seat : ℕ) (a : Actor) (d : TransactionData) (parcel : Option Parcel) (f : Frame) (v : Delivery) → InTurn s.steps s.buffers s.todo → OnLists s
    → actor s seat ≡ Some a → reply_check s a d parcel f ≡ Ok v → Passed s (replied s a d f v)
unfolding replied closed
replied_passed s seat a d parcel f v turns l acts check =
    let t = reply_checked s a d parcel f v check in
    let sends = sending_sends s a.process.made d parcel v.sending t.sends in
    let z = delivered (closed s f.made) a d v in
    let y = owe z (OfThread a.thread.seat) (work.Complete false) in
    let done = owe_after z (OfThread a.thread.seat) (work.Complete false) refl in
    let whole = passed_after s y z done (delivered_passed s (closed s f.made).frames a d v turns l (actor_alive s seat a acts) sends.makes (λ o e g. let no_target = t.target in absurd (cc))) in
    reply_out_passed s y f.caller whole.steps (none_after y z done (none_new (closed s f.made) a d v turns t.one_way)) whole

-- ---- freeing

pub freed_passed : (s : Space) (b : Buffer) → InTurn s.steps s.buffers s.todo → OnLists s → In b s.buffers → b.handed ≡ true → Passed s (without_buffer s b.made)
unfolding without_buffer
freed_passed s b turns l here handed = search (arith, in_filter, eqb-true, pairs_either, filter_in, not_false, same_buffer)

-- ---- reading

handed_became : (s : Space) (made : ℕ) (b : Buffer) → Due s.todo made → (t : Bool) → is_made_at made b ≡ t → Became s b (cond t (hand_out b) b)
handed_became s made b due t e = search arith

handed_from : (s : Space) (o : Option Buffer) → ((b : Buffer) → o ≡ Some b → Due s.todo b.made) → (c : Buffer) → In c (handed_buffers s.buffers o) → (b : Buffer) × In b s.buffers × Became s b c
handed_from s None due c i = (c, i, same_buffer s c)
handed_from s (Some x) due c i =
    let z = in_changed (is_made_at x.made) hand_out c s.buffers i in
    (z.0, z.1, subst (Became s z.0) (sym z.2) (handed_became s x.made z.0 (due x refl) (is_made_at x.made z.0) refl))

handed_to : (s : Space) (o : Option Buffer) → ((b : Buffer) → o ≡ Some b → Due s.todo b.made) → (b : Buffer) → In b s.buffers → (c : Buffer) × In c (handed_buffers s.buffers o) × Became s b c
handed_to s None due b i = (b, i, same_buffer s b)
handed_to s (Some x) due b i =
    (cond (is_made_at x.made b) (hand_out b) b, changed_in (is_made_at x.made) hand_out b s.buffers i, handed_became s x.made b (due x refl) (is_made_at x.made b) refl)

pub read_passed : (s : Space) (t : Thread) (seat left : ℕ) → OnLists s → Passed s (read_by s seat (taken s left (list_to_read s t)))
unfolding read_by
read_passed s t seat left l = search (arith, taken_due, read_in, in_changed, handed_to, in_filter)
