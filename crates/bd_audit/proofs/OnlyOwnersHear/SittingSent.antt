-- For OnlyOwnersHear: a Notice stands where its owner's threads read it, through work items, transactions and replies.
use Rattle.bd_laws.proofs.words.Logic.{◌≡◌, ℕ, Bool, true, false, cond, List, ◌++◌, Option, Some, None, Ok, inl, inr, refl, ap, sym, subst, ◌∙◌, filter, arith}
use Rattle.bd_laws.proofs.words.Types.{TransactionData, Identity, Parcel, Thread, Object, Frame, Actor, Item, Work, WorkKind, TodoList, OfThread, OfProcess, is_own}
use Rattle.bd_laws.proofs.words.Space.{same, Space, thread_in, actor, object_in, assign_numbers, goes_to, closed, with_work, owe, notice_of, with_notice, Delivery, delivered, own_notices, add_buffer, with_carried, refer, make_objects, buffer_of, add_notice, withdraw_notice, transaction_check, transacted, called, call_out, reply_check, replied, is_spam}
use Rattle.bd_space.specs.declared.space.WorkKind.TheVariants as work
use Rattle.bd_laws.proofs.words.Laws.{In, Pairs, Here, Differ, KeptBefore}
use Rattle.bd_laws.proofs.Earlier.{in_order_differ}
use Rattle.bd_laws.proofs.Lists.{in_append, in_push, in_filter, find_in, pairs_either, fold_keeps}
use Rattle.bd_laws.proofs.Tests.{same_eq}
use Rattle.bd_laws.proofs.Checks.{transaction_checked, reply_checked, actor_lives, actor_acts}
use Rattle.bd_laws.proofs.Sendings.{Sends, sending_sends}
use Rattle.bd_laws.proofs.KeptBefore.ObjectsKept.{closed_before, closed_sends, delivered_kept}
use Rattle.bd_laws.proofs.NothingIsPending.Noticing.{Live}
use Rattle.bd_laws.proofs.Machine.Deaths.{KeptOnDeaths}
use Rattle.bd_laws.proofs.Machine.Adding.{notice_keeps}

-- threads of q read the list
abbrev pub Reaches : List Thread → TodoList → ℕ → Type 0
Reaches threads (OfProcess p) q = p ≡ q
Reaches threads (OfThread t) q = (x : Thread) × (thread_in threads t ≡ Some x) × (x.process ≡ q)

-- each Notice stands where its object's owner reads
abbrev pub Sits : List Thread → List Object → List Work → Type 0
Sits threads objects todo = (w : Work) (o : Identity) (x : Object) → In w todo → notice_of w.kind ≡ Some o → In x objects → x.id ≡ o → Reaches threads w.list x.owner

abbrev pub SitsIn : Space → Type 0
SitsIn z = Sits z.threads z.objects z.todo

-- ---- work items

pub sits_other : (place : ℕ) (threads : List Thread) (objects : List Object) (todo : List Work) (list : TodoList) (kind : WorkKind) → notice_of kind ≡ None → Sits threads objects todo
    → Sits threads objects (with_work place todo list kind)
sits_other place threads objects todo list kind none h = search (arith, in_push)

pub owe_sits : (z : Space) (list : TodoList) (kind : WorkKind) → notice_of kind ≡ None → SitsIn z → SitsIn (owe z list kind)
unfolding owe
owe_sits z list kind none h = sits_other z.steps z.threads z.objects z.todo list kind none h

pub sits_filter : (threads : List Thread) (objects : List Object) (p : Work → Bool) (todo : List Work) → Sits threads objects todo → Sits threads objects (filter p todo)
sits_filter threads objects p todo h = λ w o x l e i is. h w o x (in_filter p w todo l).0 e i is

-- a Notice of an object that q owns, on a list of q's
pub sits_made : (place : ℕ) (threads : List Thread) (objects : List Object) (list : TodoList) (todo : List Work) (y : Object)
    → ((x : Object) → In x objects → x.id ≡ y.id → Reaches threads list x.owner) → Sits threads objects todo → Sits threads objects (with_work place todo list (work.Notice y.id))
sits_made place threads objects list todo y reach h w o x l e i is = elim (in_push w _ todo l) [
  | inl k ↦ h w o x k e i is
  | inr new ↦ (
      let same_kind : notice_of (work.Notice y.id) ≡ notice_of w.kind = ap (λ (v : Work). notice_of v.kind) new in
      let id : y.id ≡ o = cc in
      subst (λ (v : Work). Reaches threads v.list x.owner) new (reach x i (is ∙ sym id)))
]

-- what has one identity has one owner
pub one_owner : (objects : List Object) → Pairs Differ objects → (x y : Object) → In x objects → In y objects → x.id ≡ y.id → x.owner ≡ y.owner
one_owner objects differ x y i j is = elim (pairs_either Differ objects differ x y i j) [
  | inl e ↦ ap (λ (v : Object). v.owner) e
  | inr e ↦ elim e [ inl f ↦ absurd (f is) | inr f ↦ absurd (f (sym is)) ]
]

-- ---- transactions and replies

pub actor_process : (s : Space) (seat : ℕ) (a : Actor) → actor s seat ≡ Some a → a.thread.process ≡ a.process.made
actor_process s seat a e = sym (actor_acts s seat a e).own

pub actor_seat : (s : Space) (seat : ℕ) (a : Actor) → actor s seat ≡ Some a → thread_in s.threads a.thread.seat ≡ Some a.thread
actor_seat s seat a e = subst (λ n. thread_in s.threads n ≡ Some a.thread) (sym (actor_acts s seat a e).seat) (actor_lives s seat a e).0

withdrawn_sits : (threads : List Thread) (objects : List Object) (b : Bool) (p : Work → Bool) (todo : List Work) → Sits threads objects todo → Sits threads objects (cond b (filter p todo) todo)
withdrawn_sits threads objects b p todo h = search (arith, sits_filter)

-- the objects that p sends as its own are p's
own_notices_sits : (z : Space) (seat p : ℕ) (items : List Item) → Reaches z.threads (OfThread seat) p
    → ((i : Item) → In i items → is_own i.flat.kind ≡ true → (x : Object) → In x z.objects → x.id ≡ i.object → x.owner ≡ p) → SitsIn z → SitsIn (own_notices z seat items)
unfolding own_notices
own_notices_sits z seat p items reach owned h =
    fold_keeps (Sits z.threads z.objects) (add_notice z seat) items (λ todo i l k. at i l todo k (is_own i.flat.kind) refl (object_in z.objects i.object) refl) _
    (fold_keeps (Sits z.threads z.objects) (withdraw_notice z.objects) items (λ todo i l k. withdrawn_sits z.threads z.objects _ _ todo k) z.todo h)
  where
    at : (i : Item) → In i items → (todo : List Work) → Sits z.threads z.objects todo → (own : Bool) → is_own i.flat.kind ≡ own → (f : Option Object) → object_in z.objects i.object ≡ f
        → Sits z.threads z.objects (cond own (elim f as (λ (x : Option Object). List Work) [ None ↦ todo | Some x ↦ with_notice z.steps z.processes z.references (OfThread seat) todo x ]) todo)
    at i l todo k false e f g = k
    at i l todo k true e None g = k
    at i l todo k true e (Some y) g =
        let id = same_eq y.id i.object (find_in (λ (x : Object). same x.id i.object) y z.objects g).1 in
        notice_keeps (Sits z.threads z.objects) z.steps z.processes z.references (OfThread seat) todo y
        (λ missing. sits_made z.steps z.threads z.objects (OfThread seat) todo y (λ x m is. (reach.0, reach.1, reach.2 ∙ sym (owned i l e x m (is ∙ id))))) k

delivered_sits : (s : Space) (a : Actor) (d : TransactionData) (v : Delivery) → KeptBefore s → Live s → Sends s a.process.made v.sending.made v.sending.items
    → Pairs Differ (delivered s a d v).objects → Reaches s.threads (OfThread a.thread.seat) a.process.made → SitsIn s → SitsIn (delivered s a d v)
unfolding delivered add_buffer with_carried assign_numbers refer make_objects own_notices
delivered_sits s a d v kept live sends differ reach h =
    own_notices_sits (add_buffer (with_carried s v) (buffer_of (with_carried s v) a d v)) a.thread.seat a.process.made v.sending.items reach
    (λ i l own x m is. let w = sends.owned i l own in one_owner (s.objects ++ v.sending.made) differ x w.0 m w.1 (is ∙ sym w.2) ∙ w.3)
    (λ w o x l e i is. elim (in_append x s.objects v.sending.made i) [
      | inl k ↦ h w o x l e k is
      | inr k ↦ (
          let old = live w o l e in
          let lt = kept.kept.below old.0 old.1 in
          let at = sends.makes.place x k in
          let place : x.id.place ≡ old.0.id.place = ap (λ (j : Identity). j.place) (is ∙ sym old.2) in absurd (omega arith))
    ])

called_sits : (z : Space) (seat p : ℕ) (one_way : Bool) → SitsIn z → SitsIn (called z seat p one_way)
unfolding call_out
called_sits z seat p true h = h
called_sits z seat p false h = owe_sits _ (goes_to z seat p) (work.Call z.steps) refl h

-- what the delivery makes differs from what there was
delivered_differ : (s : Space) (a : Actor) (d : TransactionData) (v : Delivery) → KeptBefore s → Sends s a.process.made v.sending.made v.sending.items → ((o : Identity) → v.target ≡ Some o → Here s.objects o)
    → Pairs Differ (delivered s a d v).objects
delivered_differ s a d v kept sends target = in_order_differ (delivered s a d v).objects (delivered_kept s a d v kept sends target).in_order

pub transacted_sits : (s : Space) (seat : ℕ) (a : Actor) (d : TransactionData) (parcel : Option Parcel) (v : Delivery) → KeptBefore s → Live s → actor s seat ≡ Some a → transaction_check s a d parcel ≡ Ok v
    → SitsIn s → SitsIn (transacted s a d v)
unfolding transacted
transacted_sits s seat a d parcel v kept live e check h =
    let t = transaction_checked s a d parcel v check in
    let z = delivered s a d v in
    let sends = sending_sends s a.process.made d parcel v.sending t.sends in
    let differ = delivered_differ s a d v kept sends (λ o f. let is : t.object ≡ o = (let k = t.target in cc) in (t.owned.object, t.owned.here, t.owned.id ∙ is)) in
    called_sits (owe z (OfThread a.thread.seat) (work.Complete (is_spam z a v))) a.thread.seat v.receiver.made v.one_way
    (owe_sits z (OfThread a.thread.seat) (work.Complete (is_spam z a v)) refl (delivered_sits s a d v kept live sends differ (a.thread, actor_seat s seat a e, actor_process s seat a e) h))

answered_sits : (z : Space) (caller : Option ℕ) (n : ℕ) → SitsIn z → SitsIn (elim caller as (λ (o : Option ℕ). Space) [ None ↦ z | Some t ↦ owe z (OfThread t) (work.Reply n) ])
answered_sits z caller n h = search (arith, owe_sits)

pub replied_sits : (s : Space) (seat : ℕ) (a : Actor) (d : TransactionData) (parcel : Option Parcel) (f : Frame) (v : Delivery) → KeptBefore s → Live s → actor s seat ≡ Some a → reply_check s a d parcel f ≡ Ok v
    → SitsIn s → SitsIn (replied s a d f v)
unfolding replied closed
replied_sits s seat a d parcel f v kept live e check h =
    let t = reply_checked s a d parcel f v check in
    let x = closed s f.made in
    let before = closed_before s f.made kept in
    let sends = closed_sends s f.made a.process.made v.sending.made v.sending.items (sending_sends s a.process.made d parcel v.sending t.sends) in
    let differ = delivered_differ x a d v before sends (λ o g. let none = t.target in absurd (cc)) in
    answered_sits (owe (delivered x a d v) (OfThread a.thread.seat) (work.Complete false)) f.caller s.steps
    (owe_sits (delivered x a d v) (OfThread a.thread.seat) (work.Complete false) refl
    (delivered_sits x a d v before live sends differ (a.thread, actor_seat s seat a e, actor_process s seat a e) h))

-- ---- deaths

pub sits_on_deaths : KeptOnDeaths SitsIn
sits_on_deaths = record {
  others = λ z ds h. h;
  dies = λ z p made h. owe_sits z (OfProcess p) (work.Death made) refl h;
  clears = λ z t cookie h. owe_sits z (OfThread t) (work.Cleared cookie) refl h;
}
