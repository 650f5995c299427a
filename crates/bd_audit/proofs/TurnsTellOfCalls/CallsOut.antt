-- For TurnsTellOfCalls, RepliesReachTheirCallers and RepliesAnswerTheLatestOpenCall: a call that a reading takes hands its
-- buffer out, and an accepted one-way transaction makes one.
use Rattle.bd_laws.proofs.words.Logic.{◌≡◌, ℕ, ◌-◌, Bool, true, false, cond, ◌||◌, List, [], ◌∷◌, length, Option, Some, None, Result, Ok, refl, ap, sym, subst, ◌∙◌, map, nat_lt, list_any, arith, eqb-true, eq-eqb}
use Rattle.bd_laws.proofs.words.Types.{TransactionData, DeadReply, Cause, Identity, Parcel, Step, Command, Read, Accepted, Entry, Actor, Buffer, Work, OfThread, WorkKind}
use Rattle.bd_laws.proofs.words.Space.{first_of, Space, actor, owe, is_call, hands_out, list_to_read, closed, ripen, follow, assign_numbers, Delivery, delivered, own_notices, add_buffer, with_carried, refer, make_objects, buffer_of, transaction_step, transaction_check, transacted, target_of, handle_of, command_step, completed, taken, ends_read, read_by, buffer_taken, handed_buffers, bytes_read, buffer_in, read_fault, read_step, read_taking, change, is_spam, is_made_at}
use Rattle.bd_uapi.specs.declared.command.Command.TheVariants as bc
use Rattle.bd_space.specs.declared.space.WorkKind.TheVariants as work
use Rattle.bd_laws.proofs.words.Laws.{In, On}
use Rattle.bd_laws.proofs.Lists.{in_last, any_found, find_in, find_some, changed_in}
use Rattle.bd_laws.proofs.IsInTurn.InTurn.{is_call_hands}
use Rattle.bd_laws.proofs.IsInTurn.Ripening.{read_in}
use Rattle.bd_laws.proofs.Checks.{transaction_checked}
use Rattle.bd_laws.proofs.IsInTurn.Passed.{follow_after}
use Rattle.bd_audit.specs.TurnSearch.{is_handed}
use Rattle.bd_audit.specs.Replies.{items_taken, items_read, items_unless}
use Rattle.bd_audit.specs.TurnCalls.{CallsOneWay}
use Rattle.bd_laws.proofs.Machine.Settled.{settle_keeps}
use Rattle.bd_laws.proofs.Machine.Untouched
use Rattle.bd_laws.proofs.Tests.{is_some_ok}
use Rattle.bd_audit.proofs.TurnsAreTaken.Logged.{handed_in}

-- ---- what a reading takes was due

-- the reading that takes something
pub record Reading (s : Space) (seat : ℕ) (x : Step) : Type 0 where
  pub actor_is : Actor
  pub limit : ℕ
  pub acts : actor s seat ≡ Some actor_is
  pub reads : x ≡ Read limit
  pub allowed : read_fault limit (list_to_read s actor_is.thread) ≡ None

pub reading : (s : Space) (seat : ℕ) (x : Step) (w : Work) → In w (items_taken s seat x) → Reading s seat x
reading s seat x w l = search (arith, taken)

pub reading_items : (s : Space) (seat : ℕ) (x : Step) (r : Reading s seat x) → items_taken s seat x ≡ taken s (r.limit - 4) (list_to_read s r.actor_is.thread)
reading_items s seat x r =
    ap (items_taken s seat) r.reads ∙ ap (items_read s r.limit) r.acts ∙ ap (λ f. items_unless f (taken s (r.limit - 4) (list_to_read s r.actor_is.thread))) r.allowed

read_space : (s : Space) (seat limit : ℕ) (a : Actor) → actor s seat ≡ Some a → read_fault limit (list_to_read s a.thread) ≡ None
    → (change s seat (Read limit)).space ≡ follow (read_by s a.thread.seat (taken s (limit - 4) (list_to_read s a.thread)))
unfolding change read_step read_taking
read_space s seat limit a acts allowed = search arith

pub items_due : (s : Space) (seat : ℕ) (x : Step) (w : Work) → In w (items_taken s seat x) → In w s.todo
items_due s seat x w i = let r = reading s seat x w i in read_in s r.actor_is.thread (r.limit - 4) w (subst (In w) (reading_items s seat x r) i)

-- ---- the call among the items is what hands a buffer out

abbrev first_handed : List Work → Option ℕ
first_handed ws = first_of (map (λ w. hands_out w.kind) ws)

-- what holds of a list and of what is taken of it: nothing, or an item and more, but for one that ends the read
module _ (s : Space) (R : List Work → List Work → Type 0) (none : (ws : List Work) → R ws []) (last : (w : Work) (ws : List Work) → ends_read w.kind ≡ true → R (w ∷ ws) (w ∷ []))
    (more : (w : Work) (ws items : List Work) → ends_read w.kind ≡ false → R ws items → R (w ∷ ws) (w ∷ items)) where
  pub taken_by : (ws : List Work) (left : ℕ) → R ws (taken s left ws)
  taken_by [] left = none []
  taken_by (w ∷ ws) left = at (nat_lt left 68) (ends_read w.kind) refl (taken_by ws (left - length (bytes_read s w)))
    where
      at : (b c : Bool) → ends_read w.kind ≡ c → R ws (taken s (left - length (bytes_read s w)) ws) → R (w ∷ ws) (cond b [] (w ∷ cond c [] (taken s (left - length (bytes_read s w)) ws)))
      at true c e k = none (w ∷ ws)
      at false true e k = last w ws e
      at false false e k = more w ws _ e k

hands_none : (kind : WorkKind) → ends_read kind ≡ false → hands_out kind ≡ None
hands_none (work.Call b) h = absurd (cc)
hands_none (work.Reply b) h = absurd (cc)
hands_none _ h = refl

-- nothing is taken after what hands over, so that a call among the items taken is the first that does
module _ (s : Space) (m : ℕ) where
  abbrev has_call : List Work → Bool
  has_call ws = list_any (λ w. is_call m w.kind) ws

  one_call : (kind : WorkKind) (o : Option ℕ) → hands_out kind ≡ o → (is_call m kind || false) ≡ true → first_of (o ∷ []) ≡ Some m
  one_call kind o e h = search (arith, is_call_hands)

  no_call : (kind : WorkKind) (items : List Work) → hands_out kind ≡ None → (is_call m kind || has_call items) ≡ true → has_call items ≡ true
  no_call kind items e h = search (arith, is_call_hands)

  first_call : (ws : List Work) (left : ℕ) → has_call (taken s left ws) ≡ true → first_handed (taken s left ws) ≡ Some m
  first_call = taken_by s (λ ws items. has_call items ≡ true → first_handed items ≡ Some m) (λ ws h. absurd (cc)) (λ w ws e. one_call w.kind (hands_out w.kind) refl)
      (λ w ws items e k h. let none = hands_none w.kind e in ap (λ o. first_of (o ∷ map (λ (w : Work). hands_out w.kind) items)) none ∙ k (no_call w.kind items none h))

  -- where the call's buffer lives, taking its item marks it
  module _ (b : Buffer) (here : In b s.buffers) (made : b.made ≡ m) where
    buffer_found : (y : Buffer) × (buffer_in s.buffers m ≡ Some y) × (y.made ≡ m)
    buffer_found =
        let y = is_some_ok (buffer_in s.buffers m) (find_some (is_made_at m) b s.buffers here (eq-eqb b.made m made)) in
        (y.0, y.1, eqb-true y.0.made m (find_in (is_made_at m) y.0 s.buffers y.1).1)

    taken_buffer : (ws : List Work) → first_handed ws ≡ Some m → (y : Buffer) × (buffer_taken s ws ≡ Some y) × (y.made ≡ m)
    unfolding buffer_taken
    taken_buffer ws h = search (arith, buffer_found)

    marked_handed : (y : Buffer) → y.made ≡ m → is_handed (handed_buffers s.buffers (Some y)) m ≡ true
    marked_handed y e = search (arith, eq-eqb, changed_in, handed_in)

    read_handed : (seat : ℕ) (ws : List Work) → first_handed ws ≡ Some m → is_handed (read_by s seat ws).buffers m ≡ true
    unfolding read_by
    read_handed seat ws h = search (arith, taken_buffer, marked_handed)

    pub hands_it_out : (seat : ℕ) (x : Step) → has_call (items_taken s seat x) ≡ true → is_handed (change s seat x).space.buffers m ≡ true
    hands_it_out seat x h =
        let w = any_found (λ (w : Work). is_call m w.kind) (items_taken s seat x) h in
        let r = reading s seat x w.0 w.1 in
        let items = taken s (r.limit - 4) (list_to_read s r.actor_is.thread) in
        let first = first_call (list_to_read s r.actor_is.thread) (r.limit - 4) (ap has_call (sym (reading_items s seat x r)) ∙ h) in
        let space = ap (λ y. (change s seat y).space) r.reads ∙ read_space s seat r.limit r.actor_is r.acts r.allowed in
        ap (λ (z : Space). is_handed z.buffers m) space ∙ ap (λ bs. is_handed bs m) (follow_after (read_by s r.actor_is.thread.seat items)).buffers ∙ read_handed r.actor_is.thread.seat items first

-- ---- an accepted one-way transaction makes a buffer

completed_buffers : (z : Space) → (completed z).buffers ≡ z.buffers
unfolding completed
completed_buffers z =
    settle_keeps (λ y. y.buffers ≡ z.buffers)
    (λ y f found k. (Untouched.told_untouched (closed y f.made) f.caller (work.Verdict DeadReply)).buffers ∙ (Untouched.closed_untouched y f.made).buffers ∙ k) (follow (ripen z))
    ((follow_after (ripen z)).buffers ∙ (Untouched.ripen_untouched z).buffers)

-- the step makes this object's one-way call
abbrev pub MakesCall : Space → Identity → List Buffer → Type 0
MakesCall s o bs = (c : Buffer) × In c bs × (c.made ≡ s.steps) × On o c

delivered_makes : (s : Space) (a : Actor) (d : TransactionData) (v : Delivery) (o : Identity) → v.one_way ≡ true → v.target ≡ Some o → MakesCall s o (delivered s a d v).buffers
unfolding delivered own_notices add_buffer with_carried assign_numbers refer make_objects
delivered_makes s a d v o one_way target =
    (buffer_of (with_carried s v) a d v, in_last (buffer_of (with_carried s v) a d v) s.buffers, refl, (one_way, target))

transacted_buffers : (s : Space) (a : Actor) (d : TransactionData) (v : Delivery) → (transacted s a d v).buffers ≡ (delivered s a d v).buffers
unfolding transacted
transacted_buffers s a d v =
    let z = delivered s a d v in
    let y = owe z (OfThread a.thread.seat) (work.Complete (is_spam z a v)) in
    (Untouched.called_untouched y a.thread.seat v.receiver.made v.one_way).buffers ∙ (Untouched.owe_untouched z (OfThread a.thread.seat) (work.Complete (is_spam z a v))).buffers

same_object : (r : Result Identity Cause) (o p : Identity) → r ≡ Ok o → r ≡ Ok p → o ≡ p
same_object r o p h k = let e : (let q : Result Identity Cause = Ok o in q) ≡ Ok p = sym h ∙ k in cc

-- what an accepted transaction leaves
accepted : (s : Space) (seat : ℕ) (a : Actor) (d : TransactionData) (parcel : Option Parcel) → actor s seat ≡ Some a → (change s seat (Command (bc.Transaction d) parcel)).answer ≡ Accepted
    → (v : Delivery) × (transaction_check s a d parcel ≡ Ok v) × ((change s seat (Command (bc.Transaction d) parcel)).space ≡ completed (transacted s a d v))
unfolding change command_step transaction_step
accepted s seat a d parcel acts h = search arith

pub call_makes : (s : Space) (e : Entry) (o : Identity) → CallsOneWay s e o → MakesCall s o (change s e.seat e.step).space.buffers
call_makes s e o h =
    let a = h.actor_is in
    let k = accepted s e.seat a h.fields h.parcel h.acts (ap (λ x. (change s e.seat x).answer) (sym h.command) ∙ h.accepted) in
    let t = transaction_checked s a h.fields h.parcel k.0 k.1 in
    let is = same_object (target_of s a.process.made (handle_of h.fields)) t.object o t.named h.target in
    let space = ap (λ x. (change s e.seat x).space) h.command ∙ k.2 in
    subst (MakesCall s o) (sym (ap (λ (z : Space). z.buffers) space ∙ completed_buffers (transacted s a h.fields k.0) ∙ transacted_buffers s a h.fields k.0))
    (delivered_makes s a h.fields k.0 o (t.one_way ∙ h.one_way) (t.target ∙ ap (λ y. Some y) is))
