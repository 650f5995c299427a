-- The steps of BC_TRANSACTION and BC_REPLY, by what was checked.
use Rattle.bd_step.proofs.Words.{Actor, Bool, Callee, CallerGone, Cause, Complete, DeadOwner, Delivery, Err, FailedReply, Frame, Identity, IfSome, List, NoManager, None, OfThread, Ok, Option, Parcel, Process, Refusal, Reply, Result, Return, Some, Space, StandsAt, Tables, TakesCalls, TransactionComplete, TransactionData, Verdict, Within, WorkKind, accepted, actor, actor_acts, add_buffer, and_then, ap}
use Rattle.bd_step.proofs.Words.{assign_numbers, buffers_of, call_out, called, callee_of, caller_cause, caller_of, closed, delivered, false, floods, handle_of, has_number_past_limit, if◌then◌else◌, is_one_way, is_spam, make_objects, names_go, not_own, ok_or, option_and_then, option_map, owe, own_notices, owner_of, placed_for, process_in, refer, refl, refusal, replied, reply_check, reply_outcome}
use Rattle.bd_step.proofs.{Words.{reply_refused, reply_step, reply_to, sending_of, served_innermost, stopped, subst, sym, target_of, tell_caller, transacted, transaction_check, transaction_outcome, transaction_step, translation, true, unless, with_carried, ℕ, ◌&&◌, ◌+◌, ◌∙◌, ◌≡◌}, Finding.{found_lives}}

-- ---- processes that are found live

pub if_lives : (ps : List Process) (made : ℕ) (r : Option Process) → r ≡ process_in ps made → IfSome r (λ q. process_in ps q.made ≡ Some q)
if_lives ps made None e = tt
if_lives ps made (Some q) e = found_lives ps made q (sym e)

-- ---- whom a transaction goes to

abbrev callee : Identity → Process → Callee
callee o q = record { object = o; process = q }

abbrev with_owner : Space → Identity → Result Callee Cause
with_owner s o = ok_or (option_map (callee o) (owner_of s o)) DeadOwner

pub target_manager : (s : Space) (p handle : ℕ) (o : Identity) → handle ≡ 0 → s.manager ≡ Some o → not_own s p o ≡ target_of s p handle
unfolding target_of
target_manager s p handle o e m =
    ap (λ (x : Option Identity). and_then (ok_or x NoManager) (not_own s p)) (sym m) ∙ rw e refl

pub owner_dead : (s : Space) (p handle : ℕ) (o : Identity) → Ok o ≡ target_of s p handle → None ≡ owner_of s o → Err DeadOwner ≡ callee_of s p handle
unfolding callee_of
owner_dead s p handle o e k =
    ap (λ (x : Option Process). ok_or (option_map (λ (q : Process). callee o q) x) DeadOwner) k ∙ ap (λ (r : Result Identity Cause). and_then r (with_owner s)) e

pub owner_lives : (s : Space) (p handle : ℕ) (o : Identity) (q : Process) → Ok o ≡ target_of s p handle → Some q ≡ owner_of s o → Ok (callee o q) ≡ callee_of s p handle
unfolding callee_of
owner_lives s p handle o q e k =
    ap (λ (x : Option Process). ok_or (option_map (λ (q : Process). callee o q) x) DeadOwner) k ∙ ap (λ (r : Result Identity Cause). and_then r (with_owner s)) e

pub no_target : (s : Space) (p handle : ℕ) (x : Cause) → Err x ≡ target_of s p handle → Err x ≡ callee_of s p handle
unfolding callee_of
no_target s p handle x e = ap (λ (r : Result Identity Cause). and_then r (with_owner s)) e

-- ---- the whole test of a transaction

module _ (s : Space) (a : Actor) (d : TransactionData) (parcel : Option Parcel) (n : ℕ) (handle : n ≡ handle_of d) where
  abbrev sent_to : Callee → Result Delivery Cause
  sent_to c = and_then (sending_of s a.process.made d parcel) (placed_for s d c.process (Some c.object) (is_one_way d))

  abbrev rest : Callee → Result Delivery Cause
  rest c = and_then (unless (if is_one_way d then None else caller_cause s a.thread.seat) c) sent_to

  pub no_callee : (x : Cause) → Err x ≡ callee_of s a.process.made n → Err x ≡ transaction_check s a d parcel
  unfolding transaction_check
  no_callee x e = ap (λ (r : Result Callee Cause). and_then r rest) (e ∙ ap (callee_of s a.process.made) handle)

  pub may_not_call : (c : Callee) (b : Bool) (x : Cause) → Ok c ≡ callee_of s a.process.made n → b ≡ is_one_way d → Some x ≡ (if b then None else caller_cause s a.thread.seat) → Err x ≡ transaction_check s a d parcel
  unfolding transaction_check
  may_not_call c b x e o k =
      ap (λ (y : Option Cause). and_then (unless y c) sent_to) (k ∙ ap (λ (v : Bool). if v then None else caller_cause s a.thread.seat) o)
      ∙ ap (λ (r : Result Callee Cause). and_then r rest) (e ∙ ap (callee_of s a.process.made) handle)

  pub may_call : (c : Callee) (b : Bool) → Ok c ≡ callee_of s a.process.made n → b ≡ is_one_way d → None ≡ (if b then None else caller_cause s a.thread.seat)
      → and_then (sending_of s a.process.made d parcel) (placed_for s d c.process (Some c.object) b) ≡ transaction_check s a d parcel
  unfolding transaction_check
  may_call c b e o k =
      ap (λ (v : Bool). and_then (sending_of s a.process.made d parcel) (placed_for s d c.process (Some c.object) v)) o
      ∙ ap (λ (y : Option Cause). and_then (unless y c) sent_to) (k ∙ ap (λ (v : Bool). if v then None else caller_cause s a.thread.seat) o)
      ∙ ap (λ (r : Result Callee Cause). and_then r rest) (e ∙ ap (callee_of s a.process.made) handle)

-- ---- the change of a transaction

called_names : (z : Space) (seat p : ℕ) (b : Bool) → (names_go (called z seat p b)).names ≡ (names_go z).names
unfolding call_out owe names_go
called_names z seat p true = refl
called_names z seat p false = refl

pub transacted_full : (s : Space) (a : Actor) (d : TransactionData) (v : Delivery) → has_number_past_limit (names_go (with_carried s v)).names ≡ true
    → has_number_past_limit (names_go (transacted s a d v)).names ≡ true
unfolding transacted owe delivered own_notices add_buffer names_go
transacted_full s a d v e =
    let z = delivered s a d v in
    ap has_number_past_limit (called_names (owe z (OfThread a.thread.seat) (Complete (is_spam z a v))) a.thread.seat v.receiver.made v.one_way) ∙ e

-- a delivery leaves the frames as they are
pub sent_takes : (s : Space) (a : Actor) (d : TransactionData) (v : Delivery) → TakesCalls s → TakesCalls (delivered s a d v)
unfolding delivered own_notices add_buffer with_carried assign_numbers refer make_objects
sent_takes s a d v k = record { stacked = k.stacked; before = k.before }

-- nor does it change a process
sent_processes : (s : Space) (a : Actor) (d : TransactionData) (v : Delivery) → (delivered s a d v).processes ≡ s.processes
unfolding delivered own_notices add_buffer with_carried assign_numbers refer make_objects
sent_processes s a d v = refl

called_within : (t : Tables) (z : Space) (seat p : ℕ) (b spam : Bool) → StandsAt (z.steps + 1) t (called (owe z (OfThread seat) (Complete spam)) seat p b)
    → Within t (called (owe z (OfThread seat) (Complete spam)) seat p b)
unfolding call_out owe
called_within t z seat p true spam h = h
called_within t z seat p false spam h = h

module _ (s : Space) (a : Actor) (d : TransactionData) (v : Delivery) (p : ℕ) (b : Bool) (receiver : p ≡ v.receiver.made) (one_way : b ≡ v.one_way) where
  -- what is told of the receiver that is found after the delivery is told of the delivery
  pub spam_told : (spam : Bool) → process_in s.processes v.receiver.made ≡ Some v.receiver
      → ((q : Process) → process_in (delivered s a d v).processes p ≡ Some q
      → spam ≡ (a.process.spam_detection && b && floods q.window (buffers_of (delivered s a d v).buffers p) a.process.made))
      → spam ≡ is_spam (delivered s a d v) a v
  unfolding is_spam
  spam_told spam lives told =
      let z = delivered s a d v in
      let found = ap (λ (qs : List Process). process_in qs p) (sent_processes s a d v) ∙ ap (process_in s.processes) receiver ∙ lives in
      told v.receiver found
      ∙ ap (λ (c : Bool). a.process.spam_detection && c && floods v.receiver.window (buffers_of z.buffers p) a.process.made) one_way
      ∙ ap (λ (q : ℕ). a.process.spam_detection && v.one_way && floods v.receiver.window (buffers_of z.buffers q) a.process.made) receiver

  pub transacted_stands : (t : Tables) (spam : Bool) → spam ≡ is_spam (delivered s a d v) a v
      → StandsAt ((delivered s a d v).steps + 1) t (called (owe (delivered s a d v) (OfThread a.thread.seat) (Complete spam)) a.thread.seat p b) → Within t (transacted s a d v)
  unfolding transacted
  transacted_stands t spam is h =
      let z = delivered s a d v in
      let one = subst (λ (q : ℕ). StandsAt (z.steps + 1) t (called (owe z (OfThread a.thread.seat) (Complete spam)) a.thread.seat q b)) receiver h in
      let two = subst (λ (c : Bool). StandsAt (z.steps + 1) t (called (owe z (OfThread a.thread.seat) (Complete spam)) a.thread.seat v.receiver.made c)) one_way one in
      called_within t z a.thread.seat v.receiver.made v.one_way (is_spam z a v)
      (subst (λ (x : Bool). StandsAt (z.steps + 1) t (called (owe z (OfThread a.thread.seat) (Complete x)) a.thread.seat v.receiver.made v.one_way)) is two)

-- ---- the step of a transaction

pub transaction_stops : (s : Space) (a : Actor) (d : TransactionData) (parcel : Option Parcel) (x : Cause) (told : Return) → Err x ≡ transaction_check s a d parcel → told ≡ refusal x
    → transaction_step s a d parcel ≡ stopped x (owe s (OfThread a.thread.seat) (Refusal told))
unfolding transaction_step
transaction_stops s a d parcel x told e k =
    ap (transaction_outcome s a d) (sym e) ∙ ap (λ (r : Return). stopped x (owe s (OfThread a.thread.seat) (Refusal r))) (sym k)

pub transaction_sends : (s : Space) (a : Actor) (d : TransactionData) (parcel : Option Parcel) (v : Delivery) → Ok v ≡ transaction_check s a d parcel
    → transaction_step s a d parcel ≡ accepted (transacted s a d v)
unfolding transaction_step
transaction_sends s a d parcel v e = ap (transaction_outcome s a d) (sym e)

-- ---- whom a reply goes to

pub actor_lives : (s : Space) (seat : ℕ) (r : Option Actor) → r ≡ actor s seat → IfSome r (λ c. process_in s.processes c.process.made ≡ Some c.process)
actor_lives s seat None e = tt
actor_lives s seat (Some c) e = (actor_acts s seat c (sym e)).found

pub caller_is : (s : Space) (f : Frame) (o : Option ℕ) → f.caller ≡ o → option_and_then (actor s) o ≡ caller_of s f
unfolding caller_of
caller_is s f o e = ap (λ (x : Option ℕ). option_and_then (actor s) x) (sym e)

module _ (s : Space) (a : Actor) (d : TransactionData) (parcel : Option Parcel) (f : Frame) where
  abbrev reply_to_caller : Actor → Result Delivery Cause
  reply_to_caller c = and_then (sending_of s a.process.made d parcel) (placed_for s d c.process None false)

  pub caller_gone : None ≡ caller_of s f → Err CallerGone ≡ reply_check s a d parcel f
  unfolding reply_check
  caller_gone e = ap (λ (o : Option Actor). and_then (ok_or o CallerGone) reply_to_caller) e

  pub caller_there : (c : Actor) → Some c ≡ caller_of s f → and_then (sending_of s a.process.made d parcel) (placed_for s d c.process None false) ≡ reply_check s a d parcel f
  unfolding reply_check
  caller_there c e = ap (λ (o : Option Actor). and_then (ok_or o CallerGone) reply_to_caller) e

  pub reply_stops : (x : Cause) → Err x ≡ reply_check s a d parcel f → reply_to s a d parcel (Some f) ≡ stopped x (reply_refused s a.thread.seat f)
  reply_stops x e = ap (reply_outcome s a d f) (sym e)

  pub reply_answers : (v : Delivery) → Ok v ≡ reply_check s a d parcel f → reply_to s a d parcel (Some f) ≡ accepted (replied s a d f v)
  reply_answers v e = ap (reply_outcome s a d f) (sym e)

pub reply_by_frame : (s : Space) (a : Actor) (d : TransactionData) (parcel : Option Parcel) (o : Option Frame) → o ≡ served_innermost s a.thread.seat → reply_step s a d parcel ≡ reply_to s a d parcel o
unfolding reply_step
reply_by_frame s a d parcel o e = ap (reply_to s a d parcel) (sym e)

-- ---- the change of a reply

told_names : (z : Space) (caller : Option ℕ) (kind : WorkKind)
    → (names_go (elim caller as (λ (o : Option ℕ). Space) [ None ↦ z | Some u ↦ owe z (OfThread u) kind ])).names ≡ (names_go z).names
unfolding owe names_go
told_names z None kind = refl
told_names z (Some u) kind = refl

pub replied_full : (s : Space) (a : Actor) (d : TransactionData) (f : Frame) (v : Delivery) → has_number_past_limit (names_go (with_carried s v)).names ≡ true
    → has_number_past_limit (names_go (replied s a d f v)).names ≡ true
unfolding replied owe closed delivered with_carried assign_numbers refer make_objects own_notices add_buffer names_go
replied_full s a d f v e =
    ap has_number_past_limit (told_names (owe (delivered (closed s f.made) a d v) (OfThread a.thread.seat) (Complete false)) f.caller (Reply s.steps)) ∙ e

told_at : (n : ℕ) (t : Tables) (z : Space) (caller : Option ℕ) (kind : WorkKind) → n ≡ z.steps + 1
    → StandsAt n t (elim caller as (λ (o : Option ℕ). Space) [ None ↦ z | Some u ↦ owe z (OfThread u) kind ])
    → Within t (elim caller as (λ (o : Option ℕ). Space) [ None ↦ z | Some u ↦ owe z (OfThread u) kind ])
unfolding owe
told_at n t z None kind e h = subst (λ (m : ℕ). StandsAt m t z) e h
told_at n t z (Some u) kind e h = subst (λ (m : ℕ). StandsAt m t (owe z (OfThread u) kind)) e h

pub replied_stands : (t : Tables) (s : Space) (a : Actor) (d : TransactionData) (f : Frame) (v : Delivery)
    → StandsAt ((delivered s a d v).steps + 1) t (tell_caller (owe (closed (delivered s a d v) f.made) (OfThread a.thread.seat) (Complete false)) f (Reply (delivered s a d v).steps))
    → Within t (replied s a d f v)
unfolding replied owe closed delivered with_carried assign_numbers refer make_objects own_notices add_buffer translation
replied_stands t s a d f v h =
    told_at _ t (owe (closed (delivered s a d v) f.made) (OfThread a.thread.seat) (Complete false)) f.caller (Reply s.steps) refl h

pub refused_stands : (t : Tables) (s : Space) (seat : ℕ) (f : Frame) → StandsAt (s.steps + 1) t (reply_refused s seat f) → Within t (reply_refused s seat f)
unfolding reply_refused owe closed
refused_stands t s seat f h =
    told_at (s.steps + 1) t (closed (owe s (OfThread seat) (Refusal TransactionComplete)) f.made) f.caller (Verdict FailedReply) refl h
