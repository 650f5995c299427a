-- For every law: what an accepted transaction, reply or asking has tested.
use Rattle.bd_laws.proofs.words.Logic.{arith, ◌≡◌, ◌==◌, ℕ, Bool, false, Option, Some, None, Ok, ◌⊎◌, refl, sym, subst, option_map, option_and_then_some, eqb-true}
use Rattle.bd_laws.proofs.words.Types.{TransactionData, DeadOwner, Identity, Parcel, Process, Thread, Actor, Callee, Frame, Object}
use Rattle.bd_laws.proofs.words.Space.{same, ok_or, Space, actor, process_in, thread_in, object_in, owned_in, Delivery, sending_of, transaction_check, callee_of, target_of, owner_of, handle_of, is_one_way, caller_cause, reply_check, caller_of, ask_check}
use Rattle.bd_laws.specs.Lists.{In}
use Rattle.bd_laws.proofs.Lists.{find_in}
use Rattle.bd_laws.proofs.Tests.{same_eq, and_then_ok, found_ok}
use Rattle.bd_laws.proofs.Sendings.{HasName, named_has}

-- the object is found in the space, with its live owner
pub record Owned (s : Space) (o : Identity) (q : Process) : Type 0 where
  pub object : Object
  pub here : In object s.objects
  pub id : object.id ≡ o
  pub lives : process_in s.processes object.owner ≡ Some q

owned : (s : Space) (o : Identity) (q : Process) → owner_of s o ≡ Some q → Owned s o q
unfolding owner_of
owned s o q h =
    option_and_then_some (λ (x : Object). process_in s.processes x.owner) (object_in s.objects o) q h
    (λ x e f. let l = find_in (λ (y : Object). same y.id o) x s.objects e in record { object = x; here = l.0; id = same_eq x.id o l.1; lives = f })

pub record Transacts (s : Space) (a : Actor) (d : TransactionData) (parcel : Option Parcel) (v : Delivery) : Type 0 where
  pub object : Identity
  pub target : v.target ≡ Some object
  pub named : target_of s a.process.made (handle_of d) ≡ Ok object
  pub owned : Owned s object v.receiver
  pub sends : sending_of s a.process.made d parcel ≡ Ok v.sending
  pub one_way : v.one_way ≡ is_one_way d

found_callee : (s : Space) (o : Identity) (q : Option Process) (c : Callee) → owner_of s o ≡ q
    → ok_or (option_map (λ (p : Process). let x : Callee = record { object = o; process = p } in x) q) DeadOwner ≡ Ok c → Owned s c.object c.process
found_callee s o None c e h = absurd (cc)
found_callee s o (Some q) c e h = search (arith, owned)

callee_owned : (s : Space) (p handle : ℕ) (c : Callee) → callee_of s p handle ≡ Ok c → Owned s c.object c.process
unfolding callee_of
callee_owned s p handle c h =
    let t = and_then_ok (target_of s p handle) _ c h in
    found_callee s t.0 (owner_of s t.0) c refl t.2

pub transaction_checked : (s : Space) (a : Actor) (d : TransactionData) (parcel : Option Parcel) (v : Delivery) → transaction_check s a d parcel ≡ Ok v → Transacts s a d parcel v
unfolding transaction_check callee_of
transaction_checked s a d parcel v h = search (arith, and_then_ok, callee_owned)

-- a two-way call has no cause against its caller
pub transaction_may_call : (s : Space) (a : Actor) (d : TransactionData) (parcel : Option Parcel) (v : Delivery) → transaction_check s a d parcel ≡ Ok v → is_one_way d ≡ false
    → caller_cause s a.thread.seat ≡ None
unfolding transaction_check
transaction_may_call s a d parcel v h two_way = search arith

pub record RepliesTo (s : Space) (a : Actor) (d : TransactionData) (parcel : Option Parcel) (f : Frame) (v : Delivery) : Type 0 where
  pub caller : Actor
  pub found : caller_of s f ≡ Some caller
  pub receiver : v.receiver ≡ caller.process
  pub target : v.target ≡ None
  pub sends : sending_of s a.process.made d parcel ≡ Ok v.sending
  pub one_way : v.one_way ≡ false

pub reply_checked : (s : Space) (a : Actor) (d : TransactionData) (parcel : Option Parcel) (f : Frame) (v : Delivery) → reply_check s a d parcel f ≡ Ok v → RepliesTo s a d parcel f v
unfolding reply_check
reply_checked s a d parcel f v h = search arith

-- ---- asking

-- what is asked for is the manager's object, by 0, or what the process has a name for
pub asked_checked : (s : Space) (p n : ℕ) (strong : Bool) (o : Identity) → ask_check s p n strong ≡ Ok o → ((n ≡ 0) × (s.manager ≡ Some o)) ⊎ HasName s.names p o
unfolding ask_check
asked_checked s p n strong o h = search (arith, found_ok, eqb-true, named_has)

-- and it isn't the process's own
pub asked_others : (s : Space) (p n : ℕ) (strong : Bool) (o : Identity) → ask_check s p n strong ≡ Ok o → owned_in s.objects p o ≡ false
unfolding ask_check
asked_others s p n strong o h = search arith

-- ---- actors

pub actor_lives : (s : Space) (seat : ℕ) (a : Actor) → actor s seat ≡ Some a → (thread_in s.threads seat ≡ Some a.thread) × (process_in s.processes a.thread.process ≡ Some a.process)
unfolding actor
actor_lives s seat a h = search arith

-- An actor's thread is the live one of its seat, and in the actor's process.
pub record Acts (s : Space) (n : ℕ) (a : Actor) : Type 0 where
  pub thread : In a.thread s.threads
  pub seat : a.thread.seat ≡ n
  pub process : In a.process s.processes
  pub own : a.process.made ≡ a.thread.process
  pub found : process_in s.processes a.process.made ≡ Some a.process

pub actor_acts : (s : Space) (seat : ℕ) (a : Actor) → actor s seat ≡ Some a → Acts s seat a
actor_acts s seat a h =
    let k = actor_lives s seat a h in
    let t = find_in (λ (x : Thread). x.seat == seat) a.thread s.threads k.0 in
    let p = find_in (λ (x : Process). x.made == a.thread.process) a.process s.processes k.1 in
    let own = eqb-true a.process.made a.thread.process p.1 in
    record { thread = t.0; seat = eqb-true a.thread.seat seat t.1; process = p.0; own = own; found = subst (λ n. process_in s.processes n ≡ Some a.process) (sym own) k.1 }
