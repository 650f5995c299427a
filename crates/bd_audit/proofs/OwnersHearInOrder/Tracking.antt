-- For OwnersHearInOrder: what has been heard of an object, what was told of it, and references that keep it.
use Rattle.bd_laws.proofs.words.Logic.{arith, ◌≡◌, ℕ, ◌≤◌, Bool, true, false, cond, List, ◌++◌, None, ◌⊎◌, filter}
use Rattle.bd_laws.proofs.words.Types.{Identity, Object, Reference, Holder, Manager}
use mathlib.Core.Bool.{beq}
use Rattle.bd_laws.proofs.words.Space.{without_first, Space, lives_in, is_asked_by, is_shaking, is_in_window, is_handshake, is_of_owner, buffer_of_holder}
use Rattle.bd_laws.proofs.words.Laws.{In}
use Rattle.bd_laws.proofs.Lists.{in_left, filter_in, without_in}
use Rattle.bd_laws.proofs.Tests.{both, same_eq}
use Rattle.bd_laws.proofs.KeptBefore.ObjectsKept.{and_false}
use Rattle.bd_audit.proofs.OwnersHearInOrder.Orders.{Hearing, unheard, weakly, strongly, ended}
use Rattle.bd_audit.proofs.OwnersHearInOrder.Tallies.{tally, tally_more, tally_filter, tally_without}

-- ---- what has been heard

abbrev pub is_weak : Hearing → Bool
is_weak unheard = false
is_weak (weakly i) = true
is_weak (strongly i a) = true
is_weak ended = false

abbrev pub is_strong : Hearing → Bool
is_strong unheard = false
is_strong (weakly i) = false
is_strong (strongly i a) = true
is_strong ended = false

-- whether the acknowledgement of this strength is waited for
abbrev pub waits : Hearing → Bool → Bool
waits unheard strong = false
waits (weakly i) strong = cond strong false i
waits (strongly i a) strong = cond strong a i
waits ended strong = false

abbrev pub number : Bool → ℕ
number b = cond b 1 0

-- ---- what was told

-- the Handshake references on the object in this strength
abbrev pub shaken : List Reference → Identity → Bool → ℕ
shaken references o strong = tally (is_shaking o strong) references

-- the object's told values are what was heard, and its Handshakes what is waited for; if it is over, E
pub record Told (E : Type 0) (references : List Reference) (o : Identity) (x : Object) (st : Hearing) : Type 0 where
  pub weak : x.told_weak ≡ is_weak st
  pub strong : x.told_strong ≡ is_strong st
  pub shakes : (b : Bool) → shaken references o b ≡ number (waits st b)
  pub over : st ≡ ended → E

-- the context manager's object is told both, and its owner hears nothing of it
pub record Managed (references : List Reference) (o : Identity) (x : Object) (st : Hearing) : Type 0 where
  pub start : st ≡ unheard
  pub weak : x.told_weak ≡ true
  pub strong : x.told_strong ≡ true
  pub manager : (r : Reference) × In r references × (r.object ≡ o) × (r.holder ≡ Manager) × (r.strong ≡ true)
  pub shakes : (b : Bool) → shaken references o b ≡ 0

abbrev pub Tells : Type 0 → List Reference → Identity → Object → Hearing → Type 0
Tells E references o x st = Managed references o x st ⊎ Told E references o x st

-- What was heard of the object so far tells how it stands, as long as its owner lives.
abbrev pub Tracks : Type 0 → Identity → Hearing → Space → Type 0
Tracks E o st z = (x : Object) → In x z.objects → x.id ≡ o → lives_in z.processes x.owner ≡ true → Tells E z.references o x st

-- What holds of the hearing before each step: it tracks the object, and nothing was heard before the object was made.
pub record HeardBefore (o : Identity) (st : Hearing) (s : Space) : Type 0 where
  pub tracks : Tracks ⊥ o st s
  pub fresh : s.steps ≤ o.place → st ≡ unheard

-- ---- references

pub shaking_parts : (o : Identity) (b : Bool) (r : Reference) → is_shaking o b r ≡ true → (r.object ≡ o) × (is_handshake r.holder ≡ true) × (beq r.strong b ≡ true)
shaking_parts o b r h = search (arith, both, same_eq)

handshake_own : (h : Holder) → is_handshake h ≡ true → is_of_owner h ≡ true
handshake_own h e = search arith

pub own_unasked : (h : Holder) (p : ℕ) → is_of_owner h ≡ true → is_asked_by p h ≡ false
own_unasked h p e = search arith

pub own_window : (h : Holder) (p : ℕ) → is_of_owner h ≡ true → is_in_window p h ≡ false
own_window h p e = search arith

pub own_buffer : (h : Holder) → is_of_owner h ≡ true → buffer_of_holder h ≡ None
own_buffer h e = search arith

-- the owner's own references on the object are the same
pub record Same (o : Identity) (more references : List Reference) : Type 0 where
  pub shakes : (b : Bool) → shaken references o b ≡ shaken more o b
  pub manages : (r : Reference) → In r more → r.object ≡ o → r.holder ≡ Manager → In r references

pub tells_same : (E D : Type 0) (o : Identity) (more references : List Reference) (x : Object) (st : Hearing) → Same o more references → (E → D) → Tells E more o x st → Tells D references o x st
tells_same E D o more references x st k f h = search arith

pub same_more : (o : Identity) (references new : List Reference) → ((r : Reference) → In r new → is_handshake r.holder ≡ false) → Same o references (references ++ new)
same_more o references new none = search (arith, tally_more, and_false, in_left)

pub same_filter : (o : Identity) (references : List Reference) (p : Reference → Bool) → ((r : Reference) → r.object ≡ o → is_of_owner r.holder ≡ true → p r ≡ true)
    → Same o references (filter p references)
same_filter o references p stay = search (arith, tally_filter, shaking_parts, handshake_own, filter_in)

pub same_without : (o : Identity) (references : List Reference) (p : Reference → Bool) → ((r : Reference) → is_of_owner r.holder ≡ true → p r ≡ false)
    → Same o references (without_first p references)
same_without o references p stay = search (arith, tally_without, handshake_own, shaking_parts, without_in)
