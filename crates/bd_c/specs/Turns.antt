-- Rings beside an engine, as C has them.
use Rattle.std.specs.Prelude.{◌≡◌, ◌==◌, ◌≤◌, ◌^◌, ◌⊎◌, ℕ, Bool, true, false, List, [], Option, Some, None, is_none, is_some, if◌then◌else◌, ◌&&◌, vec_len, vec_capacity}
use Rattle.bd_ring.specs.Turns.{after_enter, after_turn, after_pass}
use Rattle.bd_ring.specs.Rings.{Orders, nobody, with_ring, without_one, next_in, is_used, ring_of, next_at, may_enter, Stands, AllUsed, GrowsAtNeed}
use Rattle.bd_ring.specs.declared.rings.Rings.{Rings}
use Rattle.bd_c.specs.Behind.{Of, IsMade, rings_of}
use Rattle.bd_c.specs.declared.held.Held.{Held}
use Rattle.bd_c.specs.declared.status.Status.{Status}
use Rattle.bd_c.specs.declared.status.Status.TheVariants as status

-- these rings stand for the orders
abbrev pub Are : Rings → Orders → Type 0
Are x f = Stands x.nodes.items f

-- a number is somebody's
abbrev pub is_somebodys : Rings → ℕ → Bool
is_somebodys x k = is_used x.nodes.items k

abbrev pub SameNumbers : Rings → Rings → Type 0
SameNumbers x y = (k : ℕ) → is_somebodys y k ≡ is_somebodys x k

-- whatever orders they stood for, now they stand for what a change makes of those
abbrev pub Turned : Rings → Rings → (Orders → Orders) → Type 0
Turned x y change = (f : Orders) → Are x f → Are y (change f)

-- nobody stands anywhere
pub record AreNobodys (x : Rings) : Type 0 where
  pub none : (k : ℕ) → is_somebodys x k ≡ false
  pub stands : Are x nobody

-- such are behind the handle; or nothing, for want of memory
abbrev pub RingsOpen : Option Held → Status → Type 0
RingsOpen k s = IsMade (λ m. Of rings_of m AreNobodys) (λ r. r ≡ status.NoMemory) k s

-- a number is told
abbrev pub TellsFirst : Option ℕ → ℕ → ℕ → Bool → Type 0
TellsFirst told old new true = told ≡ Some new
TellsFirst told old new false = (told ≡ None) × (new ≡ old)

-- Memory was asked for, and there was no room; or there are no more numbers. Each that there is was somebody's.
pub record IsFull (x : Rings) : Type 0 where
  pub all : AllUsed x.nodes.items
  pub grown : (vec_capacity x.nodes ≤ vec_len x.nodes) ⊎ (2 ^ 32 ≤ vec_len x.nodes)

-- The number was nobody's, and is the caller's alone; or there was no memory. One that was given back comes before a new one.
pub record IsAdded (x y : Rings) (number : ℕ) : Type 0 where
  pub fresh : is_somebodys x number ≡ false
  pub alone : ring_of y.nodes.items number ≡ None
  pub numbers : (k : ℕ) → is_somebodys y k ≡ (if number == k then true else is_somebodys x k)
  pub turned : Turned x y (λ f. f)
  pub again : GrowsAtNeed x.nodes.items y.nodes.items

abbrev pub AddsNumber : Rings → Rings → ℕ → ℕ → Status → Type 0
AddsNumber x y old new status.Done = IsAdded x y new
AddsNumber x y old new status.NoMemory = IsFull x × (y.nodes.items ≡ x.nodes.items) × (new ≡ old)
AddsNumber x y old new _ = ⊥

pub record Removes (x y : Rings) (number : ℕ) (result : Bool) : Type 0 where
  pub which : result ≡ (is_somebodys x number && is_none (next_at x.nodes.items number None))
  pub numbers : (k : ℕ) → is_somebodys y k ≡ (if result && (number == k) then false else is_somebodys x k)
  pub turned : Turned x y (λ f. if result then without_one f number else f)

pub record Enters (x y : Rings) (ring one : ℕ) (result : Bool) : Type 0 where
  pub which : result ≡ may_enter x.nodes.items ring one
  pub numbers : SameNumbers x y
  pub turned : Turned x y (λ f. if result then with_ring f ring (after_enter (f ring) one) else f)

pub record Leaves (x y : Rings) (one : ℕ) : Type 0 where
  pub numbers : SameNumbers x y
  pub turned : Turned x y (λ f. without_one f one)

-- whose turn it is in a ring is told
abbrev pub Looks : Rings → ℕ → ℕ → ℕ → Bool → Type 0
Looks x ring old new result = (f : Orders) → Are x f → TellsFirst (next_in (f ring)) old new result

pub record Takes (x y : Rings) (ring old new : ℕ) (result : Bool) : Type 0 where
  pub tells : Looks x ring old new result
  pub numbers : SameNumbers x y
  pub turned : Turned x y (λ f. with_ring f ring (after_turn (f ring)))

pub record Passes (x y : Rings) (ring : ℕ) (result : Bool) : Type 0 where
  pub some : (f : Orders) → Are x f → result ≡ is_some (next_in (f ring))
  pub numbers : SameNumbers x y
  pub turned : Turned x y (λ f. with_ring f ring (after_pass (f ring)))
