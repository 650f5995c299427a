-- What happens to many rings, and what that is for each of them.
use Rattle.std.specs.Prelude.{ℕ, ◌≡◌, ◌==◌, ◌+◌, ◌≤◌, true, List, [], ◌∷◌, if◌then◌else◌}
use Rattle.bd_ring.specs.declared.nodes.Node.{Node}
use Rattle.bd_ring.specs.Turns.{wants, IsRing, Event, after, turns, passes, Stays, AlwaysWants}
use Rattle.bd_ring.specs.Turns.Event.{Leaves}
use Rattle.bd_ring.specs.Rings.{Orders, with_ring, without_one, Stands}

pub data Change : Type 0 where
  -- an event of one ring
  In : ℕ → Event → Change
  -- one leaves the ring that it stands in
  Gone : ℕ → Change

-- each contract of `Rings` says of its call that it is such a change, or none
abbrev pub changed : Orders → Change → Orders
changed f (In l e) = with_ring f l (after (f l) e)
changed f (Gone one) = without_one f one

abbrev pub changed_by : Orders → List Change → Orders
changed_by f [] = f
changed_by f (c ∷ cs) = changed_by (changed f c) cs

-- the events of one ring
abbrev pub events_of : ℕ → List Change → List Event
events_of l [] = []
events_of l (In k e ∷ cs) = if k == l then e ∷ events_of l cs else events_of l cs
events_of l (Gone one ∷ cs) = Leaves one ∷ events_of l cs

abbrev pub after_all : List ℕ → List Event → List ℕ
after_all ring [] = ring
after_all ring (e ∷ es) = after_all (after ring e) es

pub record EachRing : Type 0 where
  -- a ring becomes what its own events make of it, whatever happens to others
  pub own : (f : Orders) (cs : List Change) (l : ℕ) → changed_by f cs l ≡ after_all (f l) (events_of l cs)
  -- nobody stands in it twice, nor in two
  pub ring : (ns : List Node) (f : Orders) (l : ℕ) → Stands ns f → IsRing (f l)
  pub once : (ns : List Node) (f : Orders) (l m one : ℕ) → Stands ns f → wants (f l) one ≡ true → wants (f m) one ≡ true → l ≡ m
  -- from when one wants a turn there until it has it
  pub meanwhile : (ns : List Node) (f : Orders) (cs : List Change) (l one other : ℕ) → Stands ns f → wants (f l) one ≡ true → Stays one (events_of l cs)
      → (other ≡ one → ⊥) → turns (f l) (events_of l cs) one ≡ 0 → turns (f l) (events_of l cs) other ≤ 1 + passes (f l) (events_of l cs) one
  -- over any time in which one wants a turn there whenever anybody has one
  pub shares : (ns : List Node) (f : Orders) (cs : List Change) (l one other : ℕ) → Stands ns f → AlwaysWants one (f l) (events_of l cs)
      → (other ≡ one → ⊥) → turns (f l) (events_of l cs) other ≤ 1 + turns (f l) (events_of l cs) one + passes (f l) (events_of l cs) one
