-- Many rings over numbered nodes, and the orders that they stand for. A number is of a ring and of one that stands in a ring.
use Rattle.std.specs.Prelude.{ℕ, ◌≡◌, ◌==◌, ◌<◌, ◌+◌, ◌⊎◌, ◌&&◌, nat_lt, not, Bool, true, false, List, [], ◌∷◌, length, get_or, Option, Some, None, is_none, if◌then◌else◌}
use Rattle.bd_chains.specs.{Chain.{is_at, has, distinct, Linked}}
use Rattle.bd_ring.specs.Turns.{after_leave}
use Rattle.bd_ring.specs.declared.nodes.Node.{Node}

-- of each ring, who stands there, the next one first
abbrev pub Orders : Type 0
Orders = ℕ → List ℕ

abbrev pub nobody : Orders
nobody l = []

-- one ring has this order from now on
abbrev pub with_ring : Orders → ℕ → List ℕ → Orders
with_ring f l xs k = if l == k then xs else f k

-- one stands in no ring any more
abbrev pub without_one : Orders → ℕ → Orders
without_one f one k = after_leave (f k) one

abbrev pub next_in : List ℕ → Option ℕ
next_in [] = None
next_in (x ∷ xs) = Some x

-- ---- what a node says

-- what there is of a number that isn't there
abbrev pub blank : Node
blank = record { used = false; first = None; last = None; ring = None; prev = None; next = None }

abbrev pub node_at : List Node → ℕ → Node
node_at ns k = get_or ns k blank

abbrev pub is_used : List Node → ℕ → Bool
is_used ns k = (node_at ns k).used

-- in which ring one stands
abbrev pub ring_of : List Node → ℕ → Option ℕ
ring_of ns k = (node_at ns k).ring

-- who comes after one in a ring, or first in it
abbrev pub next_at : List Node → ℕ → Option ℕ → Option ℕ
next_at ns l None = (node_at ns l).first
next_at ns l (Some x) = (node_at ns x).next

-- who comes before one in a ring, or last in it
abbrev pub prev_at : List Node → ℕ → Option ℕ → Option ℕ
prev_at ns l None = (node_at ns l).last
prev_at ns l (Some x) = (node_at ns x).prev

-- where that is written: in the one's node, or in the ring's
abbrev pub spot : ℕ → Option ℕ → ℕ
spot l None = l
spot l (Some x) = x

abbrev pub with_next : Option ℕ → Option ℕ → Node → Node
with_next None to n = record n { first = to }
with_next (Some x) to n = record n { next = to }

abbrev pub with_prev : Option ℕ → Option ℕ → Node → Node
with_prev None to n = record n { last = to }
with_prev (Some x) to n = record n { prev = to }

-- the one stands in a ring, or in none, between these
abbrev pub placed : Option ℕ → Option ℕ → Option ℕ → Node → Node
placed l p n node = record node { ring = l; prev = p; next = n }

-- both numbers are in use, and the one stands in no ring
abbrev pub may_enter : List Node → ℕ → ℕ → Bool
may_enter ns l one = is_used ns l && is_used ns one && is_none (ring_of ns one)

-- ---- which orders these are

pub record Stands (ns : List Node) (f : Orders) : Type 0 where
  -- the links of each ring go along its order
  pub linked : (l : ℕ) → Linked (next_at ns l) (prev_at ns l) None (f l)
  -- nobody stands there twice
  pub apart : (l : ℕ) → distinct (f l) ≡ true
  -- one stands in the ring that its node names, and in no other
  pub on : (l x : ℕ) → has x (f l) ≡ is_at l (ring_of ns x)
  -- nobody stands in a ring whose number isn't in use
  pub empty : (l : ℕ) → is_used ns l ≡ false → f l ≡ []

-- ---- numbers that nobody has

-- each number that there is is somebody's
abbrev pub AllUsed : List Node → Type 0
AllUsed ns = (k : ℕ) → k < length ns → is_used ns k ≡ true

-- there are as many numbers as before; or one more, where each was somebody's
abbrev pub GrowsAtNeed : List Node → List Node → Type 0
GrowsAtNeed ns us = (length us ≡ length ns) ⊎ (AllUsed ns × (length us ≡ length ns + 1))

-- a number that there is is nobody's
abbrev pub is_free : List Node → ℕ → Bool
is_free ns k = nat_lt k (length ns) && not (is_used ns k)

-- from one on, each of these names the next
abbrev pub Leads : List Node → Option ℕ → List ℕ → Type 0
Leads ns at [] = at ≡ None
Leads ns at (x ∷ xs) = (at ≡ Some x) × Leads ns (next_at ns x (Some x)) xs

-- The nodes stand for some orders. From the number that was given back last on they lead along all that nobody has, who stand in no ring.
pub record AreSound (ns : List Node) (free : Option ℕ) : Type 0 where
  pub orders : Orders
  pub stands : Stands ns orders
  pub back : List ℕ
  pub leads : Leads ns free back
  pub once : distinct back ≡ true
  pub all : (k : ℕ) → has k back ≡ is_free ns k
  pub nowhere : (k : ℕ) → is_used ns k ≡ false → ring_of ns k ≡ None

-- of who stands in no ring nothing is written, and it stands in none
abbrev pub StaysOut : List Node → List Node → ℕ → Type 0
StaysOut ns us k = (next_at us k (Some k) ≡ next_at ns k (Some k)) × (ring_of us k ≡ None)
