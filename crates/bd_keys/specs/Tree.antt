-- What is so of the nodes of a tree.
use Rattle.std.specs.Prelude.{ℕ, ◌≡◌, ◌≢◌, ◌+◌, ◌%◌, ◌^◌, ◌<◌, ◌≤◌, List, length}
use Rattle.bd_keys.specs.declared.node.Node.{Node}
use Rattle.bd_keys.specs.Keys.{spread}
use Rattle.bd_keys.specs.Walk.{node_at, toward, end_of}

-- the first n bits of two numbers are the same
abbrev pub Agree : ℕ → ℕ → ℕ → Type 0
Agree n x y = x % 2 ^ n ≡ y % 2 ^ n

-- a node as it stands among the others
pub record IsNode (ns : List Node) (n : Node) : Type 0 where
  -- a number has 128 bits, so those that agree up to here are the same
  pub bit : n.bit ≤ 130
  pub children : length n.children ≡ 8
  pub word : n.key.word < 2 ^ 64
  pub process : n.key.process < 2 ^ 64
  -- there is a node where a number goes to, three bits further
  pub within : (x : ℕ) → toward n x ≢ 0 → toward n x < length ns
  pub deeper : (x : ℕ) → toward n x ≢ 0 → (node_at ns (toward n x)).bit ≡ n.bit + 3
  -- A number that agrees with this node's key up to its bit, and goes on from here, agrees with the child's key up to the child's bit.
  pub agrees : (x : ℕ) → toward n x ≢ 0 → Agree n.bit (spread n.key) x
      → Agree (n.bit + 3) (spread (node_at ns (toward n x)).key) x

pub record IsTree (ns : List Node) : Type 0 where
  pub count : length ns ≤ 2 ^ 32
  pub root : (node_at ns 0).bit ≡ 0
  pub nodes : (i : ℕ) → i < length ns → IsNode ns (node_at ns i)
  -- the walk to a node's key ends at the node
  pub own : (i : ℕ) → i < length ns → end_of ns (node_at ns i).key ≡ i
