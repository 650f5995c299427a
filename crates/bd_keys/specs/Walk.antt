-- The walk to a key, from node to node.
use Rattle.std.specs.Prelude.{ℕ, zero, suc, ◌+◌, ◌/◌, ◌%◌, ◌^◌, ◌==◌, cond, List, [], length, map, get_or, set, replicate, Option, Some, None}
use Rattle.bd_keys.specs.declared.key.WordKey.{WordKey}
use Rattle.bd_keys.specs.declared.node.Node.{Node}
use Rattle.bd_keys.specs.Keys.{same_word, spread}

abbrev pub blank : WordKey
blank = record { process = 0; word = 0 }

abbrev pub leaf : WordKey → ℕ → Node
leaf k n = record { key = k; bit = n; children = replicate 8 0 }

-- what a list of nodes has past its end
abbrev pub no_node : Node
no_node = record { key = blank; bit = 0; children = [] }

abbrev pub node_at : List Node → ℕ → Node
node_at ns i = get_or ns i no_node

abbrev pub keys : List Node → List WordKey
keys ns = map (λ n. n.key) ns

-- where a number goes from a node, by its three bits from the node's on
abbrev pub way : Node → ℕ → ℕ
way n x = x / 2 ^ n.bit % 8

abbrev pub toward : Node → ℕ → ℕ
toward n x = get_or n.children (way n x) 0

-- the node with a child there
abbrev pub linked : Node → ℕ → ℕ → Node
linked n x c = record n { children = set n.children (way n x) c }

-- the node after one: none at the key's own, and none where no more go that way
unfoldable pub next : List Node → ℕ → WordKey → Option ℕ
next ns i k =
    let c = toward (node_at ns i) (spread k) in
    cond (same_word (node_at ns i).key k) None (cond (c == 0) None (Some c))

abbrev pub onward : ℕ → (ℕ → ℕ) → Option ℕ → ℕ
onward i g None = i
onward i g (Some j) = g j

-- where the walk ends that goes on from a node, of so many steps at most
unfoldable pub end_from : List Node → ℕ → ℕ → WordKey → ℕ
end_from ns zero i k = i
end_from ns (suc f) i k = onward i (λ j. end_from ns f j k) (next ns i k)

unfoldable pub end_of : List Node → WordKey → ℕ
end_of ns k = end_from ns 44 0 k

-- the nodes once the next one, of this key, is linked to the one that it comes under
abbrev pub hung : List Node → WordKey → List Node
hung ns k = set ns (end_of ns k) (linked (node_at ns (end_of ns k)) (spread k) (length ns))

-- The node of a new key, whose bit is three further than that of the node it comes under.
abbrev pub hanging : List Node → WordKey → Node
hanging ns k = leaf k ((node_at ns (end_of ns k)).bit + 3)
