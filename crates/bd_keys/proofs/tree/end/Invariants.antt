use Rattle.std.proofs.Common.{◌≡◌, ◌<◌, ◌+◌, ◌-◌, ◌/◌, ℕ, length}
use Rattle.bd_keys.specs.Walk.{node_at, end_from, end_of}
use Rattle.bd_keys.proofs.tree.end.Given as goal

abbrev pub invariant-loop-child : goal.invariant-loop-child
invariant-loop-child l = record {
  inside : l.at < length l.nodes;
  on_the_way : (f : ℕ) → f + (node_at l.nodes l.at).bit / 3 ≡ 44 → end_from l.nodes f l.at l.k ≡ end_of l.nodes l.k;
}

abbrev pub decreases-loop-child : goal.decreases-loop-child
decreases-loop-child l = 44 - (node_at l.nodes l.at).bit / 3
