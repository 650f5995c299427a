use Rattle.std.proofs.Common.{◌≡◌, length}
use Rattle.std.specs.Vec.Iter.{into_iter_items, into_iter_len}
use Rattle.bd_player.proofs.Piles.{Goes}
use Rattle.bd_player.proofs.threads.piles_of.Given as goal

abbrev pub invariant-loop-line : goal.invariant-loop-line
invariant-loop-line l =
    (into_iter_len l.line-iterator ≡ length (into_iter_items l.line-iterator))
    × Goes (λ p. p.items) l.fn.script.seats l.fn.script.lines.items (into_iter_items l.line-iterator) l.piles.items
