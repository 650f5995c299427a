use Rattle.std.proofs.Common.{[], map}
use Rattle.bd_player.specs.Piles.{ArePiles}
use Rattle.bd_player.proofs.threads.bare_piles.Given as goal

abbrev pub invariant-loop-made : goal.invariant-loop-made
invariant-loop-made l = ArePiles l.made [] (map (λ p. p.items) l.piles.items)
