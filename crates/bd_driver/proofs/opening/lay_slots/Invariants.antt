use Rattle.bd_driver.proofs.Words.{Empty, Home, replicate, ◌∷◌, ◌≡◌}
use Rattle.bd_driver.proofs.opening.lay_slots.Given as goal

abbrev pub invariant-loop-done : goal.invariant-loop-done
invariant-loop-done l = l.slots.items ≡ Home l.fn.engine ∷ replicate l.done Empty
