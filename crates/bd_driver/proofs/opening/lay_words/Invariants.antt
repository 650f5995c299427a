use Rattle.bd_driver.proofs.Words.{replicate, ◌∷◌, ◌≡◌}
use Rattle.bd_driver.proofs.opening.lay_words.Given as goal

abbrev pub invariant-loop-done : goal.invariant-loop-done
invariant-loop-done l = l.words.items ≡ l.page ∷ replicate l.done 0
