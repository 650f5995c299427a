use Rattle.bd_buffers.proofs.Words.{arith, is_free_unit, refl, []}
use Rattle.bd_buffers.proofs.ground.Ground.clear.Goals as goal

pub returns-clause-kept : goal.returns-clause-kept
returns-clause-kept c = λ is. let tiles = c.clear.ensures.tiles (is_free_unit []) (is_free_unit []) is.notes.tiles (λ u. refl) in let size = c.clear.ensures.size in search arith
