use Rattle.bd_buffers.proofs.Words.{arith, is_free_unit, refl, []}
use Rattle.bd_buffers.proofs.Kept.{window_empty}
use Rattle.bd_buffers.proofs.window.Window.new.Goals as goal

pub invariant_of-result : goal.invariant_of-result
invariant_of-result c =
    let tiles = c.new-4.ensures.tiles (is_free_unit []) (λ u. refl) in let size = c.new-4.ensures.size in rw c.new.ensures (search (arith, window_empty))
