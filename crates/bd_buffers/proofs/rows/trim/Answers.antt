use Rattle.bd_buffers.proofs.Words.{ap, arith, ends_empty, sym, ◌∙◌}
use Rattle.bd_buffers.proofs.Live.{popped}
use Rattle.bd_buffers.proofs.rows.trim.Goals as goal

pub loop-rows-preserved : goal.loop-rows-preserved
loop-rows-preserved c =
    let is = c.loop-rows.invariant in
    let left = popped c.loop-rows.rows.items c.pop.new.self.items c.pop.result is.in_order (sym (c.is_end_empty.ensures ∙ ap ends_empty c.deref.ensures.value) ∙ c.loop-rows-test.true) c.pop.ensures.items in
    record { same = left.0 ∙ is.same; in_order = left.1; len = omega (arith, is.len); capacity = omega (arith, is.capacity) }
