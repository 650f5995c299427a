use Rattle.std.proofs.Common.{arith}
use Rattle.std.proofs.lemmas.Grind.{common_steps}
use Rattle.bd_bridge.proofs.reach.mark_reached.Goals as goal

pub loop-list-preserved : goal.loop-list-preserved
loop-list-preserved c = record {
  named = λ t w waits among. grind (arith, common_steps, c.mark_readers.ensures.named t w waits, c.mark_readers.ensures.kept t, c.loop-list.invariant.named t w waits, c.deref-list-items.ensures.value);
  kept = λ t is. grind (arith, common_steps, c.mark_readers.ensures.kept t, c.loop-list.invariant.kept t);
}

pub returns-clause-named : goal.returns-clause-named
returns-clause-named c = λ t w waits among. grind (arith, common_steps, c.loop-list.invariant.named t w waits, c.deref-list-items.ensures.value)
