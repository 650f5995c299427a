use Rattle.std.proofs.{Common.{arith, ◌+◌}, lemmas.Grind.{common_steps}}
use Rattle.bd_calls.proofs.marks.Marks.mark_lists_of.Goals as goal

pub loop-work-preserved : goal.loop-work-preserved
loop-work-preserved c = record {
  marked = λ list out. let now = c.mark.ensures.marked list out in grind (arith, common_steps, now, c.loop-work.invariant.marked list now.0);
  recalls = λ told k. c.mark.ensures.recalls told (c.loop-work.invariant.recalls told k);
  few = λ more room. c.mark.ensures.few more (c.loop-work.invariant.few (1 + more) (room.0, (let fits = room.1 in omega (arith, fits))));
}

pub returns-clause-few : goal.returns-clause-few
returns-clause-few c = λ more room. c.loop-work.invariant.few more (room.0, (let fits = room.1 in omega (arith, fits)))
