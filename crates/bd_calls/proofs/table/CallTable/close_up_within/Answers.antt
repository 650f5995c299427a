use Rattle.std.proofs.Common.{◌≡◌, ◌-◌, ◌+◌, suc, sym, ◌∙◌, arith, rules}
use Rattle.bd_space.specs.Frames.{closed}
use Rattle.bd_calls.proofs.{Few.{few_both}, Closing.{closing_goes, closing_stays, closing_ends}}
use Rattle.bd_calls.proofs.table.CallTable.close_up_within.Goals as goal

pub loop-closed-preserved : goal.loop-closed-preserved
unfolding closed
loop-closed-preserved c = record {
  closing = λ due whole h.
      let i = c.loop-closed.closed in
      let f = c.in-Some-abandoned_at.frame in
      let left : c.args.most - i ≡ suc (c.args.most - (i + 1)) = omega (arith, c.loop-closed-test.true) in
      closing_goes _ _ _ _ _ c.in-Some.made f due whole left (λ s stands. sym c.in-Some-abandoned_at.is ∙ c.abandoned_at.ensures s.frames stands.frames_are)
      (λ s stands at. c.tell_caller.ensures.stands (closed s f.made) (c.close.ensures.stands s stands) at)
      (rw c.in-Some.is at c.loop-closed.invariant.closing due whole h);
  uses = search (rules, arith);
  told = λ told k. c.tell_caller.ensures.told told (c.close.ensures.told told (c.loop-closed.invariant.told told k));
  few = few_both _ _ _ _ _ _ (omega arith) c.loop-closed.invariant.few (few_both _ _ _ _ _ 1 (omega arith) c.close.ensures.few c.tell_caller.ensures.few);
}

pub returns-in_default-clause-closing : goal.returns-in_default-clause-closing
returns-in_default-clause-closing c = λ due whole h. rw c.in_default.is at c.loop-closed.invariant.closing due whole h

pub returns-in_default-abandoned_at-clause-closing : goal.returns-in_default-abandoned_at-clause-closing
returns-in_default-abandoned_at-clause-closing c = λ due whole h.
    closing_stays _ _ _ c.in-Some.made due whole (λ s stands. sym c.in_default-abandoned_at.is ∙ c.abandoned_at.ensures s.frames stands.frames_are)
    (rw c.in-Some.is at c.loop-closed.invariant.closing due whole h)

pub returns-clause-closing : goal.returns-clause-closing
returns-clause-closing c = λ due whole h. closing_ends _ _ _ _ due whole (omega arith) (c.loop-closed.invariant.closing due whole h)
