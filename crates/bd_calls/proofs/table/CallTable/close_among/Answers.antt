use Rattle.std.proofs.{Common.{ap, subst, sym, arith, rules}, lemmas.List.{drop_all, drop_more}, lemmas.List.Sorted.{IsNonDecreasingBy-from_sort}}
use Rattle.std.specs.Prelude.{length}
use Rattle.bd_calls.specs.{Closing.{close_due}, Room.{rooms}, Stands.{StandsFor}}
use Rattle.bd_calls.proofs.{Closing.{all_closed}, Few.{few_same, few_less, few_both}, InOrder.{among_in_order}}
use Rattle.bd_calls.proofs.table.CallTable.close_among.Goals as goal

pub loop-made-init : goal.loop-made-init
unfolding rooms
loop-made-init c = record {
  closing = λ s stands at.
      record { mid = s; stands = stands; at = at; goes_on = ap (λ n. close_due n c.sort_unstable.new.self s) (c.count-left.ensures.frames s.frames stands.frames_are) };
  left = omega (arith, c.count-left.ensures.count);
  uses = search (rules, arith);
  told = λ told k. k;
  few = few_same _ _;
}

pub loop-made-preserved : goal.loop-made-preserved
loop-made-preserved c =
    let before = c.loop-made.invariant in
    let after = c.close_up_within-left.ensures in
    record {
      closing = λ s stands at. after.closing _ _ (rw (drop_more c.sort_unstable.new.self c.loop-made.made-index 0 (omega arith)) at before.closing s stands at);
      left = omega (arith, before.left, after.left);
      uses = search (rules, arith);
      told = λ told k. after.told told (before.told told k);
      few = few_both _ _ _ _ _ _ (omega (arith, before.left, after.left)) before.few after.few;
    }

pub returns-clause-stands : goal.returns-clause-stands
returns-clause-stands c = λ s stands at.
    let sorted = c.sort_unstable.new.self in
    subst (StandsFor c.loop-made.self)
    (sym (among_in_order (length s.frames) s c.args.chosen.now sorted stands.frames_are.in_order (IsNonDecreasingBy-from_sort (λ x. x) sorted c.sort_unstable.ensures.sorted) c.sort_unstable.ensures.permutation))
    (all_closed _ _ _ _ _ (drop_all c.loop-made.made-index sorted (omega arith)) (c.loop-made.invariant.closing s stands at))

pub returns-clause-few : goal.returns-clause-few
returns-clause-few c = few_less _ _ _ _ (omega arith) c.loop-made.invariant.few
