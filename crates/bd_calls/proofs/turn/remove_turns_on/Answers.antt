use Rattle.std.proofs.Common.{◌∙◌, ap, rules, refl, sym, subst, filter}
use Rattle.bd_turns.specs.Stands.{TurnsAre}
use Rattle.bd_ways.proofs.Ranges.{all_stay}
use Rattle.bd_calls.proofs.Losing.{is_other_than, left, left_on}
use Rattle.bd_calls.proofs.turn.remove_turns_on.Goals as goal

pub loop-work-preserved-in-Some-hands_out : goal.loop-work-preserved-in-Some-hands_out
loop-work-preserved-in-Some-hands_out c = record {
  turns = λ t rest. c.loop-work.invariant.turns t (rw c.in-Some.ensures.steps (λ ts are. rest _
      (subst (λ o. TurnsAre c.remove.new.self (filter (is_other_than o) ts)) (sym c.in-Some-hands_out.is ∙ c.hands_out.ensures) (c.remove.ensures.stands ts are))));
  uses = search rules;
}

pub loop-work-preserved : goal.loop-work-preserved
loop-work-preserved c = record {
  turns = λ t rest. c.loop-work.invariant.turns t (rw c.in-Some.ensures.steps (λ ts are. rest _
      (subst (λ o. TurnsAre c.loop-work.turns (filter (is_other_than o) ts)) (sym c.in_default.is ∙ c.hands_out.ensures)
      (subst (TurnsAre c.loop-work.turns) (sym (all_stay _ (λ t. refl) ts)) are))));
  uses = search rules;
}

pub returns-clause-turns : goal.returns-clause-turns
returns-clause-turns c = λ works are ts stands.
    subst (TurnsAre c.loop-work.turns) (ap (λ ws. left ws ts) (c.into_iter-work-iterator.ensures.into_iter_gives ∙ c.works_on-work-items.ensures works are) ∙ left_on works c.args.list ts)
    (c.loop-work.invariant.turns _ (rw c.in-None.ensures.steps.0 (λ us here. here)) ts stands)
