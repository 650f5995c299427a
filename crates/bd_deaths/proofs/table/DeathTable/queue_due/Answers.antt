use Rattle.bd_deaths.proofs.Words.{DeathsAre, YieldsList-at, YieldsList-end, YieldsList-from_first, ap, map-id, queued_on, refl, subst, sym, uses_none, uses_then, ◌∙◌}
use Rattle.bd_deaths.proofs.Queueing.{all_queued, more_queued, none_queued}
use Rattle.bd_deaths.proofs.table.DeathTable.queue_due.Goals as goal

pub loop-o-init : goal.loop-o-init
loop-o-init c = record {
  so_far = λ xs h. subst (DeathsAre c.args.self.now) (sym (none_queued xs)) h;
  uses = uses_none c.args.self.now;
}

pub loop-o-preserved : goal.loop-o-preserved
loop-o-preserved c = record {
  so_far = λ xs h. subst (DeathsAre c.queue_on.new.self) (more_queued c.loop-o.yielded c.in-Some.o xs) (c.queue_on.ensures.stands _ (c.loop-o.invariant.so_far xs h));
  uses = uses_then c.loop-o.invariant.uses c.queue_on.ensures.uses;
}

pub returns-clause-stands : goal.returns-clause-stands
returns-clause-stands c = λ objects l n h.
    let road = YieldsList-end (YieldsList-at c.into_iter-o-iterator.ensures.into_iter_gives (YieldsList-from_first (λ x. x) (λ s. s) _ refl))
    c.loop-o.yielded _ c.loop-o.yielded_by _ _ c.in-None.is c.next.ensures.steps in
    let all = sym (map-id c.loop-o.yielded) ∙ road.0 ∙ c.listed-o-items.ensures objects n.0 n.1 in
    subst (DeathsAre c.loop-o.self) (ap (λ os. queued_on os l) all ∙ all_queued objects c.args.p c.args.self.now l h) (c.loop-o.invariant.so_far l h)
