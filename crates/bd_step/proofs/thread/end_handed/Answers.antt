use Rattle.bd_step.proofs.{Words.{List, StandsFor, StandsIn, Work, rules, subst, without_all_handed}, Handed.{going_begins, going_next, going_ends, uses_then}}
use Rattle.bd_step.proofs.thread.end_handed.Goals as goal

pub loop-work-init : goal.loop-work-init
loop-work-init c = record {
  objects = λ s h. going_begins (StandsFor _) s _ h;
  windows = λ s h. going_begins (StandsIn _) s _ h;
  uses = search rules;
}

pub loop-work-preserved : goal.loop-work-preserved
loop-work-preserved c = record {
  objects = λ s h. going_next _ (StandsFor _) c.in-Some.work _ _ _ c.in-Some.ensures.steps c.end_buffer_of.ensures.objects (c.loop-work.invariant.objects s h);
  windows = λ s h. going_next _ (StandsIn _) c.in-Some.work _ _ _ c.in-Some.ensures.steps c.end_buffer_of.ensures.windows (c.loop-work.invariant.windows s h);
  uses = uses_then _ _ _ c.loop-work.invariant.uses c.end_buffer_of.ensures.uses;
}

pub returns-clause-objects : goal.returns-clause-objects
returns-clause-objects c = λ s h.
    subst (λ (ws : List Work). StandsFor c.loop-work.objects (without_all_handed s ws)) c.into_iter-work-iterator.ensures.into_iter_gives
    (going_ends (StandsFor _) _ _ c.in-None.ensures.steps.0 (c.loop-work.invariant.objects s h))

pub returns-clause-windows : goal.returns-clause-windows
returns-clause-windows c = λ s h.
    subst (λ (ws : List Work). StandsIn c.loop-work.windows (without_all_handed s ws)) c.into_iter-work-iterator.ensures.into_iter_gives
    (going_ends (StandsIn _) _ _ c.in-None.ensures.steps.0 (c.loop-work.invariant.windows s h))
