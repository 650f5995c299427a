use Rattle.bd_step.proofs.Words.{actor, actor_of, ap, option_and_then, sym, ◌∙◌}
use Rattle.bd_step.proofs.tables.Tables.actor.Goals as goal

pub returns-in-Some-clause-found : goal.returns-in-Some-clause-found
unfolding actor
returns-in-Some-clause-found c = λ n s h. c.actor_of.ensures.found n s h ∙ ap (option_and_then (actor_of s)) (sym c.in-Some.is ∙ c.thread.ensures s h.calls_stand)
