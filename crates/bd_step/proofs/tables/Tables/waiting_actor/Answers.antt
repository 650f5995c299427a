use Rattle.bd_step.proofs.Words.{actor, ap, option_and_then, sym, ◌∙◌}
use Rattle.bd_step.proofs.tables.Tables.waiting_actor.Goals as goal

pub returns-in-Some-clause-found : goal.returns-in-Some-clause-found
returns-in-Some-clause-found c = λ s h. c.actor.ensures.found s.steps s h ∙ ap (option_and_then (actor s)) (sym c.in-Some.is ∙ c.waiting_seat.ensures s h)
