use Rattle.bd_step.proofs.Words.{Actor, Process, Thread, ap, option_map, sym, ◌∙◌}
use Rattle.bd_step.proofs.tables.Tables.actor_of.Goals as goal

abbrev with_process : Thread → Process → Actor
with_process t q = record { thread = t; process = q }

pub returns-in-Some-clause-found : goal.returns-in-Some-clause-found
returns-in-Some-clause-found c = λ n s h. ap (option_map (with_process c.args.thread)) (sym c.in-Some.is ∙ c.process.ensures.found n s h)

pub returns-in-None-clause-found : goal.returns-in-None-clause-found
returns-in-None-clause-found c = λ n s h. ap (option_map (with_process c.args.thread)) (sym c.in-None.is ∙ c.process.ensures.found n s h)
