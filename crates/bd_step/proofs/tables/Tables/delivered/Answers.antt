use Rattle.bd_step.proofs.Words.{delivered, with_carried}
use Rattle.bd_step.proofs.tables.Tables.delivered.Goals as goal

pub returns-in-Ok-clause-ok : goal.returns-in-Ok-clause-ok
unfolding delivered
returns-in-Ok-clause-ok c = λ s h sends. c.fill.ensures.stands (with_carried s c.args.delivery) (c.in-Ok.ensures.ok s h sends)
