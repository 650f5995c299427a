use Rattle.std.proofs.Common.{subst}
use Rattle.bd_todo.specs.Stands.{WorksAre}
use Rattle.bd_todo.proofs.WorksStand.{death_goes}
use Rattle.bd_todo.proofs.table.WorkTable.withdraw_death.Goals as goal

pub returns-clause-stands : goal.returns-clause-stands
returns-clause-stands c = λ l h. subst (WorksAre c.withdraw-had.new.self) (death_goes c.args.made l) (c.withdraw-had.ensures.stands l h)
