use Rattle.bd_step.proofs.Standing.{closed_up_stands}
use Rattle.bd_step.proofs.tables.Tables.close_up.Goals as goal

pub returns-clause-stands : goal.returns-clause-stands
returns-clause-stands c = λ s h. closed_up_stands c.args.self.now c.close_up.new.self s c.args.made h (c.close_up.ensures.stands s h.calls_stand h.own.steps_are)
