use Rattle.bd_step.proofs.Telling.{told_stands}
use Rattle.bd_step.proofs.tables.Tables.tell_caller.Goals as goal

pub returns-clause-stands : goal.returns-clause-stands
returns-clause-stands c = λ n s h. told_stands n c.args.self.now c.tell_caller.new.self s c.args.f c.args.kind h (c.tell_caller.ensures.stands s h.calls_stand h.own.steps_are)
