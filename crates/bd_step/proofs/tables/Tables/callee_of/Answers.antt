use Rattle.bd_step.proofs.Stepping.{no_target, owner_dead, owner_lives}
use Rattle.bd_step.proofs.tables.Tables.callee_of.Goals as goal

pub returns-in-Err-clause-callee : goal.returns-in-Err-clause-callee
returns-in-Err-clause-callee c = λ n s h. no_target s c.args.p c.args.handle _ (c.in-Err.ensures n s h)

pub returns-in-None-clause-callee : goal.returns-in-None-clause-callee
returns-in-None-clause-callee c = λ n s h. owner_dead s c.args.p c.args.handle _ (c.in-Ok.ensures n s h) (c.in-None.ensures.owner n s h)

pub returns-in-Some-clause-callee : goal.returns-in-Some-clause-callee
returns-in-Some-clause-callee c = λ n s h. owner_lives s c.args.p c.args.handle _ _ (c.in-Ok.ensures n s h) (c.in-Some.ensures.owner n s h)
