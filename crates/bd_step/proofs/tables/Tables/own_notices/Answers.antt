use Rattle.bd_step.proofs.Words.{fold, own_notices, withdraw_notice}
use Rattle.bd_step.proofs.tables.Tables.own_notices.Goals as goal

pub returns-clause-stands : goal.returns-clause-stands
unfolding own_notices
returns-clause-stands c = λ n s h. c.add_notices.ensures.stands n (record s { todo = fold (withdraw_notice s.objects) s.todo c.args.items.now }) (c.withdraw_notices.ensures.stands n s h)
