use Rattle.bd_step.proofs.Words.{OfThread, Refusal, TransactionComplete, closed, owe, reply_refused}
use Rattle.bd_step.proofs.tables.Tables.refuse_reply.Goals as goal

pub returns-clause-stands : goal.returns-clause-stands
unfolding reply_refused
returns-clause-stands c = λ n s h.
    let told = owe s (OfThread c.args.seat) (Refusal TransactionComplete) in
    c.tell_caller.ensures.stands n (closed told c.args.f.made) (c.close.ensures.stands n told (c.owe.ensures.stands n s h))
