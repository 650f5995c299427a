use Rattle.bd_step.proofs.Words.{Complete, OfThread, Reply, StandsAt, closed, false, owe, subst, sym, tell_caller, ℕ}
use Rattle.bd_step.proofs.tables.Tables.answered.Goals as goal

pub returns-clause-stands : goal.returns-clause-stands
unfolding owe closed
returns-clause-stands c = λ n s h.
    let z = owe (closed s c.args.f.made) (OfThread c.args.seat) (Complete false) in
    let k = c.owe.ensures.stands n (closed s c.args.f.made) (c.close.ensures.stands n s h) in
    subst (λ (m : ℕ). StandsAt n c.tell_caller.new.self (tell_caller z c.args.f (Reply m))) (sym k.own.steps_are) (c.tell_caller.ensures.stands n z k)
