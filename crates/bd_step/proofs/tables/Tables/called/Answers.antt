use Rattle.bd_step.proofs.Words.{Bool, Complete, OfThread, StandsAt, called, owe, subst, sym}
use Rattle.bd_step.proofs.tables.Tables.called.Goals as goal

pub returns-then-not-one_way-clause-stands : goal.returns-then-not-one_way-clause-stands
unfolding owe
returns-then-not-one_way-clause-stands c = λ n s h k.
    let z = owe s (OfThread c.args.seat) (Complete c.args.spam) in
    subst (λ (b : Bool). StandsAt n c.call_out.new.self (called z c.args.seat c.args.receiver b)) (sym c.if-not-one_way.true) (c.call_out.ensures.stands n z (c.owe.ensures.stands n s h) (record { stacked = k.stacked; before = k.before }))

pub returns-else-not-one_way-clause-stands : goal.returns-else-not-one_way-clause-stands
returns-else-not-one_way-clause-stands c = λ n s h k.
    let z = owe s (OfThread c.args.seat) (Complete c.args.spam) in
    subst (λ (b : Bool). StandsAt n c.owe.new.self (called z c.args.seat c.args.receiver b)) (sym c.if-not-one_way.false) (c.owe.ensures.stands n s h)
