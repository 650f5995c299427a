use Rattle.bd_step.proofs.Words.{Death, OfProcess, Queued, Within, owe, subst, sym, with_death}
use Rattle.bd_step.proofs.tables.Tables.add_told_death.Goals as goal

pub returns-clause-stands : goal.returns-clause-stands
returns-clause-stands c = λ s h new.
    let made = with_death s c.args.p c.args.o c.args.cookie Queued in
    subst (λ place. Within c.add_work.new.self (owe made (OfProcess c.args.p) (Death place))) (sym h.own.steps_are)
    (c.add_work.ensures.stands made (c.add_death.ensures.stands s h new))
