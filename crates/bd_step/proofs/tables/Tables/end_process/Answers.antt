use Rattle.bd_step.proofs.{Words.{Within, fold, subst, thread_goes, threads_go, ◌∙◌}, Owing.{still_due}}
use Rattle.bd_step.proofs.tables.Tables.end_process.Goals as goal

pub returns-clause-stands : goal.returns-clause-stands
unfolding threads_go
returns-clause-stands c = λ s h seats due.
    let gone = subst (λ ts. Within c.threads_go.new.self (fold thread_goes s ts)) seats (c.threads_go.ensures.stands s h) in
    c.tell_deaths.ensures.stands _ (c.without_process.ensures.stands _ gone) (due ∙ still_due s c.args.p)
