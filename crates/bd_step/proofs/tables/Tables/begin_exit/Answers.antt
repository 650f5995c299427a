use Rattle.bd_step.proofs.Words.{HasProcess, subst, ◌∙◌}
use Rattle.bd_step.proofs.tables.Tables.begin_exit.Goals as goal

pub returns-clause-has : goal.returns-clause-has
returns-clause-has c = λ s h.
    subst (λ seats. HasProcess c.in_ok-exit.exit s seats c.args.p) (c.as_slice.ensures.value ∙ c.in_ok-seats.ensures.seats s h.calls_stand) (c.in_ok-exit.ensures.has s h)
