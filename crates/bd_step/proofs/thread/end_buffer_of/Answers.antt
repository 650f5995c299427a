use Rattle.bd_step.proofs.Words.{StandsFor, StandsIn, subst, sym, without_any, ◌∙◌}
use Rattle.bd_step.proofs.thread.end_buffer_of.Goals as goal

pub returns-in-Some-clause-objects : goal.returns-in-Some-clause-objects
returns-in-Some-clause-objects c = λ s h.
    subst (λ o. StandsFor c.without_buffer.new.self (without_any s o)) (sym c.in-Some.is ∙ c.hands_out.ensures) (c.without_buffer.ensures.stands s h)

pub returns-in-Some-clause-windows : goal.returns-in-Some-clause-windows
returns-in-Some-clause-windows c = λ s h.
    subst (λ o. StandsIn c.free.new.self (without_any s o)) (sym c.in-Some.is ∙ c.hands_out.ensures) (c.free.ensures s h)

pub returns-in_default-clause-objects : goal.returns-in_default-clause-objects
returns-in_default-clause-objects c = λ s h.
    subst (λ o. StandsFor c.args.objects.now (without_any s o)) (sym c.in_default.is ∙ c.hands_out.ensures) h

pub returns-in_default-clause-windows : goal.returns-in_default-clause-windows
returns-in_default-clause-windows c = λ s h.
    subst (λ o. StandsIn c.args.windows.now (without_any s o)) (sym c.in_default.is ∙ c.hands_out.ensures) h
