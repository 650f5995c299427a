use Rattle.bd_step.proofs.{Words.{looping_local, refl, with_looping, ◌+◌}, Accepting.{accepts_alone}, Changing.{with_calls}, Meeting.{taken_step}}
use Rattle.bd_step.proofs.tables.Tables.set_looping.Goals as goal

pub returns-clause-step : goal.returns-clause-step
unfolding with_looping
returns-clause-step c = taken_step _ _ _ _ _ (
    accepts_alone c.args.self.now c.args.self.now _ _ _ (λ s. with_looping s c.args.actor.thread.seat c.args.looping) (λ s h. h)
    (λ s h by w. with_calls (s.steps + 1) c.args.self.now s _ _ _ _ w (c.set_looping.ensures.stands s w.calls_stand))
    (λ s h by. looping_local s c.args.actor.thread.seat c.args.looping by.tidy.quiet) (λ s h by. refl))
