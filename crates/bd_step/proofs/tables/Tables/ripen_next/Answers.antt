use Rattle.bd_step.proofs.{Words.{ripen_of, ◌+◌}, Changing.{with_calls}}
use Rattle.bd_step.proofs.tables.Tables.ripen_next.Goals as goal

pub returns-in-Some-clause-stands : goal.returns-in-Some-clause-stands
unfolding ripen_of
returns-in-Some-clause-stands c = λ s h. rw c.in-Some.is
    (with_calls (s.steps + 1) c.args.self.now s _ _ _ _ h (c.ripen_on.ensures.stands s h.calls_stand h.own.steps_are))
