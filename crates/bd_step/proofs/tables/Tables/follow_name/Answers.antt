use Rattle.bd_step.proofs.{Words.{at_name, names_followed, names_go_of, ◌+◌}, Changing.{with_objects}}
use Rattle.bd_step.proofs.tables.Tables.follow_name.Goals as goal

pub returns-clause-stands : goal.returns-clause-stands
unfolding names_go_of names_followed
returns-clause-stands c = λ s h. c.follow_deaths.ensures.stands (names_go_of (at_name c.args.p c.args.o) s)
    (with_objects (s.steps + 1) c.args.self.now s _ _ _ _ _ h (c.remove_unused_name.ensures.stands s h.objects_stand))
