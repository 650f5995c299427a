use Rattle.bd_step.proofs.Words.{at_object, objects_go_of, shed_of}
use Rattle.bd_step.proofs.tables.Tables.follow_object.Goals as goal

pub returns-clause-stands : goal.returns-clause-stands
unfolding shed_of objects_go_of
returns-clause-stands c = λ s h.
    c.tell_owner.ensures.stands (shed_of (at_object c.args.o) s) (c.remove_unkept-owner.ensures.owner s h) (c.remove_unkept-owner.ensures.stands s h)
