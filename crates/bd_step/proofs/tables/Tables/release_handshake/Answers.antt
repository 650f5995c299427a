use Rattle.bd_step.proofs.{Words.{Within, acknowledge, acknowledged_local, ap, follow_of, no_name, subst, sym, ◌+◌, ◌∙◌}, Changing.{with_objects}, FollowingObjects.{among_one}}
use Rattle.bd_step.proofs.tables.Tables.release_handshake.Goals as goal

pub returns-clause-stands : goal.returns-clause-stands
unfolding acknowledge
returns-clause-stands c = λ s h tidy.
    let z = acknowledge s c.args.o c.args.strong in
    subst (Within c.follow_objects.new.self) (ap (λ b. follow_of no_name b z) (among_one c.args.o) ∙ sym (acknowledged_local s c.args.o c.args.strong tidy.quiet))
    (c.follow_objects.ensures.stands z
    (with_objects (s.steps + 1) c.args.self.now s _ _ _ _ _ h (c.acknowledge.ensures.stands s h.objects_stand)) tidy.before.objects.kept.in_order)
