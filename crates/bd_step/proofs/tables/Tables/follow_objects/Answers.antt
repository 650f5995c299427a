use Rattle.bd_step.proofs.{Words.{Within, is_among, shed_of, subst, ◌∙◌}, FollowingObjects.{nobody_told, objects_followed, one_followed}}
use Rattle.bd_step.proofs.tables.Tables.follow_objects.Goals as goal

pub returns-then-touched-eq1-clause-stands : goal.returns-then-touched-eq1-clause-stands
returns-then-touched-eq1-clause-stands c = λ s h ordered.
    let os = c.args.touched.now in
    subst (Within c.follow_object.new.self) (one_followed os _ s c.if-touched-eq1.true ∙ objects_followed os s c.requires.in_order ordered) (c.follow_object.ensures.stands s h)

pub returns-then-remove_each_unkept-clause-stands : goal.returns-then-remove_each_unkept-clause-stands
returns-then-remove_each_unkept-clause-stands c = λ s h ordered.
    let os = c.args.touched.now in
    subst (Within c.notify_objects.new.self) (objects_followed os s c.requires.in_order ordered)
    (c.notify_objects.ensures.stands (shed_of (is_among os) s) (c.remove_each_unkept.ensures.stands s h))

pub returns-else-remove_each_unkept-clause-stands : goal.returns-else-remove_each_unkept-clause-stands
returns-else-remove_each_unkept-clause-stands c = λ s h ordered.
    let os = c.args.touched.now in
    let nobody = c.remove_each_unkept.ensures.nobody c.if-remove_each_unkept.false s h in
    subst (Within c.remove_each_unkept.new.self) (nobody_told os (shed_of (is_among os) s) nobody ∙ objects_followed os s c.requires.in_order ordered)
    (c.remove_each_unkept.ensures.stands s h)
