use Rattle.bd_step.proofs.{Words.{Bool, Identity, ObjectTable, Option, Space, Tables, Within, ap, at_object, is_some, is_some_and, not, object_in, objects_go_of, owner_due, shed_of, subst, sym, wants_notice, ℕ, ◌+◌, ◌∙◌, ◌≡◌}, Changing.{with_objects, with_calls}, FollowingObjects.{shed_wanted, shed_unwanted, owner_wanted}}
use Rattle.bd_objects.specs.Stands as objects
use Rattle.bd_step.proofs.tables.Tables.remove_unkept.Goals as goal

-- the object went where nothing keeps it
gone : (t : Tables) (table : ObjectTable) (o : Identity) (s : Space) → Within t s → objects.StandsFor table (objects_go_of (at_object o) s)
    → Within (record t { objects = table }) (objects_go_of (at_object o) s)
unfolding objects_go_of
gone t table o s h k = with_objects (s.steps + 1) t s table (objects_go_of (at_object o) s).objects s.references s.names s.deaths h k

-- there is an owner to tell exactly where a Notice is wanted
wants : (o : Identity) (s : Space) (owner : Option ℕ) (b : Bool) → owner ≡ owner_due s (object_in (objects_go_of (at_object o) s).objects o) → is_some owner ≡ b
    → is_some_and (object_in (objects_go_of (at_object o) s).objects o) (wants_notice s.processes s.references) ≡ b
wants o s owner b due is = owner_wanted (object_in (objects_go_of (at_object o) s).objects o) (wants_notice s.processes s.references) b (sym (ap is_some due) ∙ is)

pub returns-then-is_none-clause-stands : goal.returns-then-is_none-clause-stands
unfolding objects_go_of
returns-then-is_none-clause-stands c = λ s h.
    let o = c.args.o in
    let k = c.remove_unused_object-owner.ensures in
    let here = objects_go_of (at_object o) s in
    let none = wants o s _ _ (k.owner s h.objects_stand h.own.processes_are) (c.is_none.ensures ∙ ap not c.if-is_none.true) in
    subst (Within _) (sym (shed_unwanted o s none))
    (with_calls (s.steps + 1) _ here c.withdraw_notice.new.self here.threads here.frames _ (gone _ _ o s h (k.stands s h.objects_stand h.own.processes_are))
    (c.withdraw_notice.ensures.stands s h.calls_stand))

pub returns-then-is_none-clause-owner : goal.returns-then-is_none-clause-owner
unfolding shed_of
returns-then-is_none-clause-owner c = λ s h. c.remove_unused_object-owner.ensures.owner s h.objects_stand h.own.processes_are

pub returns-else-is_none-clause-stands : goal.returns-else-is_none-clause-stands
returns-else-is_none-clause-stands c = λ s h.
    let o = c.args.o in
    let k = c.remove_unused_object-owner.ensures in
    let wanted = wants o s _ _ (k.owner s h.objects_stand h.own.processes_are) (c.is_none.ensures ∙ ap not c.if-is_none.false) in
    subst (Within _) (sym (shed_wanted o s wanted)) (gone _ _ o s h (k.stands s h.objects_stand h.own.processes_are))

pub returns-else-is_none-clause-owner : goal.returns-else-is_none-clause-owner
unfolding shed_of
returns-else-is_none-clause-owner c = λ s h. c.remove_unused_object-owner.ensures.owner s h.objects_stand h.own.processes_are
