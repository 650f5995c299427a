use Rattle.bd_step.proofs.{Words.{Within, [], ap, at_name, drop_asked, dropped_local, follow_of, is_among, subst, sym, ◌+◌, ◌∙◌, ◌∷◌}, Changing.{with_objects}, Following.{named_one}, FollowingObjects.{among_one}}
use Rattle.bd_step.proofs.tables.Tables.release_asked.Goals as goal

pub returns-clause-stands : goal.returns-clause-stands
unfolding drop_asked
returns-clause-stands c = λ s h tidy.
    let p = c.args.p in
    let o = c.args.o in
    let z = drop_asked s p o c.args.strong in
    subst (Within c.follow_among.new.self)
    (ap (λ a. follow_of a (is_among (o ∷ [])) z) (named_one p o) ∙ ap (λ b. follow_of (at_name p o) b z) (among_one o) ∙ sym (dropped_local s p o c.args.strong tidy.quiet))
    (c.follow_among.ensures.stands z
    (with_objects (s.steps + 1) c.args.self.now s _ _ _ _ _ h (c.drop_asked.ensures.stands s h.objects_stand)) tidy.before.objects.kept.in_order)
