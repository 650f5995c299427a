use Rattle.bd_step.proofs.{Words.{Within, ap, ask, ask_local, assign_numbers, follow_of, no_name, subst, sym, ◌+◌, ◌∙◌}, Changing.{with_objects}, FollowingObjects.{among_one}, New.{asks_for}, Standing.{numbers_completed}}
use Rattle.bd_step.proofs.tables.Tables.add_asked.Goals as goal

pub returns-in-Ok-clause-stands : goal.returns-in-Ok-clause-stands
unfolding ask assign_numbers
returns-in-Ok-clause-stands c = λ s h asks.
    let z = ask s c.args.p c.args.o c.args.strong in
    subst (Within c.follow_objects.new.self) (ap (λ b. follow_of no_name b z) (among_one c.args.o) ∙ sym (ask_local s c.args.p c.args.o c.args.strong asks.tidy.quiet))
    (c.follow_objects.ensures.stands z
    (with_objects (s.steps + 1) c.args.self.now s _ _ _ _ _ h (c.in-Ok.ensures.ok s h.objects_stand
    (asks_for s _ _ c.args.p c.args.o c.args.strong h.own.steps_are h.own.manager_is asks))) asks.tidy.before.objects.kept.in_order)

pub returns-in-Err-clause-full : goal.returns-in-Err-clause-full
returns-in-Err-clause-full c = λ s h. numbers_completed (ask s c.args.p c.args.o c.args.strong)
    (c.in-Err.ensures.full s h.objects_stand (h.own.steps_are, h.own.manager_is))
