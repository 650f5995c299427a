use Rattle.bd_step.proofs.{Words.{List, Object, Space, Within, Work, ap, find_in, object_in, same, same_eq, subst, sym, told_of, wants_notice, ◌+◌, ◌∙◌}, Changing.{with_calls}, FollowingObjects.{owner_told, told_owner, told_nobody}}
use Rattle.bd_step.proofs.tables.Tables.tell_owner.Goals as goal

pub returns-in-Some-clause-stands : goal.returns-in-Some-clause-stands
unfolding told_of
returns-in-Some-clause-stands c = λ s is h.
    let o = c.args.o in
    let t = owner_told (object_in s.objects o) (wants_notice s.processes s.references) c.in-Some.p (sym is ∙ c.in-Some.is) in
    let found = find_in (λ (x : Object). same x.id o) t.0 s.objects t.1 in
    let told = ap (λ (ws : List Work). let y : Space = record s { todo = ws } in y) (told_owner s s.todo o t.0 c.in-Some.p t.1 t.3) in
    subst (Within _) told
    (with_calls (s.steps + 1) _ s c.add_notice.new.self s.threads s.frames _ h
    (c.add_notice.ensures.stands s t.0 h.calls_stand h.own.steps_are (same_eq t.0.id o found.1) (sym t.2)))

pub returns-in_default-clause-stands : goal.returns-in_default-clause-stands
unfolding told_of
returns-in_default-clause-stands c = λ s is h.
    subst (Within _) (ap (λ (ws : List Work). let y : Space = record s { todo = ws } in y)
    (told_nobody s s.todo c.args.o (sym is ∙ c.in_default.is))) h
