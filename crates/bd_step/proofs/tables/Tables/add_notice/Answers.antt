use Rattle.bd_step.proofs.{Words.{List, Object, Space, StandsAt, Work, ap, find_in, is_some, object_in, same, same_eq, subst, sym, true, wants_notice, ◌∙◌}, Changing.{with_calls}, Deliveries.{wanted_object, notice_added}, FollowingObjects.{owner_wanted}}
use Rattle.bd_step.proofs.tables.Tables.add_notice.Goals as goal

pub returns-then-is_some-clause-stands : goal.returns-then-is_some-clause-stands
returns-then-is_some-clause-stands c = λ n s h.
    let x = c.args.x.now in
    let due = sym (c.owner_to_tell-owner.ensures s h.objects_stand h.own.processes_are) in
    let some = ap is_some due ∙ sym c.is_some.ensures ∙ c.if-is_some.true in
    let y = wanted_object (object_in s.objects x.object) (wants_notice s.processes s.references) (owner_wanted (object_in s.objects x.object) (wants_notice s.processes s.references) true some) in
    let found = find_in (λ (z : Object). same z.id x.object) y.0 s.objects y.1 in
    let own = sym c.is_own.ensures ∙ c.if-not-is_own.false in
    let added = ap (λ (ws : List Work). let z : Space = record s { todo = ws } in z) (notice_added s c.args.seat s.todo x y.0 own y.1) in
    subst (StandsAt n _) added
    (with_calls n _ s c.add_notice.new.self s.threads s.frames _ h
    (c.add_notice.ensures.stands s y.0 h.calls_stand h.own.steps_are (same_eq y.0.id x.object found.1) (sym y.2)))
