use Rattle.bd_step.proofs.{Words.{Bool, DeathNotification, Done, Space, Within, death_done, death_ended, if◌then◌else◌, subst, sym, with_phase, ℕ, ◌+◌}, Changing.{with_objects}}
use Rattle.bd_step.proofs.tables.Tables.acknowledge_death.Goals as goal

-- the owner's end is known, by whether the notification was marked
abbrev done_if : Space → ℕ → DeathNotification → Bool → Space
done_if s seat x marked = if marked then death_ended s seat x else with_phase s x.made Done

pub returns-then-x-clause-stands : goal.returns-then-x-clause-stands
unfolding death_done
returns-then-x-clause-stands c = λ s h.
    subst (λ marked. Within c.end_death.new.self (done_if s c.args.seat c.args.x marked)) (sym c.if-x.true) (c.end_death.ensures.stands s h)

pub returns-else-x-clause-stands : goal.returns-else-x-clause-stands
unfolding death_done with_phase
returns-else-x-clause-stands c = λ s h.
    let t = c.args.self.now in
    subst (λ marked. Within (record t { objects = c.with_phase.new.self }) (done_if s c.args.seat c.args.x marked)) (sym c.if-x.false)
    (with_objects (s.steps + 1) t s _ _ _ _ _ h (c.with_phase.ensures.stands s h.objects_stand))
