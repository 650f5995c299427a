use Rattle.bd_step.proofs.{Words.{Bool, DeathNotification, Space, Within, cleared, death_ended, if◌then◌else◌, mark_cleared, subst, ℕ, ◌+◌}, Changing.{with_objects}}
use Rattle.bd_step.proofs.tables.Tables.clear_request.Goals as goal

-- the notification is cleared, by whether it is queued or told
abbrev cleared_if : Space → ℕ → DeathNotification → Bool → Space
cleared_if s seat x out = if out then mark_cleared s x.made else death_ended s seat x

pub returns-then-is_out-clause-stands : goal.returns-then-is_out-clause-stands
unfolding cleared mark_cleared
returns-then-is_out-clause-stands c = λ s h.
    let t = c.args.self.now in
    subst (λ out. Within (record t { objects = c.mark_cleared.new.self }) (cleared_if s c.args.seat c.args.x out)) c.if-is_out.ensures
    (with_objects (s.steps + 1) t s _ _ _ _ _ h (c.mark_cleared.ensures.stands s h.objects_stand))

pub returns-else-is_out-clause-stands : goal.returns-else-is_out-clause-stands
unfolding cleared
returns-else-is_out-clause-stands c = λ s h.
    subst (λ out. Within c.end_death.new.self (cleared_if s c.args.seat c.args.x out)) c.if-is_out.ensures (c.end_death.ensures.stands s h)
