use Rattle.bd_step.proofs.Words.{Armed, Bool, Death, Identity, OfProcess, Queued, Space, Within, if◌then◌else◌, owe, requested, subst, with_death, ℕ}
use Rattle.bd_step.proofs.tables.Tables.add_request.Goals as goal

-- the notification that comes in, by whether the owner lives
abbrev requested_if : Space → ℕ → Identity → ℕ → Bool → Space
requested_if s p o cookie lives =
    if lives then with_death s p o cookie Armed else owe (with_death s p o cookie Queued) (OfProcess p) (Death s.steps)

pub returns-then-owner_lives-clause-stands : goal.returns-then-owner_lives-clause-stands
unfolding requested
returns-then-owner_lives-clause-stands c = λ s h new.
    subst (λ lives. Within c.add_death.new.self (requested_if s c.args.p c.args.o c.args.cookie lives))
    (c.if-owner_lives.ensures s h.objects_stand h.own.processes_are) (c.add_death.ensures.stands s h new)

pub returns-else-owner_lives-clause-stands : goal.returns-else-owner_lives-clause-stands
unfolding requested
returns-else-owner_lives-clause-stands c = λ s h new.
    subst (λ lives. Within c.add_told_death.new.self (requested_if s c.args.p c.args.o c.args.cookie lives))
    (c.if-owner_lives.ensures s h.objects_stand h.own.processes_are) (c.add_told_death.ensures.stands s h new)
