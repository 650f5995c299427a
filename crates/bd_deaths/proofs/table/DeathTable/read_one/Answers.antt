use Rattle.bd_deaths.proofs.Words.{DeathNotification, DeathsAre, Told, changed, eqb_turned, false, is_notification, is_some_and, refl, subst, sym, ◌==◌, ◌∙◌}
use Rattle.bd_deaths.proofs.Tests.{none, same_tests}
use Rattle.bd_deaths.proofs.table.DeathTable.read_one.Goals as goal

pub returns-in-None-clause-stands : goal.returns-in-None-clause-stands
returns-in-None-clause-stands c = λ l h.
    let told = λ (x : DeathNotification). record x { phase = Told } in
    subst (λ d. DeathsAre c.args.self.now (changed (λ x. is_some_and d (λ n. n == x.made)) told l)) (sym c.in-None.is ∙ c.death_of.ensures)
    (subst (DeathsAre c.args.self.now) (sym (none told (λ x. false) l (λ x. refl))) h)

pub returns-in-Some-clause-stands : goal.returns-in-Some-clause-stands
returns-in-Some-clause-stands c = λ l h.
    let told = λ (x : DeathNotification). record x { phase = Told } in
    let made = c.in-Some.made in
    subst (λ d. DeathsAre c.set_phase.new.self (changed (λ x. is_some_and d (λ n. n == x.made)) told l)) (sym c.in-Some.is ∙ c.death_of.ensures)
    (subst (DeathsAre c.set_phase.new.self) (same_tests told (is_notification made) (λ x. made == x.made) l (λ x. eqb_turned x.made made)) (c.set_phase.ensures.stands l h))
