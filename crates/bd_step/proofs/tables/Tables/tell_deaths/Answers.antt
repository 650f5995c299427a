use Rattle.bd_step.proofs.{Words.{DeathNotification, List, Within, owed, subst}, Owing.{told_stands}}
use Rattle.bd_step.proofs.tables.Tables.tell_deaths.Goals as goal

pub returns-clause-stands : goal.returns-clause-stands
returns-clause-stands c = λ s h due.
    let owing = subst (λ (xs : List DeathNotification). Within c.owe_deaths.new.self (owed s xs)) due (c.owe_deaths.ensures.stands s h) in
    told_stands c.owe_deaths.new.self _ s c.args.p owing (c.tell_deaths.ensures.stands s owing.objects_stand)
