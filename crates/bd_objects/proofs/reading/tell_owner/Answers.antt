use Rattle.bd_objects.proofs.Words.{RecordsAre, arith, subst}
use Rattle.bd_objects.proofs.Owners.{told_nobody, told_one}
use Rattle.bd_objects.proofs.reading.tell_owner.Goals as goal

pub returns-in-Some-clause-stands : goal.returns-in-Some-clause-stands
returns-in-Some-clause-stands c = λ objects l h.
    rw (← c.in-Some.ensures) (subst (λ xs. RecordsAre c.set_told.new.self xs l)
    (told_one l c.in-Some.o _ _ objects (c.hold-hold.ensures.held objects l h) (c.hold-hold.ensures.strong objects l h)) (c.set_told.ensures.stands objects l h))

pub returns-in-None : goal.returns-in-None
returns-in-None c = record {
  stands = λ objects l h. rw (← c.in-None.ensures) (subst (λ xs. RecordsAre c.args.records.now xs l) (told_nobody l objects) h);
  names = λ names n. n;
  uses = record { objects_fit = omega arith; references_fit = omega arith; names_fit = λ q. omega arith };
}
