use Rattle.bd_objects.proofs.Words.{refl}
use Rattle.bd_objects.proofs.Homed.{plain_homed}
use Rattle.bd_objects.proofs.delivery.add_target.Goals as goal

pub returns-in-Some-clause-stands : goal.returns-in-Some-clause-stands
returns-in-Some-clause-stands c = λ objects l h here.
    rw (c.in-Some.is) (c.push.ensures.stands objects l (plain_homed c.args.records.now objects l h _ (here c.in-Some.o c.in-Some.is) (λ p. refl) (λ p. refl)) h)
