use Rattle.bd_engine.proofs.Words.{Buffer, Option, ap, is_none}
use Rattle.bd_engine.proofs.live.Live.is_gone.Goals as goal

pub returns-in-None : goal.returns-in-None
returns-in-None c = λ h follows. ap (λ (o : Option Buffer). is_none o) (c.in-None.ensures h follows)

pub returns-in-Some : goal.returns-in-Some
returns-in-Some c = λ h follows. ap (λ (o : Option Buffer). is_none o) (c.in-Some.ensures h follows)
