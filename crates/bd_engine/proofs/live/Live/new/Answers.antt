use Rattle.bd_engine.proofs.{Keeping.{follows_new}, Words.{Before, Tables, arith, opening, refl, subst, sym}}
use Rattle.bd_engine.proofs.live.Live.new.Goals as goal

pub returns-in-Ok-clause-follows : goal.returns-in-Ok-clause-follows
returns-in-Ok-clause-follows c =
    follows_new _ _ refl (omega arith) (omega arith) (subst (λ (t : Tables). Before t opening) (sym c.in-Ok.ensures.ok) c.new.ensures)
