use Rattle.bd_engine.proofs.Words.{space_after}
use Rattle.bd_engine.proofs.looks.Looks.first_reply.Goals as goal

pub returns : goal.returns
returns g c = g.Self.HasTables.concludes _ _ _ (λ h stands. c.first_reply.ensures (space_after h) stands.calls_stand) c.tables.ensures
