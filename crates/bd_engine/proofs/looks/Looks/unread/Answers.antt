use Rattle.bd_engine.proofs.Words.{space_after}
use Rattle.bd_engine.proofs.looks.Looks.unread.Goals as goal

pub returns : goal.returns
returns g c = g.Self.HasTables.concludes _ _ _ (λ h stands. c.works_on.ensures (space_after h) stands.calls_stand) c.tables.ensures
