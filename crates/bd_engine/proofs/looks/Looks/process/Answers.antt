use Rattle.bd_engine.proofs.Words.{space_after}
use Rattle.bd_engine.proofs.looks.Looks.process.Goals as goal

pub returns : goal.returns
returns g c = g.Self.HasTables.concludes _ _ _ (λ h stands. c.process.ensures.found _ (space_after h) stands) c.tables.ensures
