use Rattle.bd_engine.proofs.Words.{space_after}
use Rattle.bd_engine.proofs.looks.Looks.carried.Goals as goal

pub returns : goal.returns
returns g c = g.Self.HasTables.concludes _ _ _ (λ h stands. c.carried.ensures (space_after h) stands.objects_stand) c.tables.ensures
