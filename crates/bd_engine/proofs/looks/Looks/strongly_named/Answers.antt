use Rattle.bd_engine.proofs.Words.{space_after}
use Rattle.bd_engine.proofs.looks.Looks.strongly_named.Goals as goal

pub returns : goal.returns
returns g c = g.Self.HasTables.concludes _ _ _ (λ h stands. c.strongly_named.ensures (space_after h) stands.objects_stand) c.tables.ensures
