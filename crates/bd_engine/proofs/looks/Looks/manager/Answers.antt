use Rattle.bd_engine.proofs.Words.{sym}
use Rattle.bd_engine.proofs.looks.Looks.manager.Goals as goal

pub returns : goal.returns
returns g c = g.Self.HasTables.concludes _ _ _ (λ h stands. sym stands.own.manager_is) c.tables.ensures
