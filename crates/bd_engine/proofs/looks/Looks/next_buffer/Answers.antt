use Rattle.bd_engine.proofs.Words.{space_after, stands_in}
use Rattle.bd_engine.proofs.looks.Looks.next_buffer.Goals as goal

pub returns : goal.returns
returns g c = g.Self.HasTables.concludes _ _ _
    (λ h stands. c.next_from.ensures (space_after h) (stands_in c.tables.result.now.windows (space_after h) stands.windows_stand)) c.tables.ensures
