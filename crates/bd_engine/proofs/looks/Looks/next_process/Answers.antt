use Rattle.bd_engine.proofs.Words.{Process, ap, option_map, space_after, sym, ◌∙◌}
use Rattle.bd_engine.proofs.looks.Looks.next_process.Goals as goal

pub returns-in-Some : goal.returns-in-Some
returns-in-Some g c = g.Self.HasTables.concludes _ _ _
    (λ h stands. ap (option_map (λ (q : Process). q.made)) (sym c.in-Some.is ∙ c.next_from.ensures (space_after h).processes stands.own.processes_are)) c.tables.ensures

pub returns-in-None : goal.returns-in-None
returns-in-None g c = g.Self.HasTables.concludes _ _ _
    (λ h stands. ap (option_map (λ (q : Process). q.made)) (sym c.in-None.is ∙ c.next_from.ensures (space_after h).processes stands.own.processes_are)) c.tables.ensures
