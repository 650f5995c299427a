use Rattle.bd_engine.proofs.Words.{Process, ap, named, option_and_then, space_after, sym, ◌∙◌}
use Rattle.bd_engine.proofs.looks.Looks.named.Goals as goal

pub returns-in-Some : goal.returns-in-Some
returns-in-Some g c = g.Self.HasTables.concludes _ _ _
    (λ h stands.
    let s = space_after h in
    c.named.ensures s stands.objects_stand
    ∙ ap (option_and_then (λ (q : Process). named s q.made c.args.number)) (sym c.in-Some.is ∙ c.with_pid.ensures s.processes stands.own.processes_are))
    c.tables-tables.ensures

pub returns-in-None : goal.returns-in-None
returns-in-None g c = g.Self.HasTables.concludes _ _ _
    (λ h stands.
    let s = space_after h in
    ap (option_and_then (λ (q : Process). named s q.made c.args.number)) (sym c.in-None.is ∙ c.with_pid.ensures s.processes stands.own.processes_are))
    c.tables-tables.ensures
