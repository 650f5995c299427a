use Rattle.bd_engine.proofs.{Handles.{next_of, none_of_nobody}, Words.{space_after, sym, ◌∙◌}}
use Rattle.bd_engine.proofs.looks.Looks.next_handle.Goals as goal

pub returns-in-Some : goal.returns-in-Some
returns-in-Some g c = g.Self.HasTables.concludes _ _ _
    (λ h stands.
    let s = space_after h in
    next_of s c.args.pid c.args.from c.in-Some.q c.next_number.result (sym c.in-Some.is ∙ c.with_pid.ensures s.processes stands.own.processes_are)
    (c.next_number.ensures s stands.objects_stand))
    c.tables-tables.ensures

pub returns-in-None : goal.returns-in-None
returns-in-None g c = g.Self.HasTables.concludes _ _ _
    (λ h stands.
    let s = space_after h in
    none_of_nobody s c.args.pid c.args.from (sym c.in-None.is ∙ c.with_pid.ensures s.processes stands.own.processes_are))
    c.tables-tables.ensures
