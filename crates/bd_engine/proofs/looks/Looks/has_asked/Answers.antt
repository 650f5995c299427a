use Rattle.bd_engine.proofs.{Asked.{asked}, Words.{ap, is_ok, space_after, ◌∙◌}}
use Rattle.bd_engine.proofs.looks.Looks.has_asked.Goals as goal

pub returns : goal.returns
returns g c = g.Self.HasTables.concludes _ _ _
    (λ h stands.
    let s = space_after h in
    c.is_ok.ensures.value ∙ ap is_ok (c.drop_check.ensures s stands.objects_stand) ∙ asked s c.args.process c.args.number c.args.strong)
    c.tables.ensures
