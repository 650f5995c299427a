use Rattle.bd_records.proofs.Words.{Identity, IfSome, ObjectRow, get, subst, sym, ◌∙◌, ◌≡◌}
use Rattle.bd_records.proofs.Naming.{shown_is}
use Rattle.bd_records.proofs.objects.Objects.row_of.Goals as goal

abbrev id : ObjectRow → Identity
id r = r.object.id

pub returns-clause-id : goal.returns-clause-id
returns-clause-id c =
    let t = c.args.self.now in
    subst (λ v. IfSome v (λ w. w.object.id ≡ c.args.o)) (sym c.row_in.ensures)
    (shown_is id (get t.rows c.in_ok-k.k) c.args.o (t.leads c.args.o c.in_ok-k.k (sym c.slot_of.ensures ∙ c.in_ok-k.was)))
