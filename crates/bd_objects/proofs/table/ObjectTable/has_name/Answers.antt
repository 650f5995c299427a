use Rattle.bd_objects.proofs.Words.{Name, any_is_some, ap, has_object, is_some, sym, ◌∙◌}
use Rattle.bd_objects.proofs.table.ObjectTable.has_name.Goals as goal

pub returns : goal.returns
returns c = λ s h.
    c.is_some.ensures ∙ ap is_some (c.name_number.ensures s.names h.names_are.stands) ∙ sym (any_is_some (λ (m : Name). m.number) (has_object c.args.p c.args.o) s.names)
