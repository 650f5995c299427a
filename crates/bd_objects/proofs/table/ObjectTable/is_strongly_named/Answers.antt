use Rattle.bd_objects.proofs.Words.{sym, ◌∙◌}
use Rattle.bd_objects.proofs.table.ObjectTable.is_strongly_named.Goals as goal

pub returns-then-not-owns : goal.returns-then-not-owns
returns-then-not-owns c = λ s h.
    let other = sym (c.owns.ensures s.objects s.references h.records_are) ∙ c.if-not-owns.true in
    rw other (c.refers_strongly.ensures s.objects s.references h.records_are other)
