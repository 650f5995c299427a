use Rattle.std.proofs.Common.{nat_le, find, ap, sym, subst, ◌∙◌}
use Rattle.bd_space.specs.declared.space.Process.{Process}
use Rattle.bd_processes.specs.Order.{IsRising}
use Rattle.bd_processes.proofs.table.ProcessTable.next_from.Goals as goal

pub returns : goal.returns
returns c = λ ps h.
    let same = c.as_slice.ensures.value ∙ h.items_are in
    c.first_from.ensures (subst IsRising (sym same) h.rising) ∙ ap (find (λ (q : Process). nat_le c.args.from q.made)) same
