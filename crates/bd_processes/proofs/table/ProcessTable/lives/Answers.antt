use Rattle.std.proofs.Common.{◌==◌, ap, sym, ◌∙◌}
use Rattle.std.specs.Prelude.{is_some}
use Rattle.bd_space.specs.declared.space.Process.{Process}
use Rattle.bd_keys.proofs.Found.{any_some}
use Rattle.bd_processes.proofs.table.ProcessTable.lives.Goals as goal

pub returns : goal.returns
returns c = λ ps h.
    c.is_some.ensures
    ∙ ap is_some (c.made_at.ensures.found ps h)
    ∙ sym (any_some (λ (q : Process). q.made == c.args.made) ps)
