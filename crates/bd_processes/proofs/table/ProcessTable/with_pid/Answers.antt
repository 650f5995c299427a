use Rattle.std.proofs.Common.{◌==◌, ap, ◌∙◌}
use Rattle.bd_space.specs.declared.space.Process.{Process}
use Rattle.bd_keys.specs.Look.{look}
use Rattle.bd_keys.proofs.Found.{by_key}
use Rattle.bd_processes.proofs.table.ProcessTable.with_pid.Goals as goal

pub returns : goal.returns
returns c = λ ps h.
    c.made_at.ensures.found ps h
    ∙ by_key (λ (q : Process). q.made) (λ q. q.pid == c.args.pid) ps c.in_ok-made.made h.rising
    (c.in_ok-made.ensures ∙ ap (look c.args.self.now.by_pid) c.pid_key.ensures ∙ h.found c.args.pid)
