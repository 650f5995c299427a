use Rattle.std.proofs.Common.{sym, ◌∙◌}
use Rattle.bd_space.specs.declared.space.Process.{Process}
use Rattle.bd_keys.proofs.Rising.{find_none, find_at, distinct}
use Rattle.bd_processes.proofs.list.made_at.Goals as goal

pub returns-in_err-i-clause-found : goal.returns-in_err-i-clause-found
returns-in_err-i-clause-found c = λ order.
    let none = c.in_err-i.ensures.found order in
    c.from_residual.ensures ∙ sym (find_none (λ (q : Process). q.made) c.args.made c.args.processes.now none)

pub returns-clause-found : goal.returns-clause-found
returns-clause-found c = λ order.
    let key = λ (q : Process). q.made in
    let ps = c.args.processes.now in
    let at = c.in_ok-i.ensures in
    sym (find_at key c.args.made ps c.in_ok-i.i _ (distinct key ps order) at.within (at.found order))
