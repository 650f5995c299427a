use Rattle.bd_buffers.proofs.Words.{OwnedWindow, lt-ltb, ltb-true, newest_all, newest_last, sym}
use Rattle.bd_buffers.proofs.AllWindows.{owners_before}
use Rattle.bd_buffers.proofs.windows.Windows.is_next.Goals as goal

pub returns-in-Some-clause-last : goal.returns-in-Some-clause-last
returns-in-Some-clause-last c = λ t.
    rw (← c.self.view_is) (newest_all (λ (w : OwnedWindow). w.owner) c.self.inside.windows.items _ c.args.place c.self.invariant (sym (rw c.deref.ensures.value at c.in-Some.ensures.value)) (ltb-true _ _ t))

pub returns-in-Some-clause-always : goal.returns-in-Some-clause-always
returns-in-Some-clause-always c = λ s stands e.
    let all = rw (e, ← c.self.view_is) at (owners_before c.args.self.now.windows s.buffers s.processes s.steps stands.windows_are stands.made.processes_before) in
    lt-ltb _ _ (newest_last (λ (w : OwnedWindow). w.owner) c.self.inside.windows.items _ c.args.place (sym (rw c.deref.ensures.value at c.in-Some.ensures.value)) all)
