use Rattle.bd_buffers.proofs.Words.{Some, ltb-true, refl, sym, ◌+◌}
use Rattle.bd_buffers.proofs.AllWindows.{guessed}
use Rattle.bd_buffers.proofs.windows.Windows.buffer.Goals as goal

pub returns-in-Some-buffer-clause-found : goal.returns-in-Some-buffer-clause-found
returns-in-Some-buffer-clause-found c = λ s stands.
    let w = c.in-Some.w.now in
    guessed c.args.self.now (s.steps + 1) c.of.result c.args.made s.processes s.buffers w c.in-Some-buffer.b stands (rw (← c.self.view_is) c.self.invariant)
    (rw (← c.self.view_is, ← c.deref.ensures.value) (ltb-true _ _ (sym c.in-Some.ensures.lookup.0))) (rw (← c.self.view_is, ← c.deref.ensures.value) c.in-Some.ensures.lookup.1)
    (c.in-Some-buffer.ensures.found w.window.size w.window.buffers (record { size_is = refl; buffers_are = refl }))
