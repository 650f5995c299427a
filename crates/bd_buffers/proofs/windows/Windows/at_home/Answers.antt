use Rattle.bd_buffers.proofs.Words.{None, Some, home_key, look, refl, sym, ◌+◌, ◌∙◌, ◌≡◌}
use Rattle.bd_buffers.proofs.AllWindows.{looked_up}
use Rattle.bd_buffers.proofs.windows.Windows.at_home.Goals as goal

pub returns-in_err-w-clause-found : goal.returns-in_err-w-clause-found
returns-in_err-w-clause-found c = λ s stands.
    let home : look c.args.self.now.homes (home_key c.args.made) ≡ Some c.in_ok-p.p = rw (← c.self.view_is, ← c.home_key.ensures) (sym c.in_ok-p.ensures) in
    rw c.from_residual-in_err-w.ensures (looked_up c.args.self.now (s.steps + 1) c.args.made c.in_ok-p.p s.processes s.buffers None stands home (sym c.in_err-w.ensures.found))

pub returns-clause-found : goal.returns-clause-found
returns-clause-found c = λ s stands.
    let w = c.in_ok-w.w.now in
    let home : look c.args.self.now.homes (home_key c.args.made) ≡ Some c.in_ok-p.p = rw (← c.self.view_is, ← c.home_key.ensures) (sym c.in_ok-p.ensures) in
    c.buffer.ensures.found w.window.size w.window.buffers (record { size_is = refl; buffers_are = refl })
    ∙ looked_up c.args.self.now (s.steps + 1) c.args.made c.in_ok-p.p s.processes s.buffers (Some w) stands home (sym c.in_ok-w.ensures.found)
