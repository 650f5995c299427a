use Rattle.bd_buffers.proofs.Words.{None, ap, buffers_held, next_made, ◌+◌, ◌∙◌}
use Rattle.bd_buffers.proofs.AllWindows.{held}
use Rattle.bd_buffers.proofs.windows.Windows.next_from.Goals as goal

pub returns-in-None : goal.returns-in-None
returns-in-None c = λ s stands.
    ap (λ bs. next_made bs c.args.from) (ap buffers_held c.in-None.ensures.found ∙ held c.args.self.now (s.steps + 1) c.args.p s.processes s.buffers stands)
