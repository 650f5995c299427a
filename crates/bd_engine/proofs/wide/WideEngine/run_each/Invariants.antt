use Rattle.bd_engine.proofs.Words.{HasCome, length, ◌-◌}
use Rattle.bd_engine.proofs.wide.WideEngine.run_each.Given as goal

abbrev pub invariant-commands : goal.invariant-commands
invariant-commands l = HasCome l.fn.self l.self l.seat l.stream l.area l.progress

abbrev pub decreases-commands : goal.decreases-commands
decreases-commands l = length l.stream - l.progress.consumed
