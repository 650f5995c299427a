use Rattle.bd_deaths.proofs.Words.{ap, deaths_at, ◌++◌}
use Rattle.bd_deaths.proofs.table.DeathTable.deaths_of.Goals as goal

pub loop-n-init : goal.loop-n-init
loop-n-init c = ap (λ xs. xs ++ deaths_at c.args.self.now c.args.found.now) c.new-told.ensures.items
