use Rattle.std.proofs.Common.{arith}
use Rattle.bd_ground.proofs.Cuts.{tiles_cut}
use Rattle.bd_ground.proofs.spans.Spans.take.Goals as goal

pub returns-then-had-n-clause-tiles : goal.returns-then-had-n-clause-tiles
returns-then-had-n-clause-tiles c = λ free is begins room. grind (arith, tiles_cut)
