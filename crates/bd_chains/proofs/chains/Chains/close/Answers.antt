use Rattle.std.proofs.Common.{refl}
use Rattle.std.specs.Prelude.{None}
use Rattle.bd_chains.proofs.Tables.{close_holds, updated}
use Rattle.bd_chains.proofs.chains.Chains.close.Goals as goal

pub returns-clause-stands : goal.returns-clause-stands
returns-clause-stands g c = λ rs h empty.
    close_holds c.args.self.now _ c.args.list rs h empty refl (updated c.args.self.now.ends c.try_remove-gone.new.self c.args.list None c.try_remove-gone.ensures.updates)
