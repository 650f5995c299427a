use Rattle.bd_chains.proofs.Setting.{set_holds}
use Rattle.bd_chains.proofs.chains.Chains.set.Goals as goal

pub returns-clause-stands : goal.returns-clause-stands
returns-clause-stands g c = λ rs h.
    set_holds c.args.x c.args.value c.args.self.now c.write.new.self rs h c.write.ensures.shown c.write.ensures.nexts c.write.ensures.prevs c.write.ensures.ends c.write.ensures.len
