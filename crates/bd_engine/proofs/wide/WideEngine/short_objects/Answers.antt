use Rattle.bd_engine.proofs.{Short.{carried_short}, Words.{Identity, In, List, arith, subst}}
use Rattle.bd_engine.proofs.wide.WideEngine.short_objects.Goals as goal

pub invariant_of-result : goal.invariant_of-result
invariant_of-result c = λ o l.
    let lt = carried_short c.args.self.now c.args.made o (subst (λ (os : List Identity). In o os) c.carried.ensures l) in
    omega arith
