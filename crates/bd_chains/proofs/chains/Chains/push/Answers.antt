use Rattle.std.proofs.Common.{ap, arith}
use Rattle.bd_chains.proofs.Tables.{push_holds}
use Rattle.bd_chains.proofs.chains.Chains.push.Goals as goal

pub returns-clause-stands : goal.returns-clause-stands
returns-clause-stands g c = λ rs h within.
    let was = c.ends_at-ends.ensures in
    push_holds c.args.self.now c.insert-x.new.self c.join.new.self rs h c.insert-x.result c.args.list
    (record { value = c.args.value; counted = c.args.counted }) c.saturating_add-counted.result
    c.insert-x.ensures.ends c.join.ensures.open c.join.ensures.len c.join.ensures.shown c.join.ensures.counts
    c.ends_at-ends.result.last within (ap (λ e. e.last) was) c.insert-x.ensures.fresh
    (λ few. grind (arith, c.saturating_add-counted.ensures, c.from.ensures, ap (λ e. e.counted) was, few))
    c.insert-x.ensures.len (let s = c.args.self.now.most_is in let f = c.args.self.now.fits in let n = c.insert-x.ensures.len in omega (arith, s, f, n)) c.insert-x.ensures.shown c.insert-x.ensures.nexts c.insert-x.ensures.prevs
    c.join.ensures.nexts c.join.ensures.prevs
