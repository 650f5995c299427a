use Rattle.std.proofs.Common.{ap, sym, ◌∙◌, ◌+◌, ◌/◌, ◌%◌, ◌^◌}
use Rattle.bd_keys.proofs.Halves.{low_way}
use Rattle.bd_keys.proofs.node.Node.way.Goals as goal

pub returns-then-self-le61 : goal.returns-then-self-le61
returns-then-self-le61 c =
    let k = c.args.k in
    let bit = c.args.self.now.bit in
    ap (λ n. n / 2 ^ bit % 8) c.low.ensures ∙ sym (low_way ((k.word + k.process) % 2 ^ 64) k.process bit c.if-self-le61.true)
