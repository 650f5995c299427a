use Rattle.std.proofs.Common.{◌<◌, rules, length}
use Rattle.bd_ring.proofs.Setting.{writes_in, writes_out}
use Rattle.bd_ring.proofs.nodes.write.Goals as goal

pub returns-in-Some-clause-writes : goal.returns-in-Some-clause-writes
returns-in-Some-clause-writes c = λ j.
    let ns = c.args.nodes.now.items in
    let lt : c.args.k < length ns = search rules in
    writes_in ns c.args.k c.args.node j lt

pub returns-in_default-clause-writes : goal.returns-in_default-clause-writes
returns-in_default-clause-writes c = λ j.
    let ns = c.args.nodes.now.items in
    writes_out ns c.args.k c.args.node j (λ lt. search rules)
