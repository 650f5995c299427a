use Rattle.std.proofs.Common.{◌≡◌, ◌<◌, rules, length, get_or}
use Rattle.bd_ring.specs.Rings.{placed}
use Rattle.bd_ring.proofs.Setting.{changes_in, writes_out}
use Rattle.bd_ring.proofs.nodes.set_place.Goals as goal

pub returns-in-Some-clause-writes : goal.returns-in-Some-clause-writes
returns-in-Some-clause-writes c = λ j.
    let ns = c.args.nodes.now.items in
    let t = c.in-Some.node.now in
    let lt : c.args.k < length ns = search rules in
    let seen : get_or ns c.args.k t ≡ t = search rules in
    changes_in ns c.args.k (placed c.args.ring c.args.prev c.args.next) t j lt seen

pub returns-in_default-clause-writes : goal.returns-in_default-clause-writes
returns-in_default-clause-writes c = λ j.
    let ns = c.args.nodes.now.items in
    writes_out ns c.args.k _ j (λ lt. search rules)
