use Rattle.bd_ring.specs.declared.nodes.Node.{Node}
use Rattle.bd_ring.proofs.Setting.{written_prev, prevs_set, nexts_stay, prev_keeps, ring_stays_too, used_stays_too}
use Rattle.bd_ring.proofs.nodes.set_prev.Goals as goal

pub returns-clause-prevs : goal.returns-clause-prevs
returns-clause-prevs c =
    let ns = c.args.nodes.now.items in let us = c.write_prev.new.nodes.items in
    prevs_set ns us c.args.ring c.args.at c.args.to
    (written_prev ns us c.args.ring c.args.at c.args.to c.spot_of.result c.spot_of.ensures c.write_prev.ensures.writes)

pub returns-clause-nexts : goal.returns-clause-nexts
returns-clause-nexts c =
    let ns = c.args.nodes.now.items in let us = c.write_prev.new.nodes.items in
    nexts_stay ns us c.args.ring c.args.at c.args.to
    (written_prev ns us c.args.ring c.args.at c.args.to c.spot_of.result c.spot_of.ensures c.write_prev.ensures.writes)

pub returns-clause-rings : goal.returns-clause-rings
returns-clause-rings c =
    let ns = c.args.nodes.now.items in let us = c.write_prev.new.nodes.items in
    prev_keeps ns us c.args.ring c.args.at c.args.to
    (written_prev ns us c.args.ring c.args.at c.args.to c.spot_of.result c.spot_of.ensures c.write_prev.ensures.writes)
    (λ (n : Node). n.ring) (ring_stays_too c.args.to)

pub returns-clause-used : goal.returns-clause-used
returns-clause-used c =
    let ns = c.args.nodes.now.items in let us = c.write_prev.new.nodes.items in
    prev_keeps ns us c.args.ring c.args.at c.args.to
    (written_prev ns us c.args.ring c.args.at c.args.to c.spot_of.result c.spot_of.ensures c.write_prev.ensures.writes)
    (λ (n : Node). n.used) (used_stays_too c.args.to)
