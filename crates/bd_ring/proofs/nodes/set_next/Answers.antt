use Rattle.bd_ring.specs.declared.nodes.Node.{Node}
use Rattle.bd_ring.proofs.Setting.{written_next, nexts_set, prevs_stay, next_keeps, ring_stays, used_stays}
use Rattle.bd_ring.proofs.nodes.set_next.Goals as goal

pub returns-clause-nexts : goal.returns-clause-nexts
returns-clause-nexts c =
    let ns = c.args.nodes.now.items in let us = c.write_next.new.nodes.items in
    nexts_set ns us c.args.ring c.args.at c.args.to
    (written_next ns us c.args.ring c.args.at c.args.to c.spot_of.result c.spot_of.ensures c.write_next.ensures.writes)

pub returns-clause-prevs : goal.returns-clause-prevs
returns-clause-prevs c =
    let ns = c.args.nodes.now.items in let us = c.write_next.new.nodes.items in
    prevs_stay ns us c.args.ring c.args.at c.args.to
    (written_next ns us c.args.ring c.args.at c.args.to c.spot_of.result c.spot_of.ensures c.write_next.ensures.writes)

pub returns-clause-rings : goal.returns-clause-rings
returns-clause-rings c =
    let ns = c.args.nodes.now.items in let us = c.write_next.new.nodes.items in
    next_keeps ns us c.args.ring c.args.at c.args.to
    (written_next ns us c.args.ring c.args.at c.args.to c.spot_of.result c.spot_of.ensures c.write_next.ensures.writes)
    (λ (n : Node). n.ring) (ring_stays c.args.to)

pub returns-clause-used : goal.returns-clause-used
returns-clause-used c =
    let ns = c.args.nodes.now.items in let us = c.write_next.new.nodes.items in
    next_keeps ns us c.args.ring c.args.at c.args.to
    (written_next ns us c.args.ring c.args.at c.args.to c.spot_of.result c.spot_of.ensures c.write_next.ensures.writes)
    (λ (n : Node). n.used) (used_stays c.args.to)
