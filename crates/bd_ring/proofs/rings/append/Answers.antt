use Rattle.std.proofs.Common.{ap}
use Rattle.bd_ring.specs.declared.nodes.Node.{Node}
use Rattle.bd_ring.proofs.{Back.{appended_idle}, Standing.{appended}}
use Rattle.bd_ring.proofs.rings.append.Goals as goal

pub returns-clause-stands : goal.returns-clause-stands
returns-clause-stands c = λ f h used_l lt none.
    let ns = c.args.nodes.now.items in
    appended ns c.set_place.new.nodes.items c.set_next.new.nodes.items c.set_prev.new.nodes.items f c.args.one c.args.ring h
    c.look_at-last.result.last (ap (λ (n : Node). n.last) c.look_at-last.ensures) used_l lt none
    c.set_place.ensures.writes c.set_place.ensures.len
    c.set_next.ensures.nexts c.set_next.ensures.prevs c.set_next.ensures.rings c.set_next.ensures.used c.set_next.ensures.len
    c.set_prev.ensures.prevs c.set_prev.ensures.nexts c.set_prev.ensures.rings c.set_prev.ensures.used

pub returns-clause-idle : goal.returns-clause-idle
returns-clause-idle c = λ f h used_l lt none k apart out.
    let ns = c.args.nodes.now.items in
    appended_idle ns c.set_place.new.nodes.items c.set_next.new.nodes.items c.set_prev.new.nodes.items f c.args.one c.args.ring h
    c.look_at-last.result.last (ap (λ (n : Node). n.last) c.look_at-last.ensures) used_l lt
    c.set_place.ensures.writes c.set_place.ensures.len
    c.set_next.ensures.nexts c.set_next.ensures.rings
    c.set_prev.ensures.nexts c.set_prev.ensures.rings k apart out
