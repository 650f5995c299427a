use Rattle.std.proofs.Common.{ap, sym, ◌∙◌}
use Rattle.bd_ring.specs.declared.nodes.Node.{Node}
use Rattle.bd_ring.proofs.{Back.{detached_idle}, Standing.{detached_by, stays_out}}
use Rattle.bd_ring.proofs.rings.leave_ring.Goals as goal

pub returns-in_default-clause-stands : goal.returns-in_default-clause-stands
returns-in_default-clause-stands c = λ f h. stays_out c.args.nodes.now.items f h c.args.one (sym (ap (λ (n : Node). n.ring) c.look_at-node.ensures) ∙ c.in_default.is)

pub returns-clause-stands : goal.returns-clause-stands
returns-clause-stands c = λ f h.
    let ns = c.args.nodes.now.items in
    detached_by ns c.set_place.new.nodes.items c.set_next.new.nodes.items c.set_prev.new.nodes.items f c.args.one c.in-Some.ring h
    c.look_at-node.result c.look_at-node.ensures c.in-Some.is
    c.set_place.ensures.writes c.set_place.ensures.len
    c.set_next.ensures.nexts c.set_next.ensures.prevs c.set_next.ensures.rings c.set_next.ensures.used c.set_next.ensures.len
    c.set_prev.ensures.prevs c.set_prev.ensures.nexts c.set_prev.ensures.rings c.set_prev.ensures.used

pub returns-clause-idle : goal.returns-clause-idle
returns-clause-idle c = λ f h k out.
    let ns = c.args.nodes.now.items in
    detached_idle ns c.set_place.new.nodes.items c.set_next.new.nodes.items c.set_prev.new.nodes.items f c.args.one c.in-Some.ring h
    c.look_at-node.result c.look_at-node.ensures c.in-Some.is
    c.set_place.ensures.writes c.set_place.ensures.len
    c.set_next.ensures.nexts c.set_next.ensures.rings
    c.set_prev.ensures.nexts c.set_prev.ensures.rings k out
