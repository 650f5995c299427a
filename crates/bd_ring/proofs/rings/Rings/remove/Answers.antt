use Rattle.std.proofs.Common.{◌≡◌, ◌==◌, ◌<◌, true, false, length, None, cond, ap, ◌∙◌, rules, arith}
use Rattle.std.proofs.Math.Logic.{∥∥₁_map}
use Rattle.bd_ring.specs.Rings.{is_used, next_at, without_one}
use Rattle.bd_chains.specs.Chain.{without}
use Rattle.bd_ring.proofs.{Back.{kept_sound, back_sound}, Standing.{lent, lent_stands, lent_used, wrote, none_first, used_there}}
use Rattle.bd_ring.proofs.rings.Rings.remove.Goals as goal

pub returns-clause-stands : goal.returns-clause-stands
returns-clause-stands c = λ f h.
    let ns = c.args.self.now.nodes.items in let ds = c.leave_ring.new.nodes.items in let x = c.args.one in
    let none : next_at ns x None ≡ None = search rules in
    lent_stands ds c.write.new.nodes.items x false _ _
    (wrote ds c.write.new.nodes.items x (lent false _ _) c.look_at-node-2.result c.look_at-node-2.ensures c.write.ensures.writes)
    (without_one f x) (c.leave_ring.ensures.stands f h) c.leave_ring.ensures.out (λ _. ap (without x) (none_first ns f h x none))

pub returns-clause-used : goal.returns-clause-used
returns-clause-used c = λ k.
    let ns = c.args.self.now.nodes.items in let ds = c.leave_ring.new.nodes.items in let x = c.args.one in
    let used : is_used ns x ≡ true = search rules in
    let lt : x < length ns = used_there ns x used in
    let there : x < length ds = (let n = c.leave_ring.ensures.len in omega (arith, lt, n)) in
    lent_used ds c.write.new.nodes.items x false _ _
    (wrote ds c.write.new.nodes.items x (lent false _ _) c.look_at-node-2.result c.look_at-node-2.ensures c.write.ensures.writes) there k
    ∙ ap (λ b. cond (x == k) false b) (c.leave_ring.ensures.used k)

pub invariant_of-self : goal.invariant_of-self
invariant_of-self c =
    let s = c.args.self.now in
    let ns = s.nodes.items in let ds = c.leave_ring.new.nodes.items in let us = c.write.new.nodes.items in let x = c.args.one in
    let none : next_at ns x None ≡ None = search rules in
    let used : is_used ns x ≡ true = search rules in
    let writes = wrote ds us x (lent false _ s.free) c.look_at-node-2.result c.look_at-node-2.ensures c.write.ensures.writes in
    record {
      sound = ∥∥₁_map s.sound (λ h.
          let g = without_one h.orders x in
          let left = kept_sound ns ds s.free g h (c.leave_ring.ensures.stands h.orders h.stands) c.leave_ring.ensures.len c.leave_ring.ensures.used
          (λ k e. c.leave_ring.ensures.idle h.orders h.stands k (h.nowhere k e)) in
          let stands = lent_stands ds us x false _ s.free writes g (c.leave_ring.ensures.stands h.orders h.stands) c.leave_ring.ensures.out (λ _. ap (without x) (none_first ns h.orders h.stands x none)) in
          back_sound ds us x _ s.free g left (c.leave_ring.ensures.used x ∙ used) c.leave_ring.ensures.out stands c.write.ensures.len writes);
    }
