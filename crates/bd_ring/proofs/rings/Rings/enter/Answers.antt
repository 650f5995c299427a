use Rattle.std.proofs.Common.{◌≡◌, true, None, sym, ap, ◌∙◌, rules}
use Rattle.std.proofs.Math.Logic.{∥∥₁_map}
use Rattle.bd_ring.specs.Turns.{after_enter}
use Rattle.bd_ring.specs.Rings.{is_used, ring_of, with_ring}
use Rattle.bd_ring.proofs.{Back.{kept_sound}, Standing.{clash, used_there}}
use Rattle.bd_ring.proofs.rings.Rings.enter.Goals as goal

pub returns-clause-stands : goal.returns-clause-stands
returns-clause-stands c = λ f h.
    let ns = c.args.self.now.nodes.items in
    let used_ring : is_used ns c.args.ring ≡ true = search rules in
    let used_one : is_used ns c.args.one ≡ true = search rules in
    let none : ring_of ns c.args.one ≡ None = search rules in
    c.append.ensures.stands f h used_ring (used_there ns c.args.one used_one) none

pub invariant_of-self : goal.invariant_of-self
invariant_of-self c =
    let s = c.args.self.now in
    let ns = s.nodes.items in let l = c.args.ring in let x = c.args.one in
    let used_ring : is_used ns l ≡ true = search rules in
    let used_one : is_used ns x ≡ true = search rules in
    let none : ring_of ns x ≡ None = search rules in
    let there = used_there ns x used_one in
    record {
      sound = ∥∥₁_map s.sound (λ h. kept_sound ns c.append.new.nodes.items s.free (with_ring h.orders l (after_enter (h.orders l) x)) h
          (c.append.ensures.stands h.orders h.stands used_ring there none) c.append.ensures.len c.append.ensures.used
          (λ k e. c.append.ensures.idle h.orders h.stands used_ring there none k (λ is. clash used_one (ap (is_used ns) (sym is) ∙ e)) (h.nowhere k e)));
    }
