use Rattle.std.proofs.Common.{sym, ◌∙◌}
use Rattle.bd_ring.specs.Rings.{without_one, with_ring}
use Rattle.bd_ring.specs.Turns.{after_turn}
use Rattle.std.proofs.Math.Logic.{∥∥₁_map}
use Rattle.bd_ring.proofs.{Back.{kept_sound}, Standing.{said_so, turned}}
use Rattle.bd_ring.proofs.rings.Rings.take.Goals as goal

pub returns-clause-stands : goal.returns-clause-stands
returns-clause-stands c = λ f h.
    let ns = c.args.self.now.nodes.items in let l = c.args.ring in let x = c.in_ok-first.first in
    said_so c.leave_ring.new.nodes.items (without_one f x) (with_ring f l (after_turn (f l))) (c.leave_ring.ensures.stands f h)
    (turned ns f h l x (sym (c.first.ensures f h) ∙ c.in_ok-first.was))

pub invariant_of-self : goal.invariant_of-self
invariant_of-self c =
    let s = c.args.self.now in record {
      sound = ∥∥₁_map s.sound (λ h. kept_sound s.nodes.items c.leave_ring.new.nodes.items s.free (without_one h.orders c.in_ok-first.first) h (c.leave_ring.ensures.stands h.orders h.stands)
          c.leave_ring.ensures.len c.leave_ring.ensures.used (λ k e. c.leave_ring.ensures.idle h.orders h.stands k (h.nowhere k e)));
    }
