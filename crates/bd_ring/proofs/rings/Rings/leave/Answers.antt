use Rattle.std.proofs.Math.Logic.{∥∥₁_map}
use Rattle.bd_ring.specs.Rings.{without_one}
use Rattle.bd_ring.proofs.Back.{kept_sound}
use Rattle.bd_ring.proofs.rings.Rings.leave.Goals as goal

pub invariant_of-self : goal.invariant_of-self
invariant_of-self c =
    let s = c.args.self.now in record {
      sound = ∥∥₁_map s.sound (λ h. kept_sound s.nodes.items c.leave_ring.new.nodes.items s.free (without_one h.orders c.args.one) h (c.leave_ring.ensures.stands h.orders h.stands)
          c.leave_ring.ensures.len c.leave_ring.ensures.used (λ k e. c.leave_ring.ensures.idle h.orders h.stands k (h.nowhere k e)));
    }
