use Rattle.std.proofs.Common.{None, sym, subst}
use Rattle.bd_ring.specs.Rings.{AreSound}
use Rattle.bd_ring.proofs.Back.{none_sound}
use Rattle.bd_ring.proofs.rings.Rings.new.Goals as goal

pub invariant_of-result : goal.invariant_of-result
invariant_of-result c = record { sound = ∣ subst (λ ns. AreSound ns None) (sym c.new.ensures.items) none_sound ∣₁ }
