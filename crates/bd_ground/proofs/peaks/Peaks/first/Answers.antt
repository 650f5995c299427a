use Rattle.std.proofs.Common.{arith}
use Rattle.bd_ground.proofs.Parts.{below_first}
use Rattle.bd_ground.proofs.peaks.Peaks.first.Goals as goal

pub returns-clause-below : goal.returns-clause-below
returns-clause-below c =
    let p = c.self.invariant in
    rw (← c.self.view_is) (below_first c.self.inside.numbers.items c.self.inside.parts.items c.self.inside.wholes.items c.args.n c.first_from-whole.result c.first_from-part.result c.first_from.result p
    (λ j low lt. rw c.deref.ensures.value at (c.first_from-whole.ensures.below j low lt))
    (λ j low lt. rw c.deref-2.ensures.value at (c.first_from-part.ensures.below j (omega (arith, low, c.saturating_mul.ensures)) lt))
    (λ j low lt. rw c.deref-3.ensures.value at (c.first_from.ensures.below j (omega (arith, low, c.saturating_mul-2.ensures)) lt)))
