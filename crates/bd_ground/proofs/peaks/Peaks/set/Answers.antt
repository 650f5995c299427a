use Rattle.std.proofs.Common.{arith}
use Rattle.bd_ground.proofs.Parts.{peaks_set}
use Rattle.bd_ground.proofs.peaks.Peaks.set.Goals as goal

pub invariant_of-self : goal.invariant_of-self
invariant_of-self c = peaks_set c.self.inside.numbers.items c.self.inside.parts.items c.self.inside.wholes.items c.args.i c.args.n c.greatest_in.result c.greatest_in-2.result
    c.self.invariant (omega arith)
    (λ j here. rw c.deref.ensures.value at (c.greatest_in.ensures j here))
    (λ j here. rw c.deref-2.ensures.value at (c.greatest_in-2.ensures j here))
