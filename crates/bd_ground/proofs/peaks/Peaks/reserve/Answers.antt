use Rattle.std.proofs.Common.{Bool, arith, cond, false, true, ℕ, ◌≡◌, ◌≤◌}
use Rattle.bd_ground.proofs.Parts.{below_same}
use Rattle.bd_ground.proofs.peaks.Peaks.reserve.Goals as goal

either : (b : Bool) (x y z m : ℕ) → z ≡ cond b x y → x ≤ m → y ≤ m → z ≤ m
either true x y z m e p q = omega (arith, e)
either false x y z m e p q = omega (arith, e)

pub invariant_of-self-2 : goal.invariant_of-self-2
invariant_of-self-2 c = grind (arith, below_same, either)
