use Rattle.std.proofs.Common.{◌≡◌, length}
use Rattle.bd_layout.specs.Writable.{outward_from}
use Rattle.bd_layout.proofs.layout.close_inside.Given as goal

abbrev pub invariant-loop-buffer : goal.invariant-loop-buffer
invariant-loop-buffer l = outward_from l.index l.writable ≡ outward_from l.fn.index l.fn.writable

abbrev pub decreases-loop-buffer : goal.decreases-loop-buffer
decreases-loop-buffer l = length l.writable
