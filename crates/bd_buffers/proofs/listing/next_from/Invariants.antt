use Rattle.bd_buffers.proofs.Words.{Record, drop, find, live, lives, nat_le, ◌≡◌}
use Rattle.bd_buffers.proofs.listing.next_from.Given as goal

-- the first from the place on is the first in the rows from i on
abbrev pub invariant-loop-i : goal.invariant-loop-i
invariant-loop-i l = find (λ (b : Record). nat_le l.from b.made) (live l.rows) ≡ find lives (drop l.i l.rows)
