use Rattle.bd_buffers.proofs.Words.{live_places, take, ◌++◌, ◌≡◌}
use Rattle.bd_buffers.proofs.listing.list_made.Given as goal

-- those in rows before this one are listed
abbrev pub invariant-loop-row : goal.invariant-loop-row
invariant-loop-row l = l.places.items ≡ l.initial.places.items ++ live_places (take l.row-index l.rows)
