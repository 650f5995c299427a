use Rattle.bd_buffers.proofs.Words.{Forgets, live_places, take}
use Rattle.bd_buffers.proofs.listing.forget.Given as goal

-- those in rows before this one are forgotten
abbrev pub invariant-loop-gone : goal.invariant-loop-gone
invariant-loop-gone l = Forgets (live_places (take l.gone-index l.rows)) l.initial.homes l.homes
