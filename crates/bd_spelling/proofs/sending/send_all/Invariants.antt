use Rattle.std.proofs.Common.{take}
use Rattle.std.specs.List.{flat_map}
use Rattle.std.specs.Io.KnownBytes.{Appends}
use Rattle.bd_spelling.proofs.sending.send_all.Given as goal

abbrev pub invariant-loop-piece : goal.invariant-loop-piece
invariant-loop-piece g l = Appends (g.W.Write.contents l.initial.out) (g.W.Write.contents l.out) (flat_map (λ p. p.now) (take l.piece-index l.pieces))
