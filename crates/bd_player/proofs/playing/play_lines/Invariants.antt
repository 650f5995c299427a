use Rattle.std.proofs.Common.{◌≡◌, false, length, All}
use Rattle.std.specs.Vec.Iter.{into_iter_items, into_iter_len}
use Rattle.bd_player.proofs.Lines.{SoFar}
use Rattle.bd_player.proofs.playing.play_lines.Given as goal

abbrev pub invariant-loop-line : goal.invariant-loop-line
invariant-loop-line g l =
    All (λ s. s.table ≡ g.D.Desk.table l.desk) l.seats
    × (into_iter_len l.line-iterator ≡ length (into_iter_items l.line-iterator))
    × (g.S.Sink.is_full l.initial.sink ≡ false
    → SoFar (g.D.Desk.seats l.desk) l.turns g.S.Sink.takes g.S.Sink.is_full l.fn.lines.items (into_iter_items l.line-iterator) l.initial.seats l.initial.sink l.seats l.sink)
