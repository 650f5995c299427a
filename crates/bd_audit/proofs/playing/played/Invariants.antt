use Rattle.std.proofs.Common.{◌≡◌, drop}
use Rattle.bd_space.specs.Histories.{history_of}
use Rattle.bd_audit.specs.Replays.{beginning}
use Rattle.bd_audit.proofs.playing.played.Given as goal

abbrev pub invariant-loop : goal.invariant-loop
invariant-loop l = record {
  engine : l.engine ≡ beginning l.counter (history_of l.seats l.fn.entries);
  rest : l.entries ≡ drop l.counter l.fn.entries;
}
