use Rattle.std.proofs.Common.{◌≡◌, ◌==◌, ◌≤◌, ◌+◌, not, List, length, filter}
use Rattle.bd_space.specs.declared.space.Turn.{Turn}
use Rattle.bd_turns.specs.{Room.{Uses}, Stands.{TurnsAre}}
use Rattle.bd_turns.proofs.table.TurnTable.pop_received.Given as goal

abbrev pub invariant-loop : goal.invariant-loop
invariant-loop l = record {
  uses : Uses l.fn.self l.self 0;
  left : (l0 : List Turn) → TurnsAre l.fn.self l0
      → (mid : List Turn) × TurnsAre l.self mid × (filter (λ t. not (t.receiver == l.fn.process)) mid ≡ filter (λ t. not (t.receiver == l.fn.process)) l0) × (length mid + l.counter ≤ length l0);
}
