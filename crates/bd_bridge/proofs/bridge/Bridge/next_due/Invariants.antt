use Rattle.std.proofs.Common.{◌+◌, ◌≡◌}
use Rattle.bd_bridge.specs.{Forgotten.{NobodyIsForgotten}, Suspects.{suspects_in}}
use Rattle.bd_bridge.proofs.bridge.Bridge.next_due.Given as goal

abbrev pub invariant-loop-look : goal.invariant-loop-look
invariant-loop-look g l = record {
  waiters : l.self.waiters ≡ l.initial.self.waiters;
  engine : l.self.engine ≡ l.initial.self.engine;
  progress : suspects_in l.self.suspects + l.look ≡ suspects_in l.initial.self.suspects;
  watched : (h : g.E.Engine.World) → g.E.Engine.Follows l.initial.self.engine h
      → NobodyIsForgotten (g.E.Engine.Sees h) (g.E.Engine.IsOf h) (g.E.Engine.CanRest h) l.initial.self.waiters l.initial.self.suspects l.initial.self.resting
      → NobodyIsForgotten (g.E.Engine.Sees h) (g.E.Engine.IsOf h) (g.E.Engine.CanRest h) l.self.waiters l.self.suspects l.self.resting;
}
