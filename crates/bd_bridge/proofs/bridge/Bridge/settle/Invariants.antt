use Rattle.std.proofs.Common.{[], vec_capacity, vec_len, ◌+◌, ◌-◌, ◌≡◌, ◌≤◌}
use Rattle.bd_bridge.specs.{Forgotten.{NobodyIsForgotten}, Settled.{HasSettled}, Suspects.{suspects_in}, Waiting.{seats_in}}
use Rattle.bd_bridge.proofs.bridge.Bridge.settle.Given as goal

abbrev pub invariant-loop-look : goal.invariant-loop-look
invariant-loop-look g l = record {
  room : vec_len l.signals + (l.looks - l.look) ≤ vec_capacity l.signals;
  capacity : vec_capacity l.signals ≡ vec_capacity l.initial.signals;
  seats : seats_in l.self.waiters ≡ seats_in l.initial.self.waiters;
  progress : l.signals.items ≡ [] → suspects_in l.self.suspects + l.look ≡ suspects_in l.initial.self.suspects;
  on : (h : g.E.Engine.World) → g.E.Engine.Follows l.initial.self.engine h
      → NobodyIsForgotten (g.E.Engine.Sees h) (g.E.Engine.IsOf h) (g.E.Engine.CanRest h) l.initial.self.waiters l.initial.self.suspects l.initial.self.resting
      → HasSettled g.E.Engine.Follows g.E.Engine.Sees g.E.Engine.IsOf g.E.Engine.has_read g.E.Engine.CanWait g.E.Engine.CanRest h l.initial.self.waiters l.signals.items l.self.engine l.self.waiters l.self.suspects l.self.resting;
}
