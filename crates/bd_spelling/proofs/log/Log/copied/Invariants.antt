use Rattle.std.proofs.Common.{◌≡◌, take}
use Rattle.std.specs.List.{flat_map}
use Rattle.bd_spelling.specs.Logged.{LogView}
use Rattle.bd_spelling.proofs.log.Log.copied.Given as goal

abbrev pub invariant-loop-chunk : goal.invariant-loop-chunk
invariant-loop-chunk l = l.entries.items ≡ flat_map (λ (c : LogView). c.entries) (take l.chunk-index l.self-inside.full.items)
