use Rattle.std.proofs.Common.{take}
use Rattle.std.specs.List.{flat_map}
use Rattle.std.specs.Io.KnownBytes.{Appends}
use Rattle.bd_spelling.specs.Spelling.{entry_bytes}
use Rattle.bd_spelling.specs.Logged.{LogView}
use Rattle.bd_spelling.proofs.log.Log.write.Given as goal

abbrev pub invariant-loop-chunk : goal.invariant-loop-chunk
invariant-loop-chunk g l =
    Appends (g.W.Write.contents l.initial.out) (g.W.Write.contents l.out) (flat_map (λ (c : LogView). flat_map entry_bytes c.entries) (take l.chunk-index l.self-inside.full.items))
