use Rattle.std.proofs.Common.{◌≡◌, ◌++◌, length}
use Rattle.std.specs.List.{flat_map}
use Rattle.bd_script.specs.Hex.{hex_pair, pairs_of}
use Rattle.bd_script.proofs.Pieces.{joined}
use Rattle.bd_script.proofs.hex.pairs_in.Given as goal

abbrev pub invariant-loop-rest : goal.invariant-loop-rest
invariant-loop-rest l = record {
  read : joined l.bytes.items (pairs_of l.rest) ≡ pairs_of l.word;
  spelled : l.word ≡ flat_map hex_pair l.bytes.items ++ l.rest;
}

abbrev pub decreases-loop-rest : goal.decreases-loop-rest
decreases-loop-rest l = length l.rest
