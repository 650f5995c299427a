use Rattle.std.proofs.Common.{◌≡◌, ◌+◌, [], length, drop}
use Rattle.bd_script.specs.Text.{lines}
use Rattle.bd_script.specs.Scripts.{read, read_from}
use Rattle.bd_script.proofs.script.read_script.Given as goal

abbrev pub invariant-loop-text : goal.invariant-loop-text
invariant-loop-text l = record {
  number : l.number ≡ length l.yielded;
  read : read_from (length l.yielded + 1) (drop (length l.yielded) (lines l.bytes)) (read l.script) ≡ read_from 1 (lines l.bytes) (record { seats = 0; lines = [] });
}
