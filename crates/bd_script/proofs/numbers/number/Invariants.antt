use Rattle.std.proofs.Common.{◌≡◌, drop}
use Rattle.bd_script.proofs.Digits.{digits_from}
use Rattle.bd_script.proofs.numbers.number.Given as goal

abbrev pub invariant-loop-byte : goal.invariant-loop-byte
invariant-loop-byte l = digits_from l.value (drop l.byte-index l.word) ≡ digits_from 0 l.word
