use Rattle.std.proofs.Common.{◌≡◌, ◌≤◌, eqb, length, drop}
use Rattle.std.specs.List.{slice_split}
use Rattle.bd_script.specs.Text.{longs_of}
use Rattle.bd_script.proofs.Pieces.{joined}
use Rattle.bd_script.proofs.words.offsets_in.Given as goal

abbrev pub invariant-loop-part : goal.invariant-loop-part
invariant-loop-part l = record {
  many : length l.offsets.items ≡ length l.yielded;
  most : length l.yielded ≤ 524288;
  read : joined l.offsets.items (longs_of (drop (length l.yielded) (slice_split (λ b. eqb b 44) l.word))) ≡ longs_of (slice_split (λ b. eqb b 44) l.word);
}
