use Rattle.std.proofs.Common.{◌≡◌, ◌≤◌, ◌+◌, ◌-◌, length, drop}
use Rattle.std.specs.Prelude.{◌||◌}
use Rattle.bd_reader.specs.Returns.{returns_in, fitting, told_all, size_of_all, has_call, has_completion}
use Rattle.bd_reader.proofs.reader.Reader.tell.Given as goal

abbrev pub invariant-loop-code : goal.invariant-loop-code
invariant-loop-code l = record {
  within : l.at ≤ length l.returns;
  room : l.at + l.left ≡ l.room;
  told : told_all (fitting l.left (returns_in (drop l.at l.returns))) l.self ≡ told_all (fitting l.room (returns_in l.returns)) l.fn.self;
  size : l.at + size_of_all (fitting l.left (returns_in (drop l.at l.returns))) ≡ size_of_all (fitting l.room (returns_in l.returns));
  call : (l.has_call || has_call (fitting l.left (returns_in (drop l.at l.returns)))) ≡ has_call (fitting l.room (returns_in l.returns));
  completion : (l.has_completion || has_completion (fitting l.left (returns_in (drop l.at l.returns)))) ≡ has_completion (fitting l.room (returns_in l.returns));
}

abbrev pub decreases-loop-code : goal.decreases-loop-code
decreases-loop-code l = length l.returns - l.at
