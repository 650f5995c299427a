use Rattle.std.proofs.Common.{◌≡◌, ◌≤◌, ◌+◌, ◌-◌, length, drop}
use Rattle.bd_reader.specs.Returns.{returns_in, up_to_call, call_at, read_all}
use Rattle.bd_reader.proofs.reader.Reader.read_all.Given as goal

abbrev pub invariant-loop-code : goal.invariant-loop-code
invariant-loop-code l = record {
  within : l.at ≤ length l.returns;
  read : read_all (up_to_call (returns_in (drop l.at l.returns))) l.self ≡ read_all (up_to_call (returns_in l.returns)) l.fn.self;
  call : l.at + call_at (returns_in (drop l.at l.returns)) ≡ call_at (returns_in l.returns);
}

abbrev pub decreases-loop-code : goal.decreases-loop-code
decreases-loop-code l = length l.returns - l.at
