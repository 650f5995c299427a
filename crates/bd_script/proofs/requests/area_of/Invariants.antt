use Rattle.std.proofs.Common.{◌≡◌, ◌++◌, take}
use Rattle.std.specs.List.{flat_map}
use Rattle.bd_uapi.specs.Bytes.{long}
use Rattle.bd_script.specs.Requests.{padded}
use Rattle.bd_script.proofs.requests.area_of.Given as goal

abbrev pub invariant-loop-offset : goal.invariant-loop-offset
invariant-loop-offset l = l.area.items ≡ padded l.bytes ++ flat_map long (take l.offset-index l.offsets)
