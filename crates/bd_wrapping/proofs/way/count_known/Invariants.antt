use Rattle.std.proofs.Common.{◌≡◌, ◌+◌, ◌*◌, ◌≤◌, drop}
use Rattle.bd_parcel.specs.Parcels.{offsets_in}
use Rattle.bd_wrapping.specs.Ways.{known_among}
use Rattle.bd_wrapping.proofs.way.count_known.Given as goal

abbrev pub invariant-loop-index : goal.invariant-loop-index
invariant-loop-index l =
    (l.count + known_among l.body (offsets_in (drop (8 * l.index) l.offsets)) ≡ known_among l.body (offsets_in l.offsets)) × (l.count ≤ l.index)
