use Rattle.std.proofs.Common.{◌≡◌, ◌*◌, ◌≤◌, drop, length, Some}
use Rattle.bd_parcel.specs.Parcels.{offsets_in}
use Rattle.bd_layout.specs.Plans.{planned_from, plan_of}
use Rattle.bd_layout.proofs.walk.lay_out.Given as goal

abbrev pub invariant-loop-index : goal.invariant-loop-index
invariant-loop-index l =
    (planned_from l.body l.room l.count l.index (offsets_in (drop (8 * l.index) l.offsets)) (Some l.layout) ≡ plan_of l.body l.offsets l.room l.count)
    × (length l.body ≤ length l.layout.bytes)
