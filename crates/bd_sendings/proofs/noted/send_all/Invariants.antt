use Rattle.std.proofs.Common.{◌≡◌, ◌*◌, drop}
use Rattle.std.specs.Prelude.{vec_capacity}
use Rattle.bd_parcel.specs.Parcels.{offsets_in}
use Rattle.bd_sendings.specs.Sendings.{sent_among}
use Rattle.bd_sendings.proofs.noted.send_all.Given as goal

abbrev pub invariant-loop-index : goal.invariant-loop-index
invariant-loop-index l = record {
  so_far : sent_among l.sending l.body (offsets_in (drop (8 * l.index) l.offsets)) l.known.items ≡ sent_among l.sending l.body (offsets_in l.offsets) l.fn.known.items;
  capacity : vec_capacity l.known ≡ vec_capacity l.fn.known;
}
