use Rattle.std.proofs.Common.{◌≡◌, ◌+◌, ◌/◌, ◌%◌, ◌^◌, ◌++◌, take, drop, refl, arith}
use Rattle.bd_uapi.specs.Bytes.{word, long}
use Rattle.bd_parcel.proofs.Writes.{side_by_side}
use Rattle.bd_wrapping.specs.Trailers.{mark}
use Rattle.bd_wrapping.proofs.trailer.write.Goals as goal

pub returns : goal.returns
returns c =
    let at = c.args.at in
    let t = c.args.trailer.now in
    let old = c.args.out.now in
    let two : c.put_u64-2.new.out ≡ take at old ++ (long t.body ++ long t.offsets) ++ drop (at + 16) old =
    side_by_side at 8 8 old c.put_u64.new.out c.put_u64-2.new.out (long t.body) (long t.offsets) refl refl (omega arith) c.put_u64.ensures.written c.put_u64-2.ensures.written in
    let a = long t.body ++ long t.offsets in
    let three : c.put_u64-3.new.out ≡ take at old ++ (a ++ long t.buffers) ++ drop (at + 24) old =
    side_by_side at 16 8 old c.put_u64-2.new.out c.put_u64-3.new.out a (long t.buffers) refl refl (omega arith) two c.put_u64-3.ensures.written in
    let b = a ++ long t.buffers in
    let low = word (t.step % 2 ^ 32) in
    let four : c.put_u32.new.out ≡ take at old ++ (b ++ low) ++ drop (at + 28) old =
    side_by_side at 24 4 old c.put_u64-3.new.out c.put_u32.new.out b low refl refl (omega arith) three (rw c.low.ensures at c.put_u32.ensures.written) in
    let d = b ++ low in
    let five : c.put_u32-2.new.out ≡ take at old ++ (d ++ word t.descriptors) ++ drop (at + 32) old =
    side_by_side at 28 4 old c.put_u32.new.out c.put_u32-2.new.out d (word t.descriptors) refl refl (omega arith) four c.put_u32-2.ensures.written in
    let e = d ++ word t.descriptors in
    let six : c.put_u32-3.new.out ≡ take at old ++ (e ++ word t.euid) ++ drop (at + 36) old =
    side_by_side at 32 4 old c.put_u32-2.new.out c.put_u32-3.new.out e (word t.euid) refl refl (omega arith) five c.put_u32-3.ensures.written in
    let f = e ++ word t.euid in
    let high = word (t.step / 2 ^ 32) in
    let seven : c.put_u32-4.new.out ≡ take at old ++ (f ++ high) ++ drop (at + 40) old =
    side_by_side at 36 4 old c.put_u32-3.new.out c.put_u32-4.new.out f high refl refl (omega arith) six (rw c.high.ensures at c.put_u32-4.ensures.written) in
    side_by_side at 40 8 old c.put_u32-4.new.out c.put_u64-4.new.out (f ++ high) (long mark) refl refl (omega arith) seven c.put_u64-4.ensures.written
