use Rattle.std.proofs.Common.{◌≡◌, ◌+◌, ◌++◌, take, drop, refl, arith}
use Rattle.bd_uapi.specs.Bytes.{word, long}
use Rattle.bd_uapi.specs.Records.{type_of}
use Rattle.bd_parcel.proofs.Writes.{side_by_side}
use Rattle.bd_parcel.proofs.fields.put_object.Goals as goal

pub returns : goal.returns
returns c =
    let at = c.args.at in
    let x = c.args.object.now in
    let old = c.args.bytes.now in
    let tag = word (type_of x.kind) in
    let flags = word x.flags in
    let two : c.put_u32-2.new.out ≡ take at old ++ (tag ++ flags) ++ drop (at + 8) old =
    side_by_side at 4 4 old c.put_u32.new.out c.put_u32-2.new.out tag flags refl refl (omega arith) (rw c.type_word.ensures at c.put_u32.ensures.written) c.put_u32-2.ensures.written in
    let three : c.put_u64.new.out ≡ take at old ++ ((tag ++ flags) ++ long x.binder) ++ drop (at + 16) old =
    side_by_side at 8 8 old c.put_u32-2.new.out c.put_u64.new.out (tag ++ flags) (long x.binder) refl refl (omega arith) two c.put_u64.ensures.written in
    side_by_side at 16 8 old c.put_u64.new.out c.put_u64-2.new.out ((tag ++ flags) ++ long x.binder) (long x.cookie) refl refl (omega arith) three c.put_u64-2.ensures.written
