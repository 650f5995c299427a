use Rattle.std.proofs.Common.{◌≡◌, ◌≤◌, ◌%◌, length, arith}
use Rattle.bd_uapi.specs.Bytes.{long_at}
use Rattle.bd_c.proofs.Walking.{early, sound, faulty}
use Rattle.bd_c.proofs.walks.WalkInC.judge.Goals as goal

pub returns-then-u64_at-self : goal.returns-then-u64_at-self
returns-then-u64_at-self c =
    early c.args.bytes.now c.args.self.now.end c.args.self.now.index (long_at 0 c.args.offset.now) (omega (arith, c.u64_at.ensures, c.if-u64_at-self.true))

pub returns-in-Ok : goal.returns-in-Ok
returns-in-Ok c =
    let whole : length c.args.offset.now % 8 ≡ 0 = omega arith in
    let le : c.args.self.now.end ≤ long_at 0 c.args.offset.now = omega (arith, c.u64_at.ensures, c.if-u64_at-self.false) in
    sound c.args.bytes.now c.args.offset.now c.in-Ok.objects.offsets c.in-Ok.objects.objects c.args.self.now.end c.args.self.now.index c.get-found.result.object c.get-found.result.start
    c.requires le (c.in-Ok.ensures.fault whole) c.in-Ok.ensures.parts.1 c.in-Ok.ensures.computed c.get-found.ensures.object c.get-found.ensures.start

pub returns-in-Err : goal.returns-in-Err
returns-in-Err c =
    let whole : length c.args.offset.now % 8 ≡ 0 = omega arith in
    let le : c.args.self.now.end ≤ long_at 0 c.args.offset.now = omega (arith, c.u64_at.ensures, c.if-u64_at-self.false) in
    rw c.with_index.ensures (faulty c.args.bytes.now c.args.offset.now c.args.self.now.end c.args.self.now.index c.in-Err.fault c.requires le (c.in-Err.ensures.fault whole))
