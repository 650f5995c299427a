use Rattle.std.proofs.Common.{◌≡◌, ◌≤◌, ◌+◌, length, Some, None, arith}
use Rattle.bd_uapi.specs.Bytes.{word_at}
use Rattle.bd_bridge_live.specs.Deferring.{size_behind, all_can_wait}
use Rattle.bd_bridge_live.proofs.Deferrings.{all_read, is_short, is_other, is_cut, goes_on, ends}
use Rattle.bd_bridge_live.proofs.deferring.all_can_wait.Goals as goal

pub returns-then-at-bytes : goal.returns-then-at-bytes
returns-then-at-bytes c = all_read c.loop-left.left c.loop-left.at c.args.bytes.now (all_can_wait (length c.args.bytes.now) c.args.bytes.now) (omega arith) c.loop-left.invariant.same

pub returns-then-bytes-at-lt4 : goal.returns-then-bytes-at-lt4
returns-then-bytes-at-lt4 c = is_short c.loop-left.left c.loop-left.at c.args.bytes.now (all_can_wait (length c.args.bytes.now) c.args.bytes.now) (omega arith) (omega arith) (omega arith) c.loop-left.invariant.same

pub returns-in_default : goal.returns-in_default
returns-in_default c =
    let none : size_behind (word_at c.loop-left.at c.args.bytes.now) ≡ None = cc in
    is_other c.loop-left.left c.loop-left.at c.args.bytes.now (all_can_wait (length c.args.bytes.now) c.args.bytes.now) (omega arith) (omega arith) none c.loop-left.invariant.same

pub returns-then-bytes-at : goal.returns-then-bytes-at
returns-then-bytes-at c =
    let some : size_behind (word_at c.loop-left.at c.args.bytes.now) ≡ Some c.in-Some.size = cc in
    is_cut c.loop-left.left c.loop-left.at c.in-Some.size c.args.bytes.now (all_can_wait (length c.args.bytes.now) c.args.bytes.now) (omega arith) (omega arith) some (omega arith) (omega arith) c.loop-left.invariant.same

pub loop-left-preserved : goal.loop-left-preserved
loop-left-preserved c =
    let some : size_behind (word_at c.loop-left.at c.args.bytes.now) ≡ Some c.in-Some.size = cc in
    let le : c.loop-left.at + (4 + c.in-Some.size) ≤ length c.args.bytes.now = omega arith in record {
      within = le;
      same = goes_on c.loop-left.left _ c.loop-left.at c.in-Some.size c.args.bytes.now (all_can_wait (length c.args.bytes.now) c.args.bytes.now) (omega arith) (omega arith) some le c.loop-left.invariant.same;
    }

pub returns : goal.returns
returns c = ends c.loop-left.left c.loop-left.at c.args.bytes.now (all_can_wait (length c.args.bytes.now) c.args.bytes.now) (omega arith) c.loop-left.invariant.within c.loop-left.invariant.same
