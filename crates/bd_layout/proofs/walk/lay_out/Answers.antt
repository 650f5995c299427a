use Rattle.std.proofs.Common.{◌≡◌, true, false, arith, rules}
use Rattle.bd_layout.specs.Plans.{object, plan_of}
use Rattle.bd_layout.proofs.Walks.{more_planned, refused, all_planned, is_some, is_none}
use Rattle.bd_layout.proofs.walk.lay_out.Goals as goal

pub returns-then-not-is_taken : goal.returns-then-not-is_taken
returns-then-not-is_taken c =
    let no : c.in_ok-is_taken.is_taken ≡ false = search rules in
    let none = is_none c.in_ok-is_taken.is_taken c.object.new.self (object c.args.body.now c.args.room.now c.args.count c.loop-index.index c.u64_at-offset.result c.loop-index.layout) c.in_ok-is_taken.ensures.next no in
    refused c.args.body.now c.args.offsets.now c.args.room.now c.args.count c.loop-index.index c.u64_at-offset.result c.loop-index.layout
    (plan_of c.args.body.now c.args.offsets.now c.args.room.now c.args.count) (omega arith) c.u64_at-offset.ensures none c.loop-index.invariant.0

pub loop-index-preserved : goal.loop-index-preserved
loop-index-preserved c =
    let yes : c.in_ok-is_taken.is_taken ≡ true = search rules in
    let some = is_some c.in_ok-is_taken.is_taken c.object.new.self (object c.args.body.now c.args.room.now c.args.count c.loop-index.index c.u64_at-offset.result c.loop-index.layout) c.in_ok-is_taken.ensures.next yes in (
      more_planned c.args.body.now c.args.offsets.now c.args.room.now c.args.count c.loop-index.index c.u64_at-offset.result c.loop-index.layout c.object.new.self
          (plan_of c.args.body.now c.args.offsets.now c.args.room.now c.args.count) (omega arith) c.u64_at-offset.ensures some c.loop-index.invariant.0,
      omega (arith, c.in_ok-is_taken.ensures.longer, c.loop-index.invariant.1),
    )

pub returns : goal.returns
returns c =
    all_planned c.args.body.now c.args.offsets.now c.args.room.now c.args.count c.loop-index.index c.loop-index.layout
    (plan_of c.args.body.now c.args.offsets.now c.args.room.now c.args.count) (omega (arith, c.loop-index-test.false)) c.loop-index.invariant.0
