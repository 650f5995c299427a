use Rattle.std.proofs.Common.{arith}
use Rattle.bd_wrapping.proofs.Walks.{one_more, none_left, at_most_one}
use Rattle.bd_wrapping.specs.Ways.{is_known}
use Rattle.bd_wrapping.proofs.way.count_known.Goals as goal

pub loop-index-preserved : goal.loop-index-preserved
loop-index-preserved c = (
  one_more c.args.body.now c.args.offsets.now c.loop-index.index c.u64_at-offset.result c.one_if_known-more.result c.loop-index.count _ (omega arith) c.u64_at-offset.ensures
      c.one_if_known-more.ensures c.loop-index.invariant.0,
  omega (arith, c.loop-index.invariant.1, c.one_if_known-more.ensures, at_most_one (is_known c.args.body.now c.u64_at-offset.result)),
)

pub returns : goal.returns
returns c = record {
  all = none_left c.args.body.now c.args.offsets.now c.loop-index.index c.loop-index.count _ (omega (arith, c.loop-index-test.false)) c.loop-index.invariant.0;
  few = omega (arith, c.loop-index.invariant.1);
}
