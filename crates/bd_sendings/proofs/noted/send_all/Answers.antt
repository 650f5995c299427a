use Rattle.std.proofs.Common.{◌∙◌, rules, arith}
use Rattle.bd_sendings.proofs.Walks.{one_more, none_left}
use Rattle.bd_sendings.proofs.noted.send_all.Goals as goal

pub loop-index-preserved : goal.loop-index-preserved
loop-index-preserved c = record {
  so_far = one_more c.args.sending.now c.args.body.now c.args.offsets.now c.loop-index.index c.u64_at-offset.result c.loop-index.known.items c.send_at.new.known.items _
      (omega arith) c.u64_at-offset.ensures c.send_at.ensures.sent c.loop-index.invariant.so_far;
  capacity = c.send_at.ensures.capacity ∙ c.loop-index.invariant.capacity;
}

pub returns : goal.returns
returns c = record {
  sent = none_left c.args.sending.now c.args.body.now c.args.offsets.now c.loop-index.index c.loop-index.known.items _ (omega (arith, c.loop-index-test.false)) c.loop-index.invariant.so_far;
  capacity = c.loop-index.invariant.capacity;
}
