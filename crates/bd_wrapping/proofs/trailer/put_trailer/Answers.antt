use Rattle.std.proofs.Common.{arith}
use Rattle.bd_wrapping.proofs.Writes.{wrapped_by}
use Rattle.bd_wrapping.proofs.trailer.put_trailer.Goals as goal

pub returns : goal.returns
returns c =
    let s = c.in-Some.ensures.some in (
      s.0,
      omega (arith, s.1),
      wrapped_by c.args.laid c.in-Some.size c.args.trailer.now c.args.out.now c.clear.new.out c.write.new.out s.1 s.2 (omega (arith, s.3)) c.clear.ensures c.write.ensures,
    )
