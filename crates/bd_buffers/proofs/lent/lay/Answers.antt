use Rattle.bd_buffers.proofs.Words.{ap, arith, length}
use Rattle.bd_buffers.proofs.lent.lay.Goals as goal

pub write-requires : goal.write-requires
write-requires c = omega (arith, ap length c.bytes.ensures)

pub write-requires-2 : goal.write-requires-2
write-requires-2 c = omega (arith, ap length c.offsets.ensures)
