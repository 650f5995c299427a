use Rattle.bd_calls.proofs.Marked.{bit_set, bit_cleared}
use Rattle.bd_calls.proofs.bits.with_bit.Goals as goal

pub returns-then-set : goal.returns-then-set
returns-then-set c = λ i low. rw c.if-set.true (bit_set c.args.word c.args.at i c.requires low)

pub returns-else-set : goal.returns-else-set
returns-else-set c = λ i low. rw c.if-set.false (bit_cleared c.args.word c.args.at i c.requires low)
