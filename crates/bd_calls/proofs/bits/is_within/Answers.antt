use Rattle.std.proofs.Common.{eqb-true}
use Rattle.bd_calls.proofs.Marked.{none_missing}
use Rattle.bd_calls.proofs.bits.is_within.Goals as goal

pub returns : goal.returns
returns c = λ within i low is_set. none_missing c.args.word c.args.other i low c.ranges.other.fits (eqb-true _ _ within) is_set
