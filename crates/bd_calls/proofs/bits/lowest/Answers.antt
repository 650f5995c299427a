use Rattle.std.proofs.Common.{arith, w32}
use Rattle.std.proofs.lemmas.Nat.Bits.{bit_at-trailing_zeros}
use Rattle.bd_calls.proofs.bits.lowest.Goals as goal

pub returns : goal.returns
returns c =
    let h = bit_at-trailing_zeros w32 c.args.word (omega (arith, c.requires)) c.ranges.word.fits in
    record { bound = h.0; set = h.1 }
