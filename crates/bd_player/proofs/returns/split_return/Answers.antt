use Rattle.std.proofs.Common.{arith, sym}
use Rattle.bd_player.proofs.Streams.{one_read, none_read}
use Rattle.bd_player.proofs.returns.split_return.Goals as goal

pub returns-in-Ok : goal.returns-in-Ok
returns-in-Ok c = one_read c.args.stream.now c.in-Ok.told c.in-Ok.len (λ i. omega (arith, c.type_inv.stream i)) (sym c.in-Ok.ensures.computed)

pub returns-in-Err : goal.returns-in-Err
returns-in-Err c = none_read c.args.stream.now _ (sym c.in-Err.ensures.computed)
