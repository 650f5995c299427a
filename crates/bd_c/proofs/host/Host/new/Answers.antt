use Rattle.std.proofs.Common.{ap, arith, length}
use Rattle.bd_c.proofs.NewSeats.{how_many}
use Rattle.bd_c.proofs.host.Host.new.Goals as goal

pub invariant_of-result-clause-within : goal.invariant_of-result-clause-within
invariant_of-result-clause-within c =
    omega (arith, c.in-Ok.seats.ok.0, ap length c.in-Ok.ensures.seats, how_many c.in-Ok.driver.table c.args.count 0 c.args.count)

pub invariant_of-result-clause-room : goal.invariant_of-result-clause-room
invariant_of-result-clause-room c =
    omega (arith, c.in-Ok.seats.ok.0, c.in-Ok.seats.ok.1, ap length c.in-Ok.ensures.seats, how_many c.in-Ok.driver.table c.args.count 0 c.args.count)
