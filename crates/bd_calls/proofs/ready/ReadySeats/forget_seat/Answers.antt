use Rattle.bd_calls.proofs.Grouped.{none_grouped}
use Rattle.bd_calls.proofs.ready.ReadySeats.forget_seat.Goals as goal

pub keep-requires-clause-grouped : goal.keep-requires-clause-grouped
keep-requires-clause-grouped c = none_grouped c.args.self.now.groups c.args.seat
