use Rattle.std.proofs.Common.{refl}
use Rattle.bd_c.specs.Tickets.{with_parcel}
use Rattle.bd_c.proofs.HandingOut.{stays, none_there}
use Rattle.bd_c.proofs.tickets.take_tickets.Goals as goal

pub returns-then-size-out : goal.returns-then-size-out
returns-then-size-out c =
    stays c.args.tickets.now c.args.step c.in-Some.size c.args.count.now c.args.out.now (with_parcel c.args.tickets.now c.args.step) refl c.in-Some.ensures.some c.if-size-out.true

pub unreachable-requires : goal.unreachable-requires
unreachable-requires c = none_there c.in-Some.size (with_parcel c.args.tickets.now c.args.step) c.in-None.ensures.which c.in-Some.ensures.some
