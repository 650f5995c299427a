use Rattle.std.proofs.Common.{◌≡◌, rules, sym, subst}
use Rattle.std.specs.Prelude.{Option, Some}
use Rattle.bd_c.specs.declared.held.Held.{Held}
use Rattle.bd_c.specs.declared.held.Held.TheVariants.{Driver, Seat}
use Rattle.bd_c.specs.declared.status.Status.TheVariants.{Done}
use Rattle.bd_c.specs.Behind.{Of, Over, driver_of, seat_of}
use Rattle.bd_c.specs.Hosts.{TakesBack}
use Rattle.bd_c.proofs.driver_calls.hullpippin_return_seat.Goals as goal

pub returns-clause-returns : goal.returns-clause-returns
returns-clause-returns c = λ _.
    let old = c.in-Some-host.host.now in
    let new = c.return_seat.new.self in
    let at : Option Held = c.args.seat.now.held in
    let was : at ≡ Some (Seat c.in-Seat.seat) = cc in
    let back : Of seat_of at (TakesBack old new) = subst (λ (m : Option Held). Of seat_of m (TakesBack old new)) (sym was) c.return_seat.ensures in
    (Done, search rules, (subst (λ (h : Option Held). Over driver_of h (Some (Driver new)) (λ x y. Of seat_of at (TakesBack x y))) (sym c.in-Some-host.ensures.host) back, c.take.ensures.empty))
