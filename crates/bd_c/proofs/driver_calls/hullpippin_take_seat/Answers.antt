use Rattle.std.proofs.Common.{◌≡◌, ◌∙◌, refl}
use Rattle.std.specs.Prelude.{Option, Some}
use Rattle.bd_c.specs.declared.held.Held.{Held}
use Rattle.bd_c.specs.declared.held.Held.TheVariants.{Seat}
use Rattle.bd_c.specs.declared.status.Status.TheVariants.{NoMemory}
use Rattle.bd_c.proofs.Answering.{hands_refused, hands_done}
use Rattle.bd_c.proofs.driver_calls.hullpippin_take_seat.Goals as goal

pub returns-in_default-new-clause-hands : goal.returns-in_default-new-clause-hands
returns-in_default-new-clause-hands c = λ _ empty.
    let host = c.in-Some.host.now in
    hands_refused c.args.driver.now.held c.is_there.new.self.held host host NoMemory c.number-in_default-new.result c.in-Some.ensures.host (c.is_there.ensures.same ∙ empty) c.number-in_default-new.ensures refl

pub returns-in-Ok-take_seat-clause-hands : goal.returns-in-Ok-take_seat-clause-hands
returns-in-Ok-take_seat-clause-hands c = λ _ _.
    let at : Option Held = c.put.new.handle.held in
    let kept : at ≡ Some (Seat c.in-Ok-take_seat.taken) = cc in
    hands_done c.args.driver.now.held at c.in-Some.host.now c.take_seat.new.self c.in-Ok-take_seat.taken c.number-in-Ok-take_seat.result c.in-Some.ensures.host kept c.number-in-Ok-take_seat.ensures c.in-Ok-take_seat.ensures.ok
