use Rattle.bd_driver.proofs.{Looks.{looks}, Words.{rules}}
use Rattle.bd_driver.proofs.driver.Driver.look.Goals as goal

pub load-requires : goal.load-requires
load-requires c = (search rules, search rules, looks _ _ _ _ c.seat.invariant.one)
