use Rattle.bd_step.proofs.{Words.{refl}, Gathering.{grows_as}}
use Rattle.bd_step.proofs.tables.Tables.reserve_exit.Goals as goal

pub returns-clause-grows : goal.returns-clause-grows
returns-clause-grows c = grows_as _ _ c.in_order.ensures.touched.among refl
