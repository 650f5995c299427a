use Rattle.bd_c.proofs.Answering.{finishes_none}
use Rattle.bd_c.proofs.driver_calls.hullpippin_finish.Goals as goal

pub returns-in-Some-clause-misuse : goal.returns-in-Some-clause-misuse
returns-in-Some-clause-misuse c = finishes_none c.args.driver.now.held c.in-Some.held.now c.finish.new.self c.finish.result c.number.result c.in-Some.ensures.held c.number.ensures c.finish.ensures.misuse
