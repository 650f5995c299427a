use Rattle.bd_driver.proofs.Serves.{picks_serving, serves_nothing, serves_one}
use Rattle.bd_driver.proofs.driver.Driver.serve_one.Goals as goal

pub run_picked-engine-requires-clause-picked : goal.run_picked-engine-requires-clause-picked
run_picked-engine-requires-clause-picked c = picks_serving _ _ c.args.number c.in-Some.request c.args.engine c.requires.serving c.in-Some.ensures.picks

pub returns-clause-served : goal.returns-clause-served
returns-clause-served c = serves_one _ _ _ c.args.number c.in-Some.request c.in-Some.ensures.picks c.run_picked-engine.ensures.ran

pub returns-in_default-clause-served : goal.returns-in_default-clause-served
returns-in_default-clause-served c = serves_nothing _ _ c.args.number c.in_default.ensures.picks
