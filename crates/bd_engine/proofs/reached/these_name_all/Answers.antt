use Rattle.bd_engine.proofs.Reaching.{these_name_all}
use Rattle.bd_engine.proofs.reached.these_name_all.Goals as goal

pub returns : goal.returns
returns c = these_name_all
