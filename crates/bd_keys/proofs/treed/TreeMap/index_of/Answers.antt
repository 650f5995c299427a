use Rattle.bd_keys.proofs.Looks.{within}
use Rattle.bd_keys.proofs.treed.TreeMap.index_of.Goals as goal

pub returns-clause-within : goal.returns-clause-within
returns-clause-within g c = within c.args.self.now c.args.k c.find.result c.find.ensures
