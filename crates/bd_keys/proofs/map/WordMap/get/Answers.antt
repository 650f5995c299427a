use Rattle.std.proofs.Common.{Some, None, ◌∙◌}
use Rattle.bd_keys.specs.Treed.{tree_look}
use Rattle.bd_keys.specs.Look.{look}
use Rattle.bd_keys.proofs.Latest.{here_first}
use Rattle.bd_keys.proofs.map.WordMap.get.Goals as goal

pub returns-in-Some : goal.returns-in-Some
unfolding look
returns-in-Some g c =
    let m = c.args.self.now in
    here_first (tree_look m.others) m.latest c.args.k (Some c.in-Some.v) _ c.in-Some.is c.latest_value.ensures

pub returns-in-None : goal.returns-in-None
unfolding look
returns-in-None g c =
    let m = c.args.self.now in
    c.get.ensures ∙ here_first (tree_look m.others) m.latest c.args.k None _ c.in-None.is c.latest_value.ensures
