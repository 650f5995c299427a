use Rattle.std.proofs.Common.{Some, None, ap, sym, ◌∙◌}
use Rattle.std.specs.Prelude.{is_some}
use Rattle.bd_keys.specs.Treed.{tree_look}
use Rattle.bd_keys.specs.Look.{look}
use Rattle.bd_keys.proofs.Latest.{here_first, goes_first, shows_behind}
use Rattle.bd_keys.proofs.map.WordMap.remove.Goals as goal

pub returns-in-Some-clause-taken : goal.returns-in-Some-clause-taken
unfolding look
returns-in-Some-clause-taken g c =
    let m = c.args.self.now in
    here_first (tree_look m.others) m.latest c.args.k (Some c.in-Some.v) _ c.in-Some.is c.latest_value.ensures

pub returns-in-Some-clause-gone : goal.returns-in-Some-clause-gone
unfolding look
returns-in-Some-clause-gone g c = λ l.
    let m = c.args.self.now in
    goes_first (tree_look m.others) m.latest c.args.k l (ap is_some (sym c.latest_value.ensures ∙ c.in-Some.is)) m.apart

pub returns-in-None-clause-taken : goal.returns-in-None-clause-taken
unfolding look
returns-in-None-clause-taken g c =
    let m = c.args.self.now in
    c.remove.ensures.taken ∙ here_first (tree_look m.others) m.latest c.args.k None _ c.in-None.is c.latest_value.ensures

pub returns-in-None-clause-gone : goal.returns-in-None-clause-gone
unfolding look
returns-in-None-clause-gone g c = λ l.
    let m = c.args.self.now in
    shows_behind (tree_look m.others) m.latest (λ o. None) c.args.k l _ (sym c.latest_value.ensures ∙ c.in-None.is) (c.remove.ensures.gone l)
