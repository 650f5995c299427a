use Rattle.std.proofs.Common.{ap, sym, ◌∙◌}
use Rattle.std.specs.Option.{option_or}
use Rattle.bd_keys.specs.Treed.{tree_look}
use Rattle.bd_keys.specs.Look.{look, latest_at}
use Rattle.bd_keys.proofs.Latest.{goes_behind}
use Rattle.bd_keys.proofs.map.WordMap.settle.Goals as goal

pub returns-in-Some-clause-kept : goal.returns-in-Some-clause-kept
unfolding look
returns-in-Some-clause-kept g c = λ l.
    let f = tree_look c.args.self.now.others in
    c.insert.ensures.put l ∙ goes_behind f c.in-Some.x l ∙ ap (λ o. option_or (latest_at o l) (f l)) (sym c.in-Some.is)
