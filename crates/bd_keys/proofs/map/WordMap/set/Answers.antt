use Rattle.std.proofs.Common.{ap, sym, ◌∙◌}
use Rattle.std.specs.Prelude.{is_some}
use Rattle.std.specs.Option.{option_map}
use Rattle.bd_keys.specs.Treed.{tree_look}
use Rattle.bd_keys.specs.Look.{look}
use Rattle.bd_keys.proofs.Latest.{put_again, shows_behind, there_some}
use Rattle.bd_keys.proofs.Looks.{some_there}
use Rattle.bd_keys.proofs.Options.{none_is}
use Rattle.bd_keys.proofs.map.WordMap.set.Goals as goal

pub returns-then-is_some-clause-set : goal.returns-then-is_some-clause-set
unfolding look
returns-then-is_some-clause-set g c = λ l.
    let m = c.args.self.now in
    let there = ap is_some (sym c.latest_value.ensures) ∙ sym c.is_some.ensures ∙ c.if-is_some.true in
    put_again (tree_look m.others) m.latest c.args.k l c.args.v there
    ∙ some_there (look m) c.args.k l c.args.v (there_some (tree_look m.others) m.latest c.args.k there)

pub returns-else-is_some-clause-set : goal.returns-else-is_some-clause-set
unfolding look
returns-else-is_some-clause-set g c = λ l.
    let m = c.args.self.now in
    shows_behind (tree_look m.others) m.latest (option_map (λ x. c.args.v)) c.args.k l _
    (sym c.latest_value.ensures ∙ none_is c.latest_value.result (sym c.is_some.ensures ∙ c.if-is_some.false)) (c.set.ensures.set l)
