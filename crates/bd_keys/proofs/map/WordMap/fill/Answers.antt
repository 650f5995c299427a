use Rattle.std.proofs.Common.{Option, Some, ap, sym, ◌∙◌}
use Rattle.std.specs.Prelude.{is_some}
use Rattle.std.specs.Option.{option_or}
use Rattle.bd_keys.specs.Treed.{tree_look}
use Rattle.bd_keys.specs.Look.{look}
use Rattle.bd_keys.proofs.Latest.{at_same, shows_behind, stays, there_some}
use Rattle.bd_keys.proofs.Options.{none_is}
use Rattle.bd_keys.proofs.map.WordMap.fill.Goals as goal

pub returns-then-is_some-clause-put : goal.returns-then-is_some-clause-put
unfolding look
returns-then-is_some-clause-put g c = λ l.
    let m = c.args.self.now in
    let there = ap is_some (sym c.latest_value.ensures) ∙ sym c.is_some.ensures ∙ c.if-is_some.true in
    stays (look m) c.args.k l c.args.v (there_some (tree_look m.others) m.latest c.args.k there)

pub returns-clause-put : goal.returns-clause-put
unfolding look
returns-clause-put g c = λ l.
    let m = c.args.self.now in
    let h = λ (o : Option g.row.V.Denot). option_or o (Some c.args.v) in
    shows_behind (tree_look m.others) m.latest h c.args.k l _
    (sym c.latest_value.ensures ∙ none_is c.latest_value.result (sym c.is_some.ensures ∙ c.if-is_some.false))
    (c.fill.ensures.put l ∙ at_same (tree_look m.others) h c.args.k l)
    ∙ sym (at_same (look m) h c.args.k l)
