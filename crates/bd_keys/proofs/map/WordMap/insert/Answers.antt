use Rattle.std.proofs.Common.{ap, sym, ◌∙◌}
use Rattle.std.specs.Prelude.{is_some}
use Rattle.bd_keys.specs.Keys.{same_word}
use Rattle.bd_keys.specs.Treed.{tree_look}
use Rattle.bd_keys.specs.Look.{look}
use Rattle.bd_keys.proofs.Latest.{put_again, comes_first}
use Rattle.bd_keys.proofs.map.WordMap.insert.Goals as goal

pub returns-then-is_some-clause-put : goal.returns-then-is_some-clause-put
unfolding look
returns-then-is_some-clause-put g c = λ l.
    let m = c.args.self.now in
    put_again (tree_look m.others) m.latest c.args.k l c.args.v
    (ap is_some (sym c.latest_value.ensures) ∙ sym c.is_some.ensures ∙ c.if-is_some.true)

pub returns-clause-put : goal.returns-clause-put
unfolding look
returns-clause-put g c = λ l. comes_first (same_word c.args.k l) c.args.v _ _ _ (c.remove-gone.ensures.gone l) (c.settle.ensures.kept l)
