use Rattle.std.proofs.Common.{None, ap, sym, ◌∙◌}
use Rattle.std.proofs.lemmas.List.{get_or_read}
use Rattle.bd_keys.specs.Treed.{tree_look, value_at}
use Rattle.bd_keys.proofs.treed.TreeMap.value.Goals as goal

pub returns : goal.returns
unfolding tree_look
returns g c = λ k here.
    let vs = c.args.self.now.values.items in
    get_or_read vs c.args.at c.index.result.now c.requires c.index.ensures None ∙ sym (ap (value_at vs) here)
