use Rattle.std.proofs.Common.{sym, ◌∙◌}
use Rattle.bd_keys.proofs.Looks.{look_none, nothing_there}
use Rattle.bd_keys.proofs.treed.TreeMap.get.Goals as goal

pub returns-in_err-at : goal.returns-in_err-at
returns-in_err-at g c =
    c.from_residual.ensures ∙ sym (look_none c.args.self.now c.args.k (sym c.index_of.ensures.place ∙ c.in_err-at.was))

pub returns : goal.returns
returns g c = c.value.ensures c.args.k (sym c.index_of.ensures.place ∙ c.in_ok-at.was)

pub returns-then-self-eq0 : goal.returns-then-self-eq0
returns-then-self-eq0 g c = sym (nothing_there c.args.self.now c.args.k c.if-self-eq0.true)
