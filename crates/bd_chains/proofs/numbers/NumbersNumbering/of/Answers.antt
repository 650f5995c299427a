use Rattle.std.proofs.Common.{sym, ◌∙◌}
use Rattle.std.specs.HashMap.Eq.{lookup_congr}
use Rattle.bd_chains.proofs.numbers.NumbersNumbering.of.Goals as goal

pub returns-then-eq : goal.returns-then-eq
returns-then-eq g c =
    sym (c.args.self.now.noted c.in-Some.recent c.in-Some.is)
    ∙ lookup_congr g.K.PartialEq.eq g.met.K.Eq.laws.congr c.args.self.now.all.entries c.in-Some.recent.key c.args.key (sym c.eq.ensures ∙ c.if-eq.true)
