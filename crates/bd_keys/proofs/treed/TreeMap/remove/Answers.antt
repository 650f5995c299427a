use Rattle.std.proofs.Common.{None, refl, sym, ◌∙◌}
use Rattle.bd_keys.specs.Treed.{tree_look}
use Rattle.bd_keys.proofs.Looks.{look_none, nothing_there, hidden}
use Rattle.bd_keys.proofs.treed.TreeMap.remove.Goals as goal

pub returns-in_err-at-clause-taken : goal.returns-in_err-at-clause-taken
returns-in_err-at-clause-taken g c =
    c.from_residual.ensures ∙ sym (look_none c.args.self.now c.args.k (sym c.index_of.ensures.place ∙ c.in_err-at.was))

pub returns-in_err-at-clause-gone : goal.returns-in_err-at-clause-gone
returns-in_err-at-clause-gone g c = λ l.
    let m = c.args.self.now in
    hidden (tree_look m) c.args.k l (λ o. None)
    (look_none m c.args.k (sym c.index_of.ensures.place ∙ c.in_err-at.was)) refl

pub returns-clause-taken : goal.returns-clause-taken
returns-clause-taken g c = c.value-value.ensures c.args.k (sym c.index_of.ensures.place ∙ c.in_ok-at.was)

pub returns-clause-gone : goal.returns-clause-gone
returns-clause-gone g c = λ l. c.set_at.ensures.put c.args.k l (sym c.index_of.ensures.place ∙ c.in_ok-at.was)

pub returns-then-self-eq0-clause-taken : goal.returns-then-self-eq0-clause-taken
returns-then-self-eq0-clause-taken g c = sym (nothing_there c.args.self.now c.args.k c.if-self-eq0.true)

pub returns-then-self-eq0-clause-gone : goal.returns-then-self-eq0-clause-gone
returns-then-self-eq0-clause-gone g c = λ l.
    let m = c.args.self.now in
    hidden (tree_look m) c.args.k l (λ o. None) (nothing_there m c.args.k c.if-self-eq0.true) refl
