use Rattle.std.proofs.Common.{is_some, refl, ap, sym, ◌∙◌}
use Rattle.std.specs.Option.{option_map}
use Rattle.bd_keys.proofs.Options.{none_is}
use Rattle.bd_keys.specs.Treed.{tree_look}
use Rattle.bd_keys.proofs.Looks.{look_none, hidden, some_there}
use Rattle.bd_keys.proofs.treed.TreeMap.set.Goals as goal

pub returns-then-is_some-clause-set : goal.returns-then-is_some-clause-set
returns-then-is_some-clause-set g c = λ l.
    let here = sym c.index_of.ensures.place ∙ c.in-Some.is in
    c.set_at.ensures.put c.args.k l here
    ∙ some_there (tree_look c.args.self.now) c.args.k l c.args.v
    (ap is_some (sym (c.value.ensures c.args.k here)) ∙ sym c.is_some.ensures ∙ c.if-is_some.true)

pub returns-else-is_some-clause-set : goal.returns-else-is_some-clause-set
returns-else-is_some-clause-set g c = λ l.
    let here = sym c.index_of.ensures.place ∙ c.in-Some.is in
    hidden (tree_look c.args.self.now) c.args.k l (option_map (λ x. c.args.v))
    (sym (c.value.ensures c.args.k here) ∙ none_is c.value.result (sym c.is_some.ensures ∙ c.if-is_some.false)) refl

pub returns-in_default-clause-set : goal.returns-in_default-clause-set
returns-in_default-clause-set g c = λ l.
    let m = c.args.self.now in
    hidden (tree_look m) c.args.k l (option_map (λ x. c.args.v))
    (look_none m c.args.k (sym c.index_of.ensures.place ∙ c.in_default.is)) refl
