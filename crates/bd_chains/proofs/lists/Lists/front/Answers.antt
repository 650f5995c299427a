use Rattle.std.proofs.Common.{sym, ap, find, ◌∙◌}
use Rattle.std.specs.List.{slice_get}
use Rattle.bd_chains.specs.Rows.{values}
use Rattle.bd_chains.proofs.Listing.{first_yielded, first_kept, on_list}
use Rattle.bd_chains.proofs.lists.Lists.front.Goals as goal

pub returns : goal.returns
returns g c = λ f k rs h.
    let E = g.N.Numbering.same in let t = c.args.self.now in let law = g.met.N.Numbering in
    first_yielded c.items_on.result c.next.result _ c.next.ensures.steps
    ∙ ap (λ vs. slice_get vs 0) (c.items_on.ensures rs h.holds ∙ sym (on_list f k E (g.N.Numbering.number t.numbers) t.chains (law.one_number t.numbers) rs h c.args.key c.of.result (sym c.of.ensures) rs h.listed))
    ∙ first_kept (λ v. E c.args.key (f v)) (values rs) ∙ (λ i. find (λ v. law.turned c.args.key (f v) i) (values rs))
