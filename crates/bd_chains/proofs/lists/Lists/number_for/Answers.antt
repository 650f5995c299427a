use Rattle.std.proofs.Common.{refl, sym, ap, cond, Some, ◌∙◌}
use Rattle.bd_chains.proofs.Listing.{opened_shows, kept_shows}
use Rattle.bd_chains.proofs.lists.Lists.number_for.Goals as goal

pub returns-in-Some-clause-stands : goal.returns-in-Some-clause-stands
returns-in-Some-clause-stands g c = λ f k rs h.
    let N = g.N.Numbering.number in let t = c.args.self.now in
    kept_shows f k g.N.Numbering.same (N t.numbers) (N c.find.new.self) t.chains t.chains rs rs h h.holds h.listed (λ m. refl) c.find.ensures.numbers

pub returns-in-Some-clause-number : goal.returns-in-Some-clause-number
returns-in-Some-clause-number g c = c.find.ensures.numbers c.args.key ∙ sym c.find.ensures.found ∙ c.in-Some.is

pub returns-clause-stands : goal.returns-clause-stands
returns-clause-stands g c = λ f k rs h.
    let N = g.N.Numbering.number in let E = g.N.Numbering.same in let t = c.args.self.now in
    let law = g.met.N.Numbering in
    opened_shows f k E (N t.numbers) (N c.insert.new.self) t.chains c.open-number.new.self law.alike (law.one_number t.numbers) rs h c.args.key c.open-number.result
    (sym c.find.ensures.found ∙ c.in_default.is) (c.open-number.ensures.stands rs h.holds) c.open-number.ensures.fresh c.open-number.ensures.open
    (λ l. c.insert.ensures.numbers l ∙ ap (λ o. cond (E c.args.key l) (Some c.open-number.result) o) (c.find.ensures.numbers l))

pub returns-clause-number : goal.returns-clause-number
returns-clause-number g c =
    c.insert.ensures.numbers c.args.key ∙ ap (λ b. cond b (Some c.open-number.result) (g.N.Numbering.number c.find.new.self c.args.key)) (g.met.N.Numbering.itself c.args.key)
