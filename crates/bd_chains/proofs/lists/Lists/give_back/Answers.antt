use Rattle.std.proofs.Common.{not, sym, ap, ◌∙◌, arith}
use Rattle.std.specs.List.{slice_get}
use Rattle.bd_keys.proofs.Options.{none_is}
use Rattle.bd_chains.proofs.Listing.{empty_ring, closed_shows, ring_there}
use Rattle.bd_chains.proofs.lists.Lists.give_back.Goals as goal

pub returns-then-is_none-clause-stands : goal.returns-then-is_none-clause-stands
returns-then-is_none-clause-stands g c = λ f k rs h.
    let N = g.N.Numbering.number in let t = c.args.self.now in let law = g.met.N.Numbering in
    let empty = empty_ring _ (sym (c.first.ensures rs h.holds) ∙ none_is c.first.result (c.is_none.ensures ∙ ap not c.if-is_none.true)) in
    closed_shows f k g.N.Numbering.same (N t.numbers) (N c.remove.new.self) t.chains c.close.new.self law.alike (law.one_number t.numbers) rs h c.args.key c.in-Some.number
    (sym c.of.ensures ∙ c.in-Some.is) empty (c.close.ensures.stands rs h.holds empty) c.close.ensures.open c.remove.ensures.numbers

pub returns-then-is_none-clause-gone : goal.returns-then-is_none-clause-gone
returns-then-is_none-clause-gone g c = λ f k rs h none.
    let law = g.met.N.Numbering in grind (arith, c.remove.ensures.numbers c.args.key, law.itself c.args.key)

pub returns-else-is_none-clause-gone : goal.returns-else-is_none-clause-gone
returns-else-is_none-clause-gone g c = λ f k rs h none.
    let E = g.N.Numbering.same in let t = c.args.self.now in let law = g.met.N.Numbering in
    let number = sym c.of.ensures ∙ c.in-Some.is in
    let empty = ring_there f k E (g.N.Numbering.number t.numbers) t.chains (law.one_number t.numbers) rs h c.args.key c.in-Some.number number rs h.listed none in
    grind (arith, c.first.ensures rs h.holds ∙ ap (λ ks. slice_get ks 0) empty, c.is_none.ensures, c.if-is_none.false)

pub returns-then-is_none-clause-fewer : goal.returns-then-is_none-clause-fewer
returns-then-is_none-clause-fewer g c = λ k none. grind (arith, c.remove.ensures.numbers k, none)
