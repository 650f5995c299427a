use Rattle.std.proofs.Common.{refl}
use Rattle.bd_chains.proofs.Listing.{kept_shows}
use Rattle.bd_chains.proofs.lists.Lists.reserve.Goals as goal

pub returns-in_err-reserve-clause-stands : goal.returns-in_err-reserve-clause-stands
returns-in_err-reserve-clause-stands g c = λ f k rs h.
    let M = g.N.Numbering.number c.args.self.now.numbers in
    kept_shows f k g.N.Numbering.same M M c.args.self.now.chains c.reserve.new.self rs rs h (c.reserve.ensures.stands rs h.holds) h.listed c.reserve.ensures.open (λ l. refl)

pub returns-clause-stands : goal.returns-clause-stands
returns-clause-stands g c = λ f k rs h.
    let N = g.N.Numbering.number in
    kept_shows f k g.N.Numbering.same (N c.args.self.now.numbers) (N c.reserve-2.new.self) c.args.self.now.chains c.reserve.new.self rs rs h (c.reserve.ensures.stands rs h.holds) h.listed c.reserve.ensures.open c.reserve-2.ensures.numbers
