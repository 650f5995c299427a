use Rattle.std.proofs.Common.{refl, ap, ◌∙◌, ◌++◌, ◌∷◌, []}
use Rattle.bd_chains.specs.Rows.{Row}
use Rattle.bd_chains.proofs.Listing.{kept_shows, listed_more}
use Rattle.bd_chains.proofs.lists.Lists.push.Goals as goal

pub returns-clause-stands : goal.returns-clause-stands
returns-clause-stands g c = λ f k rs is count h.
    let E = g.N.Numbering.same in
    let t = c.number_for-number.new.self in
    let N = g.N.Numbering.number t.numbers in
    let s = c.number_for-number.ensures.stands f k rs h in
    let row : Row g.row.T.Denot = record { key = c.push.result; list = c.number_for-number.result; held = record { value = c.args.value; counted = c.args.counted } } in (
      c.number_for-number.result,
      kept_shows f k E N N t.chains c.push.new.self rs (rs ++ row ∷ []) s
          (c.push.ensures.stands rs s.holds (s.opened c.args.key c.number_for-number.result c.number_for-number.ensures.number))
          (listed_more f k E N rs row s.listed (ap N is ∙ c.number_for-number.ensures.number) count)
          c.push.ensures.open (λ l. refl),
    )

pub returns-clause-few : goal.returns-clause-few
returns-clause-few g c = λ f k rs h. c.push.ensures.few rs (c.number_for-number.ensures.stands f k rs h).holds
