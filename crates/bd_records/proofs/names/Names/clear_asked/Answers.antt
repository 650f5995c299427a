use Rattle.bd_records.proofs.Words.{ap, arith, is_at, number_at, sym, unasked, value_at, ◌∙◌}
use Rattle.bd_records.proofs.NameTurns.{meant_is, turned_at, turned_found, turned_leads}
use Rattle.bd_records.proofs.names.Names.clear_asked.Goals as goal

pub invariant_of-self : goal.invariant_of-self
invariant_of-self c =
    let t = c.args.self.now in
    record {
      found = turned_found (value_at t.rows) (value_at c.turn-there.new.self) (number_at t.numbers) c.args.p c.in-Some.n c.args.o c.turn-there.result t.found t.leads c.turn-there.ensures.meant unasked (λ w e. e) c.turn-there.ensures.turned;
      leads = turned_leads (value_at t.rows) (value_at c.turn-there.new.self) (number_at t.numbers) c.args.p c.in-Some.n c.args.o c.turn-there.result t.found t.leads c.turn-there.ensures.meant unasked (λ w e. e) c.turn-there.ensures.turned;
      not_later = t.not_later;
      small = t.small;
    }

pub returns-in-Some-clause-cleared : goal.returns-in-Some-clause-cleared
returns-in-Some-clause-cleared c =
    let t = c.args.self.now in
    let there = meant_is (value_at t.rows) (value_at c.turn-there.new.self) (number_at t.numbers) c.args.p c.in-Some.n c.args.o c.turn-there.result t.found t.leads c.turn-there.ensures.meant unasked (λ w e. e) c.turn-there.ensures.turned ∙ ap (is_at c.in-Some.n) (sym c.number_of.ensures ∙ c.in-Some.is) in
    λ q x. grind (arith, there, turned_at (value_at t.rows) (value_at c.turn-there.new.self) (number_at t.numbers) c.args.p c.in-Some.n c.args.o c.turn-there.result t.found t.leads c.turn-there.ensures.meant unasked (λ w e. e) c.turn-there.ensures.turned q x)
