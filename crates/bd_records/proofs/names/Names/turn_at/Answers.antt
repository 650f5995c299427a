use Rattle.bd_records.proofs.Words.{name_turned, number_at, value_at}
use Rattle.bd_records.proofs.NameTurns.{meant_is, turned_at, turned_found, turned_leads}
use Rattle.bd_records.proofs.names.Names.turn_at.Goals as goal

pub invariant_of-self : goal.invariant_of-self
invariant_of-self c =
    let t = c.args.self.now in
    record {
      found = turned_found (value_at t.rows) (value_at c.turn.new.self) (number_at t.numbers) c.args.p c.args.n c.args.r.object c.turn.result t.found t.leads c.turn.ensures.meant (name_turned c.args.more c.args.r) (λ w e. e) c.turn.ensures.turned;
      leads = turned_leads (value_at t.rows) (value_at c.turn.new.self) (number_at t.numbers) c.args.p c.args.n c.args.r.object c.turn.result t.found t.leads c.turn.ensures.meant (name_turned c.args.more c.args.r) (λ w e. e) c.turn.ensures.turned;
      not_later = t.not_later;
      small = t.small;
    }

pub returns-clause-turned : goal.returns-clause-turned
returns-clause-turned c =
    let t = c.args.self.now in
    turned_at (value_at t.rows) (value_at c.turn.new.self) (number_at t.numbers) c.args.p c.args.n c.args.r.object c.turn.result t.found t.leads c.turn.ensures.meant (name_turned c.args.more c.args.r) (λ w e. e) c.turn.ensures.turned

pub returns-clause-is : goal.returns-clause-is
returns-clause-is c =
    let t = c.args.self.now in
    meant_is (value_at t.rows) (value_at c.turn.new.self) (number_at t.numbers) c.args.p c.args.n c.args.r.object c.turn.result t.found t.leads c.turn.ensures.meant (name_turned c.args.more c.args.r) (λ w e. e) c.turn.ensures.turned
