use Rattle.bd_records.proofs.Words.{number_at, value_at, ◌==◌}
use Rattle.bd_records.proofs.{Latest.{all_gone}, Stepping.{ended_found, ended_leads, ended_named, ended_names, ended_numbers, ended_small}}
use Rattle.bd_records.proofs.names.Names.remove_process.Goals as goal

pub invariant_of-self : goal.invariant_of-self
invariant_of-self c =
    let t = c.args.self.now in
    record {
      found = ended_found c.args.p (value_at t.rows) (value_at c.close.new.self) (number_at t.numbers) (number_at c.remove_numbers.new.numbers) t.leads t.small c.remove_numbers.ensures.gone c.remove_numbers.ensures.still c.remove_numbers.ensures.rest c.close.ensures.at t.found;
      leads = ended_leads c.args.p (value_at t.rows) (value_at c.close.new.self) (number_at t.numbers) (number_at c.remove_numbers.new.numbers) t.leads t.small c.remove_numbers.ensures.gone c.remove_numbers.ensures.still c.remove_numbers.ensures.rest c.close.ensures.at;
      small = ended_small c.args.p (value_at t.rows) (value_at c.close.new.self) (number_at t.numbers) (number_at c.remove_numbers.new.numbers) t.leads t.small c.remove_numbers.ensures.gone c.remove_numbers.ensures.still c.remove_numbers.ensures.rest c.close.ensures.at;
      not_later = λ q. all_gone (number_at t.numbers q) (number_at c.remove_numbers.new.numbers q) t.latest (t.not_later q) (c.args.p == q) (ended_numbers c.args.p (value_at t.rows) (value_at c.close.new.self) (number_at t.numbers) (number_at c.remove_numbers.new.numbers) t.leads t.small c.remove_numbers.ensures.gone c.remove_numbers.ensures.still c.remove_numbers.ensures.rest c.close.ensures.at q);
    }

pub returns-clause-named : goal.returns-clause-named
returns-clause-named c =
    let t = c.args.self.now in
    ended_named c.args.p (value_at t.rows) (value_at c.close.new.self) (number_at t.numbers) (number_at c.remove_numbers.new.numbers) t.leads t.small c.remove_numbers.ensures.gone c.remove_numbers.ensures.still c.remove_numbers.ensures.rest c.close.ensures.at

pub returns-clause-numbers : goal.returns-clause-numbers
returns-clause-numbers c =
    let t = c.args.self.now in
    ended_numbers c.args.p (value_at t.rows) (value_at c.close.new.self) (number_at t.numbers) (number_at c.remove_numbers.new.numbers) t.leads t.small c.remove_numbers.ensures.gone c.remove_numbers.ensures.still c.remove_numbers.ensures.rest c.close.ensures.at

pub returns-clause-names : goal.returns-clause-names
returns-clause-names c =
    let t = c.args.self.now in
    ended_names c.args.p (value_at t.rows) (value_at c.close.new.self) (number_at t.numbers) (number_at c.remove_numbers.new.numbers) t.leads t.small c.remove_numbers.ensures.gone c.remove_numbers.ensures.still c.remove_numbers.ensures.rest c.close.ensures.at
