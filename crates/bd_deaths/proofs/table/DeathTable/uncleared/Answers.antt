use Rattle.bd_deaths.proofs.Words.{NameKey, ap, arith, at_of, death_of, is_uncleared_on, option_map, sym, ◌∙◌}
use Rattle.bd_deaths.proofs.Changes.{asks_uncleared, death_found, death_none, find_same}
use Rattle.bd_deaths.proofs.table.DeathTable.uncleared.Goals as goal

pub returns : goal.returns
returns c = λ l h.
    let k : NameKey = record { process = c.args.p; object = c.args.object } in
    let same = ap (option_map at_of) (find_same _ _ (λ e. asks_uncleared k (death_of e)) h.entries) in
    c.in_slot.ensures ∙ death_found c.args.self.now l h (is_uncleared_on c.args.p c.args.object) _ (sym same ∙ sym (h.are.names_are k) ∙ sym c.slot_on.ensures ∙ c.in_ok-slot_on.was)

pub returns-in_err-slot_on : goal.returns-in_err-slot_on
returns-in_err-slot_on c = λ l h.
    let k : NameKey = record { process = c.args.p; object = c.args.object } in
    let same = ap (option_map at_of) (find_same _ _ (λ e. asks_uncleared k (death_of e)) h.entries) in
    grind (arith, c.from_residual.ensures, death_none c.args.self.now l h (is_uncleared_on c.args.p c.args.object) (sym same ∙ sym (h.are.names_are k) ∙ sym c.slot_on.ensures ∙ c.in_err-slot_on.was))
