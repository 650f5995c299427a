use Rattle.bd_deaths.proofs.Words.{ap, arith, by_process, false, list_any, map, process_row, refl, uses_then, ◌==◌, ◌∙◌}
use Rattle.bd_deaths.proofs.{Changes.{deaths_kept, uses_less}, Ending.{marks_to, none_owned}}
use Rattle.bd_deaths.proofs.table.DeathTable.remove_process.Goals as goal

pub returns-clause-stands : goal.returns-clause-stands
returns-clause-stands c = λ l h.
    deaths_kept c.pop_each.new.self _ _ (λ rs s. s) (c.give_back.ensures.stands by_process (λ _. false)) (λ k. refl) (λ m. refl) (λ k. refl) refl (λ s. s) (c.pop_each.ensures.stands l h)

pub returns-clause-uses : goal.returns-clause-uses
returns-clause-uses c = uses_then c.pop_each.ensures.uses (uses_less c.pop_each.new.self _ (omega arith) (omega arith) refl (omega arith) c.give_back.ensures.uses (omega arith) (omega arith) (omega arith))

pub returns-clause-gone : goal.returns-clause-gone
returns-clause-gone c = λ l h.
    let m = c.pop_each.ensures.stands l h in
    c.give_back.ensures.gone by_process (λ _. false) (map process_row m.entries) m.are.of_processes
    (marks_to c.args.p m.entries ∙ ap (list_any (λ x. c.args.p == x.process)) m.deaths_are ∙ none_owned c.args.p l)
