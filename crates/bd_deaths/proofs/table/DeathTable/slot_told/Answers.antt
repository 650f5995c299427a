use Rattle.bd_deaths.proofs.Words.{ap, at_of, first_at, is_told_in, map, option_map, process_row, sym, ◌∙◌}
use Rattle.bd_deaths.proofs.{Looking.{all_kept, first_is, is_it, marks_are, only_told, told_count}, Sharing.{none_counted}}
use Rattle.bd_deaths.proofs.table.DeathTable.slot_told.Goals as goal

pub returns-then-sharers-eq0 : goal.returns-then-sharers-eq0
returns-then-sharers-eq0 c = λ l h.
    let t = c.args.self.now in
    sym (ap (option_map at_of) (none_counted (is_it t c.args.p c.args.cookie l h) h.entries (sym (told_count t c.args.p c.args.cookie l h) ∙ sym c.sharers_at-sharers.ensures.told ∙ c.if-sharers-eq0.true)))

pub returns-then-is_told_at : goal.returns-then-is_told_at
returns-then-is_told_at c = λ l h.
    let t = c.args.self.now in
    only_told t c.args.p c.args.cookie l h c.sharers_at-sharers.result.latest
    (sym (told_count t c.args.p c.args.cookie l h) ∙ sym c.sharers_at-sharers.ensures.told ∙ c.if-sharers-eq1.true)
    (sym c.is_told_at.ensures ∙ c.if-is_told_at.true)

pub returns : goal.returns
returns c = λ l h.
    let t = c.args.self.now in
    let es = h.entries in
    c.first_told.ensures ∙ ap (first_at (is_told_in t c.args.p c.args.cookie)) (c.items_on-marks.ensures (map process_row es) h.are.of_processes.holds ∙ marks_are t c.args.p es h.are c.of.result (sym c.of.ensures))
    ∙ first_is t c.args.p c.args.cookie es (all_kept t es h.are)
