use Rattle.bd_deaths.proofs.Words.{arith, is_told_with, sym, ◌∙◌}
use Rattle.bd_deaths.proofs.Changes.{death_found, death_none}
use Rattle.bd_deaths.proofs.table.DeathTable.told.Goals as goal

pub returns : goal.returns
returns c = λ l h.
    c.in_slot.ensures ∙ death_found c.args.self.now l h (is_told_with c.args.p c.args.cookie) _ (sym (c.slot_told.ensures l h) ∙ c.in_ok-slot_told.was)

pub returns-in_err-slot_told : goal.returns-in_err-slot_told
returns-in_err-slot_told c = λ l h.
    grind (arith, c.from_residual.ensures, death_none c.args.self.now l h (is_told_with c.args.p c.args.cookie) (sym (c.slot_told.ensures l h) ∙ c.in_err-slot_told.was))
