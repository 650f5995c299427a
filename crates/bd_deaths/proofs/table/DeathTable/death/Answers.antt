use Rattle.bd_deaths.proofs.Words.{arith, is_notification, sym, ◌∙◌}
use Rattle.bd_deaths.proofs.Changes.{death_found, death_none}
use Rattle.bd_deaths.proofs.table.DeathTable.death.Goals as goal

pub returns : goal.returns
returns c = λ l h.
    c.in_slot.ensures ∙ death_found c.args.self.now l h (is_notification c.args.made) _ (sym (h.are.places_are c.args.made) ∙ sym (c.place.ensures l h) ∙ c.in_ok-place.was)

pub returns-in_err-place : goal.returns-in_err-place
returns-in_err-place c = λ l h.
    grind (arith, c.from_residual.ensures, death_none c.args.self.now l h (is_notification c.args.made) (sym (h.are.places_are c.args.made) ∙ sym (c.place.ensures l h) ∙ c.in_err-place.was))
