use Rattle.bd_deaths.proofs.Words.{sym, ◌∙◌}
use Rattle.bd_deaths.proofs.Changes.{guessed}
use Rattle.bd_deaths.proofs.table.DeathTable.place.Goals as goal

pub returns-then-is_made_at : goal.returns-then-is_made_at
returns-then-is_made_at c = λ l h. guessed c.args.self.now c.args.made l h _ (sym c.is_made_at.ensures ∙ c.if-is_made_at.true)
