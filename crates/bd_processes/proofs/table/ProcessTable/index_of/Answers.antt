use Rattle.std.proofs.Common.{◌≡◌, ◌==◌, false, All, get_or, sym, subst, ◌∙◌}
use Rattle.std.specs.Prelude.{MatchOption}
use Rattle.bd_space.specs.declared.space.Process.{Process}
use Rattle.bd_processes.specs.Order.{IsRising}
use Rattle.bd_processes.proofs.table.ProcessTable.index_of.Goals as goal

pub returns-clause-found : goal.returns-clause-found
returns-clause-found c = λ ps h.
    let made = c.args.made in
    let same = c.as_slice.ensures.value ∙ h.items_are in
    subst (λ xs. MatchOption c.index_at.result (All (λ (q : Process). (q.made == made) ≡ false) xs) (λ i. (d : Process) → (get_or xs i d).made ≡ made))
    same (c.index_at.ensures.found (subst IsRising (sym same) h.rising))
