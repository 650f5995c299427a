use Rattle.bd_deaths.proofs.Words.{ap, death_of, deaths_at, err_from_is_err_and, filter, is_due, is_due_entry, length, list_any, not, subst, true, ◌&&◌, ◌<◌, ◌==◌, ◌∙◌, ◌≡◌}
use Rattle.bd_deaths.proofs.{Changes.{filter_map}, Looking.{all_kept}, Numbering.{deaths_numbered, some_number}}
use Rattle.bd_deaths.proofs.table.DeathTable.due.Goals as goal

pub returns-clause-due : goal.returns-clause-due
returns-clause-due c = λ objects l ns h.
    c.in_ok-told.ensures.are ∙ ap (deaths_at c.args.self.now) c.deref.ensures.value
    ∙ ap (deaths_at c.args.self.now) (c.in_ok-found.ensures.are objects h.entries ns h.are)
    ∙ deaths_numbered c.args.self.now (is_due_entry objects c.args.p) h.entries (all_kept c.args.self.now h.entries h.are) (λ k d lt. (h.are.fit k d lt).at)
    ∙ filter_map death_of (λ x. not (x.process == c.args.p) && is_due objects c.args.p x) h.entries ∙ ap (filter (λ x. not (x.process == c.args.p) && is_due objects c.args.p x)) h.deaths_are

pub returns-in_err-told-clause-grown : goal.returns-in_err-told-clause-grown
returns-in_err-told-clause-grown c =
    rw (err_from_is_err_and c.from_residual-in_err-told.result c.from_residual-in_err-told.ensures.1).1
    (λ objects l ns h.
    let are = c.in_ok-found.ensures.are objects h.entries ns h.are in
    let any = c.in_err-told.ensures.some in
    subst (λ l. list_any (is_due objects c.args.p) l ≡ true) h.deaths_are
    (some_number objects c.args.p 0 h.entries (subst (λ ns. 0 < length ns) (c.deref.ensures.value ∙ are) any)))
