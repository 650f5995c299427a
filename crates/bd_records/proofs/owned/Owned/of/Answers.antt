use Rattle.bd_records.proofs.Words.{Possession, ap, eqb-true, false, filter, on_list, owner_of, same_owner, sym, ◌==◌, ◌∙◌}
use Rattle.bd_records.proofs.Possessing.{possessions_of}
use Rattle.bd_records.specs.Owned.{list_of}
use Rattle.bd_records.proofs.owned.Owned.of.Goals as goal

pub returns : goal.returns
returns c = λ objects n.
    let t = c.args.self.now in
    c.items_on.ensures n.rows n.shows.holds
    ∙ sym (on_list owner_of (λ _. false) same_owner (list_of t) t.lists.chains (λ p q e. ap (list_of t) (eqb-true p q e)) n.rows n.shows c.args.p c.of.result (sym c.of.ensures) n.rows n.shows.listed)
    ∙ ap (filter (λ (v : Possession). c.args.p == v.owner)) n.are
    ∙ possessions_of c.args.p objects
