use Rattle.bd_records.proofs.Words.{Identity, List, Possession, ap, map, on_err_weaker, on_ok_weaker, possession, ◌++◌, ◌∙◌}
use Rattle.bd_records.proofs.Possessing.{id_of, ids_of}
use Rattle.bd_records.proofs.records.Records.owned_by.Goals as goal

pub returns-clause-pushed : goal.returns-clause-pushed
returns-clause-pushed c =
    on_ok_weaker c.push_ids.result
    (λ e objects l h. e ∙ ap (λ (vs : List Possession). c.args.touched.now.items ++ map id_of vs) (c.of.ensures objects h.own) ∙ ap (λ (is : List Identity). c.args.touched.now.items ++ is) (ids_of _))
    c.push_ids.ensures.pushed

pub returns-clause-grown : goal.returns-clause-grown
returns-clause-grown c = on_err_weaker c.push_ids.result (λ k objects l h e. k (c.of.ensures objects h.own ∙ ap (map possession) e)) c.push_ids.ensures.grown
