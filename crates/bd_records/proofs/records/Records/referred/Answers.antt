use Rattle.bd_records.proofs.Words.{List, Reference, ap, is_of_buffer, map, on_err_weaker, on_ok_weaker, ◌++◌, ◌∙◌}
use Rattle.bd_records.proofs.Dropping.{nil_of_references, none_passes, not_false}
use Rattle.bd_records.proofs.records.Records.referred.Goals as goal

pub returns-clause-pushed : goal.returns-clause-pushed
returns-clause-pushed c =
    on_ok_weaker c.push_objects.result
    (λ e objects l h. e ∙ ap (λ (xs : List Reference). c.args.touched.now.items ++ map (λ r. r.object) xs) (c.of.ensures l h.held))
    c.push_objects.ensures.pushed

pub returns-clause-grown : goal.returns-clause-grown
returns-clause-grown c =
    on_err_weaker c.push_objects.result
    (λ w objects l h. not_false _ (λ none. w (nil_of_references _ (c.of.ensures l h.held ∙ none_passes (λ r. is_of_buffer c.args.b r.holder) l none))))
    c.push_objects.ensures.grown
