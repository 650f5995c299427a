use Rattle.bd_records.proofs.Words.{List, Reference, ap, map, on_err_weaker, on_ok_weaker, sym, ◌++◌, ◌∙◌}
use Rattle.bd_records.proofs.Dropping.{among_both, asks_is, nil_of_references, none_either, not_false, on_err_of}
use Rattle.bd_records.proofs.records.Records.dropped_with_process.Goals as goal

pub returns-clause-all : goal.returns-clause-all
returns-clause-all c =
    let mid = c.push_asked.new.touched.items in
    on_ok_weaker c.push_objects.result
    (λ w objects l h o there. among_both c.args.self.now objects l c.args.p h c.args.touched.now.items mid _ c.in_ok-push_asked.ensures.pushed
    (w ∙ ap (λ (rs : List Reference). mid ++ map (λ r. r.object) rs) (c.in_window.ensures l h.held)) o ∙ there)
    c.push_objects.ensures.pushed

pub returns-clause-only : goal.returns-clause-only
returns-clause-only c =
    let mid = c.push_asked.new.touched.items in
    on_ok_weaker c.push_objects.result
    (λ w objects l h o there. sym (among_both c.args.self.now objects l c.args.p h c.args.touched.now.items mid _ c.in_ok-push_asked.ensures.pushed
    (w ∙ ap (λ (rs : List Reference). mid ++ map (λ r. r.object) rs) (c.in_window.ensures l h.held)) o) ∙ there)
    c.push_objects.ensures.pushed

pub returns-clause-grown : goal.returns-clause-grown
returns-clause-grown c =
    on_err_weaker c.push_objects.result
    (λ w objects l h. not_false _ (λ none. w (nil_of_references _ (c.in_window.ensures l h.held ∙ (none_either c.args.p l none).1))))
    c.push_objects.ensures.grown

pub returns-in_err-push_asked-clause-grown : goal.returns-in_err-push_asked-clause-grown
returns-in_err-push_asked-clause-grown c =
    on_err_of c.from_residual.result
    (λ objects l h. not_false _ (λ none. c.in_err-push_asked.ensures.grown (λ x. asks_is c.args.self.now objects l c.args.p x h ∙ (none_either c.args.p l none).0 x)))
