use Rattle.bd_buffers.proofs.Words.{None, Some, ap, append-nil, arith, buffers_held, length-map, made_of_buffer, map, sym, ◌++◌, ◌+◌, ◌∙◌}
use Rattle.bd_buffers.proofs.{AllWindows.{held}, Made.{on_err, on_ok}}
use Rattle.bd_buffers.proofs.windows.Windows.list_made.Goals as goal

pub returns-in-None-clause-listed : goal.returns-in-None-clause-listed
returns-in-None-clause-listed c = λ s stands.
    let places = c.args.places.now.items in
    sym (append-nil places) ∙ ap (λ bs. places ++ map made_of_buffer bs) (ap buffers_held c.in-None.ensures.found ∙ held c.args.self.now (s.steps + 1) c.args.p s.processes s.buffers stands)

pub returns-in-Some-clause-listed : goal.returns-in-Some-clause-listed
returns-in-Some-clause-listed c =
    let places = c.args.places.now.items in
    on_ok _ _ (λ listed s stands.
    listed ∙ ap (λ ms. places ++ ms) (c.rows.ensures.places ∙ ap (map made_of_buffer) (ap buffers_held c.in-Some.ensures.found ∙ held c.args.self.now (s.steps + 1) c.args.p s.processes s.buffers stands)))
    c.list_made.result c.list_made.ensures.listed

pub returns-in-Some-clause-grown : goal.returns-in-Some-clause-grown
returns-in-Some-clause-grown c = grind (arith, on_err, held, length-map)
