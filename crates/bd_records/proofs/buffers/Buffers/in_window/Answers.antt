use Rattle.bd_records.proofs.Words.{ap, filter, is_in_window, map, same_key, sym, window_key, window_list, ◌∙◌}
use Rattle.bd_records.proofs.{Buffering.{in_held, of_key, on_key, window_says}, Pairing.{paired_references, reference_of}}
use Rattle.bd_records.proofs.buffers.Buffers.in_window.Goals as goal

pub returns : goal.returns
returns c = λ l h.
    let t = c.args.self.now in
    let p = c.args.p in
    ap (map reference_of) (c.items_on.ensures h.others h.windows.holds)
    ∙ on_key window_key (window_list t) t.windows.chains h.others h.windows p c.of.result (sym c.of.ensures)
    ∙ ap (filter (λ x. same_key p (window_key x))) (paired_references h.rows h.others h.paired ∙ h.are)
    ∙ of_key window_key p (λ r. is_in_window p r.holder) (window_says p) (in_held p) l
