use Rattle.bd_records.proofs.Words.{false, is_in_window, refl, window_key, window_of, ◌∙◌}
use Rattle.bd_records.proofs.{Buffering.{any_of_key, in_held, kept_buffers, window_says}, Pairing.{paired_references}}
use Rattle.bd_records.proofs.buffers.Buffers.close_window.Goals as goal

pub returns-clause-stands : goal.returns-clause-stands
returns-clause-stands c = λ l h. kept_buffers c.args.self.now _ l l h (λ rs s. s) (c.give_back.ensures.stands window_of (λ _. false)) refl

pub returns-clause-gone : goal.returns-clause-gone
returns-clause-gone c = λ l h none.
    let p = c.args.p in
    c.give_back.ensures.gone window_of (λ _. false) h.others h.windows
    (any_of_key window_key p (λ r. is_in_window p r.holder) (window_says p) (in_held p) h.others l (paired_references h.rows h.others h.paired ∙ h.are) ∙ none)
