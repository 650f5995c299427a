use Rattle.std.proofs.{Common.{◌&&◌, get_or, ap, sym, ◌∙◌}, lemmas.List.Folds.{list_any_none}}
use Rattle.bd_ways.proofs.Ranges.{find_none}
use Rattle.bd_space.specs.{declared.space.Frame.{Frame}, Frames.{is_frame}, Settle.{is_abandoned}}
use Rattle.bd_frames.proofs.Standing.{own_rising, nowhere, abandoned}
use Rattle.bd_frames.proofs.table.FrameTable.abandoned_at.Goals as goal

pub returns-in_err-index_of : goal.returns-in_err-index_of
returns-in_err-index_of c = λ l h.
    let t = c.args.self.now in
    let made = c.args.made in
    let both = λ (f : Frame). is_frame made f && is_abandoned l f in
    let none = (rw c.deref.ensures.value at c.in_err-index_of.ensures.found) (own_rising t l h) in
    c.from_residual.ensures
    ∙ sym (find_none both l (list_any_none both l (λ k d lt. ap (λ b. b && is_abandoned l (get_or l k d)) (nowhere t l h made none k d lt))))

pub returns : goal.returns
returns c = λ l h.
    let t = c.args.self.now in
    let at = (rw c.deref.ensures.value at c.in_ok-index_of.ensures.found) (own_rising t l h) in
    let within = rw c.deref.ensures.value at c.in_ok-index_of.ensures.within in
    let d = c.index.result.now in
    c.then_some.ensures ∙ sym (abandoned t l h c.args.made c.in_ok-index_of.field-0 d within at c.index.ensures c.is_abandoned.result
    (sym c.is_abandoned.ensures))
