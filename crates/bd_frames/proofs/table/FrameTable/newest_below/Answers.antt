use Rattle.std.proofs.Common.{[], Some, find, reverse, sym, ap, ◌∙◌}
use Rattle.bd_space.specs.Frames.{takes_part}
use Rattle.bd_frames.specs.declared.frame.Row.{Row}
use Rattle.bd_frames.proofs.{Ways.{none_newer, newest}, Standing.{own_rising, own_stack}}
use Rattle.bd_frames.proofs.table.FrameTable.newest_below.Goals as goal

pub returns-in_err-newest_part : goal.returns-in_err-newest_part
returns-in_err-newest_part c = λ l h.
    let t = c.args.self.now in
    let q = takes_part c.args.seat in
    let found = rw c.deref.ensures.value at c.in_err-newest_part.ensures.newest in
    c.from_residual.ensures
    ∙ sym (ap (λ fs. find q (reverse fs)) (sym h.items_are) ∙ none_newer q t.rows.items []
    (found (own_rising t l h) (own_stack t l h c.args.seat _ c.top_of-top.ensures)))

pub returns : goal.returns
returns c = λ l h.
    let t = c.args.self.now in
    let q = takes_part c.args.seat in
    let i = c.in_ok-newest_part.field-0 in
    let d = c.index.result.now in
    let found = rw c.deref.ensures.value at c.in_ok-newest_part.ensures.newest in
    let within = rw c.deref.ensures.value at c.in_ok-newest_part.ensures.within in
    let last = found (own_rising t l h) (own_stack t l h c.args.seat _ c.top_of-top.ensures) in
    ap (λ (x : Row). Some x.frame) c.index.ensures
    ∙ sym (ap (λ fs. find q (reverse fs)) (sym h.items_are) ∙ newest q t.rows.items i d [] within (last.0 d) last.1)
