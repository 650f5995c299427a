use Rattle.std.proofs.Common.{Some, sym, ap, ◌∙◌}
use Rattle.bd_keys.proofs.Rising.{find_none}
use Rattle.bd_space.specs.Frames.{made_of}
use Rattle.bd_frames.specs.declared.frame.Row.{Row}
use Rattle.bd_frames.proofs.Standing.{own_rising, found, nowhere}
use Rattle.bd_frames.proofs.table.FrameTable.frame.Goals as goal

pub returns-in_err-index_of : goal.returns-in_err-index_of
returns-in_err-index_of c = λ l h.
    let t = c.args.self.now in
    let none = (rw c.deref.ensures.value at c.in_err-index_of.ensures.found) (own_rising t l h) in
    c.from_residual.ensures ∙ sym (find_none made_of c.args.made l (nowhere t l h c.args.made none))

pub returns : goal.returns
returns c = λ l h.
    let t = c.args.self.now in
    let at = (rw c.deref.ensures.value at c.in_ok-index_of.ensures.found) (own_rising t l h) in
    let within = rw c.deref.ensures.value at c.in_ok-index_of.ensures.within in
    ap (λ (x : Row). Some x.frame) c.index.ensures ∙ sym (found t l h c.args.made c.in_ok-index_of.field-0 c.index.result.now within at)
