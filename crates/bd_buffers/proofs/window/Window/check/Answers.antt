use Rattle.bd_buffers.proofs.Units.{holes_are}
use Rattle.bd_buffers.proofs.window.Window.check.Goals as goal

pub returns-clause-holes : goal.returns-clause-holes
returns-clause-holes c = λ size bs is.
    let g = c.self.inside.ground in let notes = c.self.invariant.notes in
    let own = holes_are g.size g.spans.size g.spans.tail notes.whole _ _ notes.window.placed (c.check.ensures _ notes.tiles) in
    rw (← is.size_is, ← is.buffers_are, ← c.self.view_is) own
