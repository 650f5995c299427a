use Rattle.bd_buffers.proofs.Words.{None, Some, all_standing, arith}
use Rattle.bd_buffers.proofs.Units.{start_found, start_missed}
use Rattle.bd_buffers.proofs.window.Window.least_start.Goals as goal

pub overflow_mul-result : goal.overflow_mul-result
overflow_mul-result c = let least = c.in-Some.ensures.least _ c.self.invariant.notes.tiles in omega arith

pub returns-in-Some : goal.returns-in-Some
returns-in-Some c =
    let g = c.self.inside.ground in let notes = c.self.invariant.notes in
    rw (← c.self.view_is) (start_found g.size g.spans.size (all_standing g.memory c.self.inside.buffers.records) notes.whole notes.window.placed c.args.n c.in-Some.unit c.requires.filled c.requires.whole (c.in-Some.ensures.least _ notes.tiles))

pub returns-in-None : goal.returns-in-None
returns-in-None c =
    let g = c.self.inside.ground in let notes = c.self.invariant.notes in
    rw (← c.self.view_is) (start_missed g.size g.spans.size (all_standing g.memory c.self.inside.buffers.records) notes.whole notes.window.placed c.args.n c.requires.whole (c.in-None.ensures.least _ notes.tiles))
