use Rattle.bd_buffers.proofs.Words.{needed}
use Rattle.bd_buffers.proofs.Places.{fits_whole, least_of}
use Rattle.bd_buffers.proofs.window.Window.start_of_data.Goals as goal

pub returns-clause-fits : goal.returns-clause-fits
returns-clause-fits c =
    let w = c.args.self.now in let n = needed c.args.data_size c.args.offsets_size in
    fits_whole w.size w.buffers n c.start_of.result (rw (← c.self.view_is) c.self.invariant.notes.window) (least_of w.size w.buffers c.args.one_way n c.start_of.result (rw (← c.needed.ensures) c.start_of.ensures))
