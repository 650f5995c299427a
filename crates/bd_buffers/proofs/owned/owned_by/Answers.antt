use Rattle.bd_buffers.proofs.Words.{None, OwnedWindow, Some, find_none, sym}
use Rattle.bd_buffers.proofs.AllWindows.{found_at}
use Rattle.bd_buffers.proofs.owned.owned_by.Goals as goal

pub returns-in-Some : goal.returns-in-Some
returns-in-Some c = sym (found_at c.args.windows.now c.args.p c.in-Some.i _ c.requires.order c.in-Some.ensures c.index-windows-i.is)

pub returns-in-None : goal.returns-in-None
returns-in-None c = sym (find_none (λ (w : OwnedWindow). w.owner) c.args.p c.args.windows.now c.in-None.ensures)
