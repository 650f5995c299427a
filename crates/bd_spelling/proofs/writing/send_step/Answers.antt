use Rattle.bd_spelling.proofs.Pieces.{open_parts, sends_same}
use Rattle.bd_spelling.proofs.writing.send_step.Goals as goal

pub returns-in-Open : goal.returns-in-Open
returns-in-Open g c =
    rw c.in-Open.is (sends_same c.send_all.result (g.W.Write.contents c.args.out.now) (g.W.Write.contents c.send_all.new.out) _ _
    (open_parts c.in-Open.pid c.in-Open.euid c.in-Open.window _ _ _ c.to_le_bytes-pid.ensures c.to_le_bytes-euid.ensures c.to_le_bytes.ensures) c.send_all.ensures)
