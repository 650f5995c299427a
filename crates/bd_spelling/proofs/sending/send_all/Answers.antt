use Rattle.bd_spelling.proofs.Pieces.{begins_next, sends_err}
use Rattle.bd_spelling.proofs.sending.send_all.Goals as goal

pub returns-in_err-send : goal.returns-in_err-send
returns-in_err-send g c =
    let at = g.W.Write.contents in
    sends_err c.from_residual.result (at c.args.out.now) (at c.send.new.out) _ c.from_residual.ensures.0
    (begins_next (λ p. p.now) c.args.pieces.now c.loop-piece.piece-index _ (at c.args.out.now) (at c.loop-piece.out) (at c.send.new.out) c.loop-piece-test.true c.loop-piece.invariant c.in_err-send.ensures)
