use Rattle.std.proofs.Common.{take, ◌+◌, arith}
use Rattle.std.proofs.KnownBytes.{Appends-kept}
use Rattle.bd_spelling.proofs.Pieces.{begins_part, sent_more}
use Rattle.bd_spelling.proofs.sending.send.Goals as goal
use Rattle.bd_spelling.proofs.sending.send.Goals.{in-Ok, in-Err+in-Interrupted}

pub returns-in-Ok-eq0 : goal.returns-in-Ok-eq0
returns-in-Ok-eq0 g c =
    let at = g.W.Write.contents in
    begins_part (at c.args.out.now) (at c.write.new.self) (c.loop.sent + c.in-Ok-eq0.field-0) c.args.bytes.now
    (sent_more (at c.args.out.now) (at c.loop.out) (at c.write.new.self) c.loop.sent c.in-Ok-eq0.field-0 c.args.bytes.now c.loop.invariant.1 c.in-Ok-eq0.ensures.bytes)

pub returns-in_default : goal.returns-in_default
returns-in_default g c =
    let at = g.W.Write.contents in
    begins_part (at c.args.out.now) (at c.write.new.self) c.loop.sent c.args.bytes.now
    (Appends-kept (at c.args.out.now) (at c.loop.out) (at c.write.new.self) (take c.loop.sent c.args.bytes.now) c.loop.invariant.1 c.in-Err.ensures.bytes)

pub loop-preserved : goal.loop-preserved
loop-preserved g c =
    let at = g.W.Write.contents in
    elim c.match-write.branch [
      | in-Ok w ↦ rw w.sent-is (omega (arith, w.in-Ok.ensures.bound), sent_more (at c.args.out.now) (at c.loop.out) (at c.write.new.self) c.loop.sent w.in-Ok.more c.args.bytes.now c.loop.invariant.1 w.in-Ok.ensures.bytes)
      | in-Err+in-Interrupted w ↦ rw w.sent-is (c.loop.invariant.0, Appends-kept (at c.args.out.now) (at c.loop.out) (at c.write.new.self) (take c.loop.sent c.args.bytes.now) c.loop.invariant.1 w.in-Err.ensures.bytes)
    ]

pub returns : goal.returns
returns g c = begins_part (g.W.Write.contents c.args.out.now) (g.W.Write.contents c.loop.out) c.loop.sent c.args.bytes.now c.loop.invariant.1
