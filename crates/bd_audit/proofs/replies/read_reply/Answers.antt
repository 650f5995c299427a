use Rattle.std.proofs.Common.{sym, ◌∙◌}
use Rattle.bd_space.specs.Histories.{space_after}
use Rattle.bd_audit.proofs.ReplyCalls.{unread, still_first, first_taken}
use Rattle.bd_audit.proofs.replies.read_reply.Goals as goal

pub returns-in_default : goal.returns-in_default
returns-in_default c = unread (space_after c.args.engine.now) c.args.entry.now c.in_default.not-Read

pub returns-then-eq : goal.returns-then-eq
returns-then-eq c =
    still_first c.args.engine.now c.advance.new.engine c.args.entry.now c.in-Read.limit c.in-Read.is c.in_ok-advance-in-Read.ensures.ok
    c.first_reply-before.result c.first_reply.result c.first_reply-before.ensures c.first_reply.ensures (sym c.eq.ensures ∙ c.if-eq.true)

pub returns-else-eq : goal.returns-else-eq
returns-else-eq c =
    first_taken c.args.engine.now c.advance.new.engine c.args.entry.now c.in-Read.limit c.in-Read.is c.in_ok-advance-in-Read.ensures.ok
    c.first_reply-before.result c.first_reply.result c.first_reply-before.ensures c.first_reply.ensures (sym c.eq.ensures ∙ c.if-eq.false)
