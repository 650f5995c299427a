use Rattle.bd_step.proofs.{Words.{delivered, ◌+◌}, Stepping.{replied_full, replied_stands}}
use Rattle.bd_step.proofs.tables.Tables.replied.Goals as goal

pub returns-in-Err-clause-full : goal.returns-in-Err-clause-full
returns-in-Err-clause-full c = λ s h. replied_full s c.args.actor c.args.sent.now c.args.f c.args.delivery (c.in-Err.ensures.full s h)

pub returns-in-Ok-clause-ok : goal.returns-in-Ok-clause-ok
returns-in-Ok-clause-ok c = λ s h sends.
    let z = delivered s c.args.actor c.args.sent.now c.args.delivery in
    replied_stands _ s c.args.actor c.args.sent.now c.args.f c.args.delivery (c.answered.ensures.stands (z.steps + 1) z (c.in-Ok.ensures.ok s h sends))
