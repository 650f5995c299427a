use Rattle.bd_step.proofs.{Words.{delivered, ◌+◌}, Stepping.{transacted_full, spam_told, transacted_stands, sent_takes}}
use Rattle.bd_step.proofs.tables.Tables.transacted.Goals as goal

pub returns-in-Err-clause-full : goal.returns-in-Err-clause-full
returns-in-Err-clause-full c = λ s h. transacted_full s c.args.actor c.args.sent.now c.args.delivery (c.in-Err.ensures.full s h)

pub returns-in-Ok-clause-ok : goal.returns-in-Ok-clause-ok
returns-in-Ok-clause-ok c = λ s h k.
    let z = delivered s c.args.actor c.args.sent.now c.args.delivery in
    let w = c.in-Ok.ensures.ok s h k.sends in
    transacted_stands s c.args.actor c.args.sent.now c.args.delivery _ _ c.receiver-receiver.ensures c.is_one_way-one_way.ensures _ _
    (spam_told s c.args.actor c.args.sent.now c.args.delivery _ _ c.receiver-receiver.ensures c.is_one_way-one_way.ensures _ k.lives (λ q found. c.is_spam-spam.ensures z q w found))
    (c.called.ensures.stands (z.steps + 1) z w (sent_takes s c.args.actor c.args.sent.now c.args.delivery k.takes))
