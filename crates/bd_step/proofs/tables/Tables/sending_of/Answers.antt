use Rattle.bd_step.proofs.Sendings.{sent_if}
use Rattle.bd_step.proofs.tables.Tables.sending_of.Goals as goal

pub returns-clause-computed : goal.returns-clause-computed
returns-clause-computed c =
    sent_if c.args.self.now c.args.p c.args.sent.now c.in-Some.q c.args.parcel.now _ c.in-Some.is c.if-not-has_sizes.ensures (rw (← c.len.ensures) c.if-len-ne0.false) c.resolve_walked.ensures.computed
