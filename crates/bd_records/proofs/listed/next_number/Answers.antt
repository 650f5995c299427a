use Rattle.bd_records.proofs.Named.{next_is}
use Rattle.bd_records.proofs.listed.next_number.Goals as goal

pub returns : goal.returns
returns c = λ l h. next_is c.args.names.now l h c.args.p c.args.from c.next_number.result c.next_number.ensures.none c.next_number.ensures.from c.next_number.ensures.there c.next_number.ensures.before
