use Rattle.bd_c.proofs.Judged.{has_heading}
use Rattle.bd_c.proofs.certificates.history_of.Goals as goal

pub returns-clause-refused : goal.returns-clause-refused
returns-clause-refused c = has_heading c.args.journal.now c.in_ok-found.found c.in_ok-found.ensures.ok
