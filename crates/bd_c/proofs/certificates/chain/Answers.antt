use Rattle.bd_c.proofs.Certifying.{heading_of}
use Rattle.bd_c.proofs.certificates.chain.Goals as goal

pub returns-clause-refused : goal.returns-clause-refused
returns-clause-refused c = heading_of c.args.journal.now c.in_ok-found.found c.in_ok-found.ensures.ok
