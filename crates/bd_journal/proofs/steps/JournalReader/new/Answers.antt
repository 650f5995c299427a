use Rattle.std.proofs.Common.{arith}
use Rattle.bd_journal.proofs.Stepping.{cut_found, found, only, only_cut, seats_begun}
use Rattle.bd_journal.proofs.steps.JournalReader.new.Goals as goal

pub returns-clause-found : goal.returns-clause-found
returns-clause-found c = found c.args.bytes.now c.begun.result (λ i. omega (arith, c.type_inv.bytes i)) c.begun.ensures.given

pub returns-clause-only : goal.returns-clause-only
returns-clause-only c = only c.args.bytes.now c.begun.result c.begun.ensures.given c.begun.ensures.error

pub returns-clause-seats : goal.returns-clause-seats
returns-clause-seats c = seats_begun c.args.bytes.now c.begun.result (λ i. omega (arith, c.type_inv.bytes i)) c.begun.ensures.given

pub returns-clause-cut : goal.returns-clause-cut
returns-clause-cut c = cut_found c.args.bytes.now c.begun.result (λ i. omega (arith, c.type_inv.bytes i)) c.begun.ensures.given

pub returns-clause-only_cut : goal.returns-clause-only_cut
returns-clause-only_cut c = only_cut c.args.bytes.now c.begun.result c.begun.ensures.given c.begun.ensures.error
