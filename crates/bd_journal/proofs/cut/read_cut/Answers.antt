use Rattle.std.proofs.Common.{subst, arith, [], Option, List, ℕ}
use Rattle.bd_spelling.specs.declared.record.Record.{Record}
use Rattle.bd_spelling.specs.Reading.{Gives}
use Rattle.bd_journal.proofs.Cuts.{is_found, seats_found, goes_on, is_told, whole_told}
use Rattle.bd_journal.proofs.Unread.{uncut}
use Rattle.bd_journal.proofs.cut.read_cut.Goals as goal

pub returns-clause-found : goal.returns-clause-found
returns-clause-found c = is_found (λ x. x.0) (λ x. x.1.now) c.args.bytes.now (λ i. omega (arith, c.type_inv.bytes i)) c.cut_of.result c.cut_of.ensures.given

pub returns-clause-seats : goal.returns-clause-seats
returns-clause-seats c = seats_found (λ x. x.0) (λ x. x.1.now) c.args.bytes.now (λ i. omega (arith, c.type_inv.bytes i)) c.cut_of.result c.cut_of.ensures.given

pub returns-clause-only : goal.returns-clause-only
returns-clause-only c = λ r left is.
    subst (λ (f : Option (Record × List ℕ)). Gives (λ x. (x.0, x.1.now)) c.cut_of.result f) (is_told c.args.bytes.now r left is) c.cut_of.ensures.given

pub returns-clause-whole : goal.returns-clause-whole
returns-clause-whole c = λ r told.
    subst (λ (f : Option (Record × List ℕ)). Gives (λ x. (x.0, x.1.now)) c.cut_of.result f) (is_told c.args.bytes.now r [] (whole_told c.args.bytes.now r told)) c.cut_of.ensures.given

pub returns-clause-beginning : goal.returns-clause-beginning
returns-clause-beginning c = goes_on (λ x. x.0) (λ x. x.1.now) c.args.bytes.now (λ i. omega (arith, c.type_inv.bytes i)) c.cut_of.result c.cut_of.ensures.given

pub returns-clause-fault : goal.returns-clause-fault
returns-clause-fault c = uncut (λ x. (x.0, x.1.now)) c.args.bytes.now c.cut_of.result (λ i. omega (arith, c.type_inv.bytes i)) c.cut_of.ensures.given c.cut_of.ensures.error
