use Rattle.std.proofs.Common.{None, Some, arith, subst}
use Rattle.bd_spelling.specs.Reading.{Fails, entry_from}
use Rattle.bd_journal.proofs.Cuts.{first_whole}
use Rattle.bd_journal.proofs.steps.whole_entry_at.Goals as goal

pub returns-in-Ok-clause-entry : goal.returns-in-Ok-clause-entry
returns-in-Ok-clause-entry c =
    let a = c.args in
    first_whole a.version a.seats a.bytes.now (Some (c.in-Ok.found.0, c.in-Ok.found.1.now)) (λ i. omega (arith, c.type_inv.bytes i)) c.in-Ok.ensures

pub returns-in-Err-Malformed-clause-entry : goal.returns-in-Err-Malformed-clause-entry
returns-in-Err-Malformed-clause-entry c =
    let a = c.args in
    let none = subst (λ e. Fails e (entry_from a.version a.seats a.bytes.now)) c.in-Err-Malformed.field-0-is c.in-Err-Malformed.ensures in
    first_whole a.version a.seats a.bytes.now None (λ i. omega (arith, c.type_inv.bytes i)) none
