use Rattle.std.proofs.Common.{sym, subst}
use Rattle.std.specs.Prelude.{Some}
use Rattle.std.proofs.lemmas.Option.{none-some}
use Rattle.bd_spelling.specs.Reading.{Fails}
use Rattle.bd_c.proofs.certificates.record_of.Goals as goal

pub returns-in-Err-Malformed-clause-refused : goal.returns-in-Err-Malformed-clause-refused
returns-in-Err-Malformed-clause-refused c = λ r told. none-some r (sym (subst (λ e. Fails e (Some r)) c.in-Err-Malformed.field-0-is (c.in-Err-Malformed.ensures.only r told)))
