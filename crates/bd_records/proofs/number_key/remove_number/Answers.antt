use Rattle.bd_records.proofs.Words.{ObjectKey}
use Rattle.bd_records.proofs.number_key.remove_number.Goals as goal

pub returns-clause-at : goal.returns-clause-at
returns-clause-at c = λ q x.
    let k : ObjectKey = record { process = q; object = x } in
    c.remove-gone.ensures.updates.0 k
