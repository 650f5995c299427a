use Rattle.bd_records.proofs.Words.{ObjectKey}
use Rattle.bd_records.proofs.keys.reserve_numbers.Goals as goal

pub returns-clause-same : goal.returns-clause-same
returns-clause-same c = λ q x.
    let k : ObjectKey = record { process = q; object = x } in
    c.reserve.ensures.entries.2 k
