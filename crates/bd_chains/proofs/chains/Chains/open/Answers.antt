use Rattle.std.proofs.Common.{refl, Some, None}
use Rattle.bd_chains.specs.Columns.{ends_of}
use Rattle.bd_chains.proofs.Tables.{open_holds, updated}
use Rattle.bd_chains.proofs.chains.Chains.open.Goals as goal

pub returns-clause-stands : goal.returns-clause-stands
returns-clause-stands g c = λ rs h.
    open_holds c.args.self.now _ c.insert_reserved.result rs h refl c.insert_reserved.ensures.was_vacant
    (updated c.args.self.now.ends c.insert_reserved.new.self c.insert_reserved.result (Some (ends_of None)) c.insert_reserved.ensures.updates)
