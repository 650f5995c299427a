use Rattle.bd_buffers.proofs.Words.{filter_same, lives, rules, tests}
use Rattle.bd_buffers.proofs.Live.{packed_live, packed_rows}
use Rattle.bd_buffers.proofs.rows.pack.Goals as goal

pub returns-clause-stand : goal.returns-clause-stand
returns-clause-stand c = rw (filter_same _ lives _ (λ x b f' k. search (rules, tests)) _ _ c.retain.ensures.filtered) (packed_rows c.args.rows.now.items c.requires.stand)

pub returns-clause-live : goal.returns-clause-live
returns-clause-live c = rw (filter_same _ lives _ (λ x b f' k. search (rules, tests)) _ _ c.retain.ensures.filtered) (packed_live c.args.rows.now.items)
