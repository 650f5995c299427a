use Rattle.bd_buffers.proofs.Words.{Record, answers_always, rules}
use Rattle.bd_buffers.proofs.Made.{halved}
use Rattle.bd_buffers.proofs.rows.index_among.Goals as goal

pub returns : goal.returns
returns c =
    let made = λ (r : Record). r.made in
    let found = c.binary_search_by_key.ensures.position made (answers_always _ _ _ (λ f a r g called. search rules)) in
    rw c.ok.ensures.value (halved made c.args.made c.args.rows.now _ c.requires.order found c.binary_search_by_key.ensures.bound)
