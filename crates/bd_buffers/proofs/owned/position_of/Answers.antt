use Rattle.bd_buffers.proofs.Words.{OwnedWindow, answers_always, rules}
use Rattle.bd_buffers.proofs.Made.{halved}
use Rattle.bd_buffers.proofs.owned.position_of.Goals as goal

pub returns : goal.returns
returns c =
    let owner = λ (w : OwnedWindow). w.owner in
    let found = c.binary_search_by_key.ensures.position owner (answers_always _ _ _ (λ f a r g called. search rules)) in
    rw c.ok.ensures.value (halved owner c.args.p c.args.windows.now _ c.requires.order found c.binary_search_by_key.ensures.bound)
