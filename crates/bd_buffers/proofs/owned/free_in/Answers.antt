use Rattle.bd_buffers.proofs.Words.{Buffer, List, Some, filter, is_made_at, not, refl}
use Rattle.bd_buffers.proofs.AllWindows.{one_made}
use Rattle.bd_buffers.proofs.owned.free_in.Goals as goal

pub returns-in-Some : goal.returns-in-Some
returns-in-Some c =
    let f : List Buffer → List Buffer = filter (λ (b : Buffer). not (is_made_at c.args.made b)) in
    let w = c.index_mut.result.now.window in
    one_made c.args.windows.now.items c.args.p c.in-Some.at _ c.free.new.self f c.requires.order (rw c.deref.ensures.value at c.in-Some.ensures) c.index_mut.ensures.value (c.free.ensures.stands w.size w.buffers (record { size_is = refl; buffers_are = refl }))
