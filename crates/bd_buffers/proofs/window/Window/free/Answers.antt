use Rattle.bd_buffers.proofs.Words.{Buffer, Window, ap, arith, filter, is_made_at, not}
use Rattle.bd_buffers.proofs.Standing.{kept_standing}
use Rattle.bd_buffers.proofs.window.Window.free.Goals as goal

pub returns-clause-stands : goal.returns-clause-stands
returns-clause-stands c = λ size bs is.
    let left = kept_standing c.self.inside.ground.memory c.args.made c.self.inside.buffers.records in
    let seen = ap (λ (v : Window). filter (λ (b : Buffer). not (is_made_at c.args.made b)) v.buffers) c.self.view_is in
    let size = ap (λ (v : Window). v.size) c.self.view_is in
    record { size_is = grind arith; buffers_are = grind arith }
