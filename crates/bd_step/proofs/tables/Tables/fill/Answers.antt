use Rattle.bd_step.proofs.{Words.{Buffer, CanAdd, HasBufferRoom, Windows, Within, ap, length, needed, own_notices, size_of, subst, sym, ◌∙◌, ◌≡◌}, Deliveries.{filled_is}}
use Rattle.bd_step.proofs.tables.Tables.fill.Goals as goal

pub returns-clause-stands : goal.returns-clause-stands
unfolding own_notices
returns-clause-stands c = λ s h.
    let z = own_notices s c.args.actor.thread.seat c.items.result.now in
    let b = c.lent.ensures ∙ c.buffer_of-buffer.ensures.buffer s.steps z (c.own_notices.ensures.stands s.steps s h) in
    subst (Within c.add_buffer.new.self) (filled_is s c.args.actor c.args.sent.now c.args.delivery c.args.actor.thread.seat c.items.result.now c.lent.result c.items.ensures b)
    (c.add_buffer.ensures.stands z (c.own_notices.ensures.stands s.steps s h) (sym (ap (λ (x : Buffer). x.made) b)))

pub add_buffer-requires-clause-room : goal.add_buffer-requires-clause-room
add_buffer-requires-clause-room c =
    let new = c.own_notices.new.self.windows in
    let b = c.buffer_of-buffer.result in
    let v = c.args.delivery in
    let is = c.buffer_of-buffer.ensures in
    let base : HasBufferRoom new v.receiver.made v.start (size_of c.args.sent.now) =
    subst (λ (w : Windows). HasBufferRoom w v.receiver.made v.start (size_of c.args.sent.now)) (sym c.own_notices.ensures.works.windows_are) c.requires.room in
    let sized = subst (λ n. HasBufferRoom new v.receiver.made v.start n) (sym is.at.1) base in
    let placed = subst (λ n. HasBufferRoom new v.receiver.made n b.size) (sym is.at.0) sized in
    subst (λ (x : Buffer). HasBufferRoom new x.receiver x.start x.size) (sym c.lent.ensures) (subst (λ n. HasBufferRoom new n b.start b.size) (sym is.receiver) placed)

pub add_buffer-requires-clause-sized : goal.add_buffer-requires-clause-sized
add_buffer-requires-clause-sized c = subst (λ (b : Buffer). b.size ≡ needed (length b.bytes) (length b.offsets)) (sym c.lent.ensures) c.buffer_of-buffer.ensures.sized

pub add_buffer-requires-clause-can_add : goal.add_buffer-requires-clause-can_add
add_buffer-requires-clause-can_add c =
    subst (λ (b : Buffer). CanAdd c.own_notices.new.self.windows b.receiver b.one_way b.size b.start) (sym c.lent.ensures) c.buffer_of-buffer.ensures.can_add
