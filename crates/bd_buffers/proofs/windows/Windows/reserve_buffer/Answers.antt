use Rattle.bd_buffers.proofs.Words.{HasBufferRoom, None, OwnedWindow, Some, find_none}
use Rattle.bd_buffers.proofs.{AllWindows.{found_at, left_at}, Made.{on_err, on_ok}}
use Rattle.bd_buffers.proofs.windows.Windows.reserve_buffer.Goals as goal

pub returns-in-None-clause-room : goal.returns-in-None-clause-room
unfolding HasBufferRoom
returns-in-None-clause-room c =
    let none = find_none (λ (w : OwnedWindow). w.owner) c.args.p c.self.inside.windows.items (rw c.deref.ensures.value at c.in-None.ensures) in
    (rw none tt, c.in_ok-reserve.ensures.room)

pub returns-in-Some-clause-room : goal.returns-in-Some-clause-room
unfolding HasBufferRoom
returns-in-Some-clause-room c =
    let there = left_at c.self.inside.windows.items c.args.p c.in-Some.at _ c.reserve-in-Some.new.self c.self.invariant (rw c.deref.ensures.value at c.in-Some.ensures) c.index_mut.ensures.value in
    on_ok _ _ (λ room. (rw there room, c.in_ok-reserve.ensures.room)) c.reserve-in-Some.result c.reserve-in-Some.ensures.room

pub returns-in-Some-clause-grown : goal.returns-in-Some-clause-grown
unfolding HasBufferRoom
returns-in-Some-clause-grown c =
    let found = found_at c.self.inside.windows.items c.args.p c.in-Some.at _ c.self.invariant (rw c.deref.ensures.value at c.in-Some.ensures) c.index_mut.ensures.value in
    on_err _ _ (λ none has. none (rw (← c.self.view_is, found) at has.0)) c.reserve-in-Some.result c.reserve-in-Some.ensures.grown
