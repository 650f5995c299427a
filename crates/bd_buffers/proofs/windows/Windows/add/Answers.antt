use Rattle.bd_buffers.proofs.Words.{Buffer, CanAdd, CanHold, HasBufferRoom, List, None, OwnedWindow, Some, add_buffer, find_none, is_of, refl, seen, sym, [], ◌++◌, ◌∷◌}
use Rattle.bd_buffers.proofs.{AllWindows.{buffer_added, found_at, one_made}, InSpace.{homes_noted}, Standing.{found_of}}
use Rattle.bd_buffers.proofs.windows.Windows.add.Goals as goal

pub commit-requires-clause-room : goal.commit-requires-clause-room
unfolding HasBufferRoom
commit-requires-clause-room c =
    let found = found_at c.self.inside.windows.items _ c.in-Some.at _ c.self.invariant (rw (c.receiver-receiver.ensures, c.deref.ensures.value) at c.in-Some.ensures) c.index_mut.ensures.value in
    rw (← c.self.view_is, found) at c.requires.room.0

pub commit-requires-clause-can_take : goal.commit-requires-clause-can_take
unfolding CanAdd CanHold
commit-requires-clause-can_take c =
    let found = found_at c.self.inside.windows.items _ c.in-Some.at _ c.self.invariant (rw (c.receiver-receiver.ensures, c.deref.ensures.value) at c.in-Some.ensures) c.index_mut.ensures.value in
    rw (← c.self.view_is, found_of seen (is_of c.args.buffer.receiver), found) at c.requires.can_add

pub returns-then-is_next_in : goal.returns-then-is_next_in
unfolding add_buffer
returns-then-is_next_in c = λ s stands e.
    let t = c.args.self.now in let w = c.index_mut.result.now in
    let f : List Buffer → List Buffer = λ xs. xs ++ c.args.buffer ∷ [] in
    let here = rw (c.receiver-receiver.ensures, c.deref.ensures.value) at c.in-Some.ensures in
    let grown = one_made c.self.inside.windows.items c.args.buffer.receiver c.in-Some.at w c.commit.new.self f c.self.invariant here c.index_mut.ensures.value
    (c.commit.ensures.stands w.window.size w.window.buffers (record { size_is = refl; buffers_are = refl })) in
    let homes = homes_noted t.homes c.insert.new.self s.buffers c.args.buffer stands.homes_are (rw e at stands.made.buffers_before)
    (λ k. rw (← c.self.view_is) (rw (c.home_key.ensures, c.made-made.ensures, c.receiver-receiver.ensures) at (c.insert.ensures.put k))) in
    let found = found_at c.self.inside.windows.items _ c.in-Some.at w c.self.invariant here c.index_mut.ensures.value in
    buffer_added t _ s.steps s.processes s.buffers c.args.buffer w (sym e) (rw (← c.self.view_is) found) (rw (← c.self.view_is) grown) homes stands

pub returns-else-is_next_in : goal.returns-else-is_next_in
returns-else-is_next_in c = λ s stands e. let always = c.is_next_in.ensures.always s stands (rw c.made-made.ensures e) in cc

pub unreachable-requires : goal.unreachable-requires
unfolding CanAdd
unreachable-requires c =
    let p = c.args.buffer.receiver in
    let none = find_none (λ (w : OwnedWindow). w.owner) p c.self.inside.windows.items (rw (c.receiver-receiver.ensures, c.deref.ensures.value, c.in-None.is) at c.position_of.ensures) in
    absurd (rw (← c.self.view_is, found_of seen (is_of p), none) at c.requires.can_add)
