use Rattle.bd_buffers.proofs.Words.{OwnedWindow, all_pairs_push, false, refl, sym, with_process, ◌<◌}
use Rattle.bd_buffers.proofs.AllWindows.{opened}
use Rattle.bd_buffers.proofs.windows.Windows.open.Goals as goal

pub invariant_of-self : goal.invariant_of-self
invariant_of-self c =
    let before = rw (← c.self.view_is) at (c.is_next.ensures.last c.if-is_next.true) in
    rw c.push_reserved.ensures.items (all_pairs_push (λ (a : OwnedWindow) (b : OwnedWindow). a.owner < b.owner) c.self.inside.windows.items _ c.self.invariant before)

pub returns-then-is_next : goal.returns-then-is_next
unfolding with_process
returns-then-is_next c = λ s pid euid size stands e empty.
    opened c.args.self.now _ s.steps s.processes s.buffers (record { made = s.steps; pid = pid; euid = euid; window = size; spam_detection = false }) (record { owner = c.args.place; window = c.args.window })
    refl (sym e) empty (rw (← c.self.view_is) c.push_reserved.ensures.items) (rw (← c.self.view_is)) stands

pub returns-else-is_next : goal.returns-else-is_next
returns-else-is_next c = λ s pid euid size stands e empty. let always = c.is_next.ensures.always s stands e in cc
