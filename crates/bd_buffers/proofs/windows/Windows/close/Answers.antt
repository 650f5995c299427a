use Rattle.bd_buffers.proofs.Words.{Forgets, arith, buffers_held, find, is_owned_by, made_of_buffer, map, without_process, ◌+◌}
use Rattle.bd_buffers.proofs.{AllWindows.{closed, held, order_kept}, InSpace.{homes_closed}}
use Rattle.bd_buffers.proofs.windows.Windows.close.Goals as goal

pub returns : goal.returns
unfolding without_process
returns c = λ s stands.
    let t = c.args.self.now in let p = c.args.p in
    let gone : Forgets (map made_of_buffer (buffers_held (find (is_owned_by p) t.windows))) t.homes c.forget_in.new.homes = rw (← c.self.view_is, ← c.deref.ensures.value) c.forget_in.ensures in
    let left = homes_closed t.homes c.forget_in.new.homes s.buffers p stands.made.buffers_in_order stands.homes_are (rw (held t (s.steps + 1) p s.processes s.buffers stands) at gone) in
    closed t _ (s.steps + 1) p s.processes s.buffers (rw (← c.self.view_is) c.close_among.ensures) left stands

pub invariant_of-self : goal.invariant_of-self
invariant_of-self c = search (arith, order_kept)
