use Rattle.bd_buffers.proofs.Words.{Buffer, Some, arith, buffers_of, filter, filter_none, home_key, is_made_at, look, not, sym, without_buffer, ◌+◌, ◌∙◌, ◌≡◌}
use Rattle.bd_buffers.proofs.{AllWindows.{one_changes, order_one, stay}, InSpace.{homes_forgotten, kept_in, made_kept, none_home, others_home}}
use Rattle.bd_buffers.proofs.windows.Windows.free.Goals as goal

pub returns-in-Some : goal.returns-in-Some
unfolding without_buffer
returns-in-Some c = λ s stands.
    let t = c.args.self.now in let made = c.args.made in let p = c.in-Some.p in
    let keep = λ (b : Buffer). not (is_made_at made b) in
    let home : look t.homes (home_key made) ≡ Some p = rw (← c.self.view_is, ← c.home_key.ensures) (sym c.in-Some.ensures.taken) in
    let homes = homes_forgotten t.homes c.remove.new.self s.buffers made stands.homes_are (λ k. rw (← c.self.view_is) (rw c.home_key.ensures at (c.remove.ensures.gone k))) in
    one_changes t _ (s.steps + 1) (s.steps + 1) p s.processes s.buffers (filter keep s.buffers) (filter keep) (rw (← c.self.view_is) c.free_in.ensures) (sym (kept_in keep s.buffers p))
    (λ r ne. sym (kept_in keep s.buffers r ∙ filter_none (λ (b : Buffer). b.made) made (buffers_of s.buffers r) (others_home t.homes s.buffers made p r stands.made.buffers_in_order stands.homes_are home ne)))
    (made_kept (s.steps + 1) s.processes keep s.buffers stands.made) homes stands

pub invariant_of-self : goal.invariant_of-self
invariant_of-self c = search (arith, order_one)

pub returns-in_default : goal.returns-in_default
unfolding without_buffer
returns-in_default c = λ s stands.
    let t = c.args.self.now in
    let none = none_home t.homes s.buffers c.args.made stands.homes_are (rw (← c.self.view_is, ← c.home_key.ensures) (sym c.remove.ensures.taken ∙ c.in_default.is)) in
    let same = filter_none (λ (b : Buffer). b.made) c.args.made s.buffers none in
    let homes = homes_forgotten t.homes c.remove.new.self s.buffers c.args.made stands.homes_are (λ k. rw (← c.self.view_is) (rw c.home_key.ensures at (c.remove.ensures.gone k))) in
    rw same (stay t _ (s.steps + 1) s.processes s.buffers (rw (← c.self.view_is)) (rw same at homes) stands)
