use Rattle.bd_buffers.proofs.Words.{Buffer, Some, arith, buffer_taken, buffers_of, changed, changed_none, hand_out, home_key, is_made_at, look, read_by, sym, ◌+◌, ◌∙◌, ◌≡◌}
use Rattle.bd_buffers.proofs.{AllWindows.{handed_by, one_changes, order_one}, InSpace.{handed_in, homes_handed, made_handed, none_home, others_home}}
use Rattle.bd_buffers.proofs.windows.Windows.hand_out.Goals as goal

pub invariant_of-self : goal.invariant_of-self
invariant_of-self c = search (arith, order_one)

pub returns-in-Some-get : goal.returns-in-Some-get
unfolding read_by
returns-in-Some-get c = λ s seat ws stands e.
    let t = c.args.self.now in let made = c.in-Some.made in let p = c.in-Some-get.p in
    let f = changed (is_made_at made) hand_out in
    let home : look t.homes (home_key made) ≡ Some p = rw (← c.self.view_is, ← c.home_key.ensures) (sym c.in-Some-get.ensures) in
    handed_by _ (s.steps + 1) s.processes s.buffers (buffer_taken s ws) made (sym c.in-Some.is ∙ e)
    (one_changes t _ (s.steps + 1) (s.steps + 1) p s.processes s.buffers (f s.buffers) f (rw (← c.self.view_is) c.hand_out_in.ensures) (sym (handed_in s.buffers p made))
    (λ r ne. sym (handed_in s.buffers r made ∙ changed_none (λ (b : Buffer). b.made) hand_out made (buffers_of s.buffers r) (others_home t.homes s.buffers made p r stands.made.buffers_in_order stands.homes_are home ne)))
    (made_handed (s.steps + 1) s.processes (is_made_at made) s.buffers stands.made) (homes_handed _ s.buffers (is_made_at made) (rw (← c.self.view_is) at stands.homes_are)) stands)

pub returns-in_default-get : goal.returns-in_default-get
unfolding read_by
returns-in_default-get c = λ s seat ws stands e.
    let t = c.args.self.now in let made = c.in-Some.made in
    let none = none_home t.homes s.buffers made stands.homes_are (rw (← c.self.view_is, ← c.home_key.ensures) (sym c.get.ensures ∙ c.in_default-get.is)) in
    handed_by t (s.steps + 1) s.processes s.buffers (buffer_taken s ws) made (sym c.in-Some.is ∙ e) (rw (changed_none (λ (b : Buffer). b.made) hand_out made s.buffers none) stands)
