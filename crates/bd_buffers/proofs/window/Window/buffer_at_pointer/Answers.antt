use Rattle.bd_buffers.proofs.Words.{Buffer, Ground, Keeps, List, None, Option, Record, Some, Stands, Window, WindowTells, all_standing, ap, arith, at_pointer, buffer_in, eq-eqb, eqb-true, find, kept, noted, refl, seen, slice_index, ℕ, ◌-◌, ◌/◌, ◌≡◌}
use Rattle.bd_buffers.proofs.Kept.{by_start}
use Rattle.bd_buffers.proofs.window.Window.buffer_at_pointer.Goals as goal

-- what the buffer made where it is noted tells of the one with the pointer
at_start : (now : Window) (rs : List Record) (g : Ground) (n p : ℕ) (o : Option Buffer) → Keeps rs g → all_standing g.memory rs ≡ now.buffers → n ≡ slice_index g.starts.items ((p - 65536) / 8)
    → WindowTells (Stands now) o (λ size bs. buffer_in bs n) → WindowTells (Stands now) (kept (at_pointer p) o) (λ size bs. find (at_pointer p) bs)
at_start now rs g n p o keeps seen noted found size bs is =
    let here = found now.size now.buffers (record { size_is = refl; buffers_are = refl }) in
    rw (← is.buffers_are, ← seen) (by_start g.size p (all_standing g.memory rs) g.starts.items o keeps.notes.window keeps.notes.starts (rw (seen, ← noted) here))

pub returns-in_err-b-clause-found : goal.returns-in_err-b-clause-found
returns-in_err-b-clause-found c = λ size bs is. rw c.from_residual.ensures (at_start c.args.self.now _ _ c.noted_at.result c.args.pointer None c.self.invariant (ap (λ (v : Window). v.buffers) c.self.view_is) c.noted_at.ensures c.in_err-b.ensures.found size bs is)

pub returns-then-pointer_of-pointer-clause-found : goal.returns-then-pointer_of-pointer-clause-found
returns-then-pointer_of-pointer-clause-found c = λ size bs is.
    let found = at_start c.args.self.now _ _ c.noted_at.result c.args.pointer (Some c.in_ok-b.b) c.self.invariant (ap (λ (v : Window). v.buffers) c.self.view_is) c.noted_at.ensures c.in_ok-b.ensures.found size bs is in
    grind (arith, eq-eqb)

pub returns-else-pointer_of-pointer-clause-found : goal.returns-else-pointer_of-pointer-clause-found
returns-else-pointer_of-pointer-clause-found c = λ size bs is.
    let found = at_start c.args.self.now _ _ c.noted_at.result c.args.pointer (Some c.in_ok-b.b) c.self.invariant (ap (λ (v : Window). v.buffers) c.self.view_is) c.noted_at.ensures c.in_ok-b.ensures.found size bs is in
    grind (arith, eqb-true)
