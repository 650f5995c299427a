use Rattle.bd_buffers.proofs.Words.{Buffer, IsInMemory, Some, all_standing, ap, arith, buffer_in, found_has, is_made_at, is_record_at, sym, ◌≡◌}
use Rattle.bd_buffers.proofs.{Kept.{found_placed}, Standing.{found_standing}}
use Rattle.bd_buffers.proofs.window.Window.buffer.Goals as goal

pub lent_from-requires : goal.lent_from-requires
lent_from-requires c =
    let w = c.self.inside in
    (found_has (is_record_at c.args.made) (IsInMemory w.ground.memory) w.buffers.records c.in-Some.record.now (sym c.in-Some.ensures) c.self.invariant.there).0

found : (c : goal.After-lent_from) → Some c.lent_from.result ≡ buffer_in (all_standing c.self.inside.ground.memory c.self.inside.buffers.records) c.args.made
found c = rw (found_standing c.self.inside.ground.memory c.self.inside.buffers.records c.args.made, ← c.in-Some.ensures) (ap (λ (b : Buffer). Some b) c.lent_from.ensures)

pub returns-in-Some-clause-found : goal.returns-in-Some-clause-found
returns-in-Some-clause-found c = λ size bs is. grind (arith, found)

pub returns-in-Some-clause-placed : goal.returns-in-Some-clause-placed
returns-in-Some-clause-placed c = found_placed c.self.inside.ground.size (is_made_at c.args.made) _ (Some c.lent_from.result) c.self.invariant.notes.window (found c)
