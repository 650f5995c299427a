use Rattle.std.specs.Prelude.{[]}
use Rattle.bd_space.specs.Histories.{history_of}
use Rattle.bd_c.specs.Behind.{Of, live_of}
use Rattle.bd_c.specs.Lives.{Begins, IsLiveRefusal}
use Rattle.bd_c.proofs.Making.{made}
use Rattle.bd_c.proofs.bridge_calls.hullpippin_bridge_new.Goals as goal

pub returns-clause-begins : goal.returns-clause-begins
returns-clause-begins c = λ _.
    made c.open_live.result (λ b. b.value) c.put_made.result c.put_made.new.handle.held (λ k. Of live_of k (Begins (history_of c.args.seats []) c.args.seats)) (IsLiveRefusal c.args.seats)
    c.open_live.ensures.ok c.open_live.ensures.refused c.put_made.ensures
