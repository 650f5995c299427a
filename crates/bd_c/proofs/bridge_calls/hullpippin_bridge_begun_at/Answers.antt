use Rattle.bd_engine.specs.Begun.{refusals}
use Rattle.bd_c.specs.Behind.{Of, live_of}
use Rattle.bd_c.specs.Lives.{Begins, IsLiveRefusal}
use Rattle.bd_c.proofs.Making.{made}
use Rattle.bd_c.proofs.bridge_calls.hullpippin_bridge_begun_at.Goals as goal

pub returns-clause-begins : goal.returns-clause-begins
returns-clause-begins c = λ _.
    made c.open_live_at.result (λ b. b.value) c.put_made.result c.put_made.new.handle.held (λ k. Of live_of k (Begins (refusals c.args.seats c.args.steps) c.args.seats)) (IsLiveRefusal c.args.seats)
    c.open_live_at.ensures.ok c.open_live_at.ensures.refused c.put_made.ensures
