use Rattle.bd_c.specs.Behind.{Of, driver_of}
use Rattle.bd_c.specs.Hosts.{Opens, IsRefusal}
use Rattle.bd_c.proofs.Making.{made}
use Rattle.bd_c.proofs.driver_calls.hullpippin_new_with_key.Goals as goal

pub returns-clause-opens : goal.returns-clause-opens
returns-clause-opens c = λ _.
    made c.open_host.result (λ b. b.value) c.put_made.result c.put_made.new.handle.held (λ k. Of driver_of k (Opens c.args.seats c.args.key)) (IsRefusal c.args.seats)
    c.open_host.ensures.ok c.open_host.ensures.refused c.put_made.ensures
