use Rattle.bd_records.proofs.Words.{Spot, WordKey, ap, option_map, sym, ◌∙◌}
use Rattle.bd_records.proofs.Possessing.{none_higher}
use Rattle.bd_records.proofs.owned.Owned.with_ptr.Goals as goal

pub returns-then-ptr-self : goal.returns-then-ptr-self
returns-then-ptr-self c = λ objects n.
    let k : WordKey = record { process = c.args.p; word = c.args.ptr } in
    sym (ap (option_map (λ (s : Spot). s.id)) (none_higher c.args.self.now objects n k c.if-ptr-self.true)) ∙ n.found k
