use Rattle.std.proofs.Common.{ap, ◌∙◌}
use Rattle.slab.specs.Slab.{slab_len}
use Rattle.bd_chains.specs.Walk.{walk}
use Rattle.bd_chains.proofs.Walking.{items_walked}
use Rattle.bd_chains.proofs.chains.Chains.items_on.Goals as goal

pub returns : goal.returns
returns g c = λ rs h.
    let s = c.args.self.now.items in
    ap (λ n. walk s n c.first.result) c.len.ensures ∙ ap (walk s (slab_len s)) (c.first.ensures rs h) ∙ items_walked c.args.self.now c.args.list rs h
