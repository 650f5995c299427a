use Rattle.std.proofs.Common.{◌∙◌, List, refl}
use Rattle.std.proofs.lemmas.Iterator.Consumers.{nth_from_yields_List, YieldsList-from_first}
use Rattle.bd_space.specs.declared.step.Identity.{Identity}
use Rattle.bd_c.proofs.Looking.{as_it_is}
use Rattle.bd_c.proofs.space_looks.carried_at.Goals as goal

pub returns : goal.returns
returns c =
    as_it_is c.nth.result
    ∙ nth_from_yields_List c.nth.result c.nth.new.self c.args.index c.nth.ensures.ran (YieldsList-from_first (λ (x : Identity). x) (λ (a : List Identity). a) c.args.objects refl)
