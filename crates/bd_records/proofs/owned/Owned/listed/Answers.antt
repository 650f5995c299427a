use Rattle.bd_records.proofs.Words.{List, Possession, ap, map, ◌∙◌}
use Rattle.bd_records.proofs.Possessing.{id_of, ids_of}
use Rattle.bd_records.proofs.owned.Owned.listed.Goals as goal

pub returns : goal.returns
returns c = λ objects n. ap (λ (vs : List Possession). map id_of vs) (c.of.ensures objects n) ∙ ids_of _
