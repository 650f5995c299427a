use Rattle.bd_records.proofs.Words.{sym, ◌∙◌}
use Rattle.bd_records.proofs.names.Names.remove.Goals as goal

pub remove_at-requires : goal.remove_at-requires
remove_at-requires c = sym c.number_of.ensures ∙ c.in-Some.is
