use Rattle.std.proofs.Common.{sym, ◌∙◌}
use Rattle.bd_c.proofs.Looking.{finds_this, finds_nothing}
use Rattle.bd_c.proofs.live.OwnedLive.tell_list.Goals as goal

pub returns-in-Some : goal.returns-in-Some
returns-in-Some c = finds_this _ _ _ (sym c.list_at.ensures ∙ c.in-Some.is)

pub returns-in-None : goal.returns-in-None
returns-in-None c = finds_nothing _ _ (sym c.list_at.ensures ∙ c.in-None.is)
