use Rattle.std.proofs.Common.{sym, ◌∙◌}
use Rattle.bd_chains.proofs.Listing.{none_is}
use Rattle.bd_chains.proofs.lists.Lists.new.Goals as goal

pub returns : goal.returns
returns g c = λ none f k. record {
  holds = c.new.ensures.stands;
  listed = tt;
  opened = λ l n is. absurd (none_is (sym (none l) ∙ is));
  one_list = λ l m n is _. absurd (none_is (sym (none l) ∙ is));
}
