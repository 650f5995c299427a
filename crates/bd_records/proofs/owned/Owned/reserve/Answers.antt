use Rattle.bd_records.proofs.Words.{Spot, ap, false, option_map, owner_of, sym, ◌∙◌}
use Rattle.bd_records.proofs.owned.Owned.reserve.Goals as goal

pub returns-clause-stands : goal.returns-clause-stands
returns-clause-stands c = λ objects n. record {
  found = λ k. ap (option_map (λ (s : Spot). s.id)) (c.reserve.ensures.kept k) ∙ n.found k;
  ids = n.ids;
  ptrs = n.ptrs;
  rows = n.rows;
  shows = c.reserve-2.ensures.stands owner_of (λ _. false) n.rows n.shows;
  are = n.are;
  spots = λ k s e. n.spots k s (sym (c.reserve.ensures.kept k) ∙ e);
  not_higher = λ k s e. n.not_higher k s (sym (c.reserve.ensures.kept k) ∙ e);
}
