use Rattle.bd_records.proofs.Words.{None, Some, Spot, [], ap, false, option_map, owner_of, refl, sym, ◌∙◌, ◌≡◌}
use Rattle.bd_records.proofs.owned.Owned.new.Goals as goal

pub returns : goal.returns
returns c = record {
  found = λ k. ap (option_map (λ (s : Spot). s.id)) (c.new.ensures k);
  ids = tt;
  ptrs = tt;
  rows = [];
  shows = c.new-3.ensures c.new-2.ensures owner_of (λ _. false);
  are = refl;
  spots = λ k s e. absurd (let h : None ≡ Some s = sym (c.new.ensures k) ∙ e in cc);
  not_higher = λ k s e. absurd (let h : None ≡ Some s = sym (c.new.ensures k) ∙ e in cc);
}
