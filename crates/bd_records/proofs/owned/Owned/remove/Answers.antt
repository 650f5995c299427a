use Rattle.bd_records.proofs.Words.{AreDistinct, None, Object, Possession, Some, Spot, WordKey, ap, arith, cond, drop_key, dropped_shows, false, filter, id_at, id_key, look, not, option_map, own_key, owner_of, refl, same, same_owner, same_word, subst, sym, values, word_eq, word_self, ◌∙◌, ◌≡◌}
use Rattle.bd_records.proofs.{Changes.{only_own}, Distinct.{filter_distinct}, Maps.{finds_remove}, Possessing.{higher_more, id_of, map_cond, possessions_apart, possessions_less, spot_is, spots_less, values_less}}
use Rattle.bd_records.specs.Owned.{list_of}
use Rattle.bd_records.proofs.owned.Owned.remove.Goals as goal

pub returns-in-Some-clause-stands : goal.returns-in-Some-clause-stands
returns-in-Some-clause-stands c = λ objects n has.
    let x = c.args.x.now in
    let t = c.args.self.now in
    let others = λ (y : Object). not (same y.id x.id) in
    let s = c.in-Some.spot in
    let taken : look t.ptrs (own_key x) ≡ Some s =
    subst (λ (k : WordKey). look t.ptrs k ≡ Some s) c.own_key.ensures (sym c.remove.ensures.taken ∙ c.in-Some.is) in
    let f = spot_is t objects n x has (Some s) taken in
    let one : Some s ≡ Some f.0 = f.1 in
    let is : s.id ≡ x.id = (let q : s ≡ f.0 = cc in ap (λ (v : Spot). v.id) q ∙ f.2) in
    let gone : (l : WordKey) → look c.remove.new.self l ≡ cond (same_word (own_key x) l) None (look t.ptrs l) =
    subst (λ (k : WordKey). (l : WordKey) → look c.remove.new.self l ≡ cond (same_word k l) None (look t.ptrs l)) c.own_key.ensures c.remove.ensures.gone in
    let dropped = dropped_shows owner_of (λ _. false) same_owner (list_of t) (list_of t) t.lists.chains c.remove-possession.new.self s.at c.remove-possession.ensures.stands c.remove-possession.ensures.open (λ k. refl) n.rows n.shows in
    record {
      found = finds_remove own_key same_word word_eq word_self (λ y. y.id) (id_at t) (λ k. option_map (λ (v : Spot). v.id) (look c.remove.new.self k)) objects others (own_key x) n.found n.ptrs
          (λ l. ap (option_map (λ (v : Spot). v.id)) (gone l) ∙ map_cond (λ (v : Spot). v.id) (same_word (own_key x) l) None (look t.ptrs l))
          (only_own objects x.id x n.ids n.ptrs has);
      ids = filter_distinct id_key same others objects n.ids;
      ptrs = filter_distinct own_key same_word others objects n.ptrs;
      rows = drop_key s.at n.rows;
      shows = c.give_back.ensures.stands owner_of (λ _. false) (drop_key s.at n.rows) dropped;
      are = values_less s.at (record { owner = x.owner; id = s.id }) n.rows n.shows.holds.apart (subst (AreDistinct id_of same) (sym n.are) (possessions_apart objects n.ids)) (n.spots (own_key x) s taken)
          ∙ ap (λ i. filter (λ (v : Possession). not (same v.id i)) (values n.rows)) is
          ∙ ap (filter (λ (v : Possession). not (same v.id x.id))) n.are
          ∙ possessions_less objects x.id;
      spots = spots_less t objects n x has s taken is (look c.remove.new.self) gone;
      not_higher = higher_more t objects n x None (look c.remove.new.self) gone t.highest (n.not_higher (own_key x) s taken) (omega arith);
    }

pub returns-in_default-clause-stands : goal.returns-in_default-clause-stands
returns-in_default-clause-stands c = λ objects n has.
    let x = c.args.x.now in
    let t = c.args.self.now in
    let none : look t.ptrs (own_key x) ≡ None =
    subst (λ (k : WordKey). look t.ptrs k ≡ None) c.own_key.ensures (sym c.remove.ensures.taken ∙ c.in_default.is) in
    let f = spot_is t objects n x has None none in
    absurd (let one : None ≡ Some f.0 = f.1 in cc)
