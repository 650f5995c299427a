use Rattle.bd_records.proofs.Words.{None, Possession, Row, Some, Spot, WordKey, [], ap, arith, cond, false, id_at, id_key, look, option_map, own_key, owner_of, possession, refl, same, same_eq, same_self, same_word, subst, sym, word_eq, word_self, ◌++◌, ◌∙◌, ◌∷◌, ◌≡◌}
use Rattle.bd_records.proofs.{Distinct.{push_distinct}, Maps.{finds_push}, Possessing.{higher_more, map_cond, none_at, possessions_more, spots_more, values_more}}
use Rattle.bd_records.proofs.owned.Owned.push.Goals as goal

pub returns-clause-stands : goal.returns-clause-stands
returns-clause-stands c = λ objects n new.
    let x = c.args.x.now in
    let t = c.args.self.now in
    let spot : Spot = record { id = x.id; at = c.push-at.result } in
    let put : (l : WordKey) → look c.put_spot.new.ptrs l ≡ cond (same_word (own_key x) l) (Some spot) (look t.ptrs l) =
    subst (λ (k : WordKey). look t.ptrs k ≡ None → (l : WordKey) → look c.put_spot.new.ptrs l ≡ cond (same_word k l) (Some spot) (look t.ptrs l)) c.own_key.ensures c.put_spot.ensures.put (none_at t objects n (own_key x) new.1) in
    let pushed = c.push-at.ensures.stands owner_of (λ _. false) n.rows refl refl n.shows in
    let r : Row Possession = record { key = c.push-at.result; list = pushed.0; held = record { value = possession x; counted = false } } in
    record {
      found = finds_push own_key same_word word_eq word_self (λ y. y.id) (id_at t) (λ k. option_map (λ (s : Spot). s.id) (look c.put_spot.new.ptrs k)) objects x n.found new.1
          (λ l. ap (option_map (λ (s : Spot). s.id)) (put l) ∙ map_cond (λ (s : Spot). s.id) (same_word (own_key x) l) (Some spot) (look t.ptrs l));
      ids = push_distinct id_key same same_eq same_self x objects n.ids new.0;
      ptrs = push_distinct own_key same_word word_eq word_self x objects n.ptrs new.1;
      rows = n.rows ++ r ∷ [];
      shows = pushed.1;
      are = values_more n.rows r ∙ ap (λ vs. vs ++ possession x ∷ []) n.are ∙ sym (possessions_more objects x);
      spots = spots_more t objects n x r pushed.1.holds.apart refl (look c.put_spot.new.ptrs) put;
      not_higher = higher_more t objects n x (Some spot) (look c.put_spot.new.ptrs) put c.max-self.result (omega (arith, c.max-self.ensures)) (omega (arith, c.max-self.ensures));
    }
