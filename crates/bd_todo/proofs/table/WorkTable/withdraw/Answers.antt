use Rattle.std.proofs.Common.{◌≡◌, ◌∙◌, List, false, sym, subst, ap, nat_lt, not, filter, unwrap_or, option_map, arith}
use Rattle.bd_space.specs.{declared.space.Work.{Work}}
use Rattle.bd_todo.specs.{declared.spots.Spot.{Spot}, declared.spots.Sought.{Sought}, declared.table.WorkTable.{WorkTable}, FoundCounts.{found_at}, Spots.{is_sought}, Stands.{WorksAre}}
use Rattle.bd_todo.proofs.{OnList.{nothing_goes}, WorksStand.{has_sought_is}}
use Rattle.bd_todo.proofs.table.WorkTable.withdraw.Goals as goal

none_goes : (t : WorkTable) (k : Sought) (l : List Work) → nat_lt 0 (found_at t.register.spots k) ≡ false → WorksAre t l
    → WorksAre t (filter (λ w. not (is_sought k w.kind)) l)
none_goes t k l none h = subst (WorksAre t) (sym (nothing_goes (λ (w : Work). is_sought k w.kind) l (sym (has_sought_is t k l h) ∙ none))) h

pub returns-in_default-clause-stands : goal.returns-in_default-clause-stands
returns-in_default-clause-stands c = λ l h.
    let count = sym c.spot.ensures ∙ ap (λ r. unwrap_or (option_map (λ (s : Spot). s.count) r) 0) c.in-Some.is in
    let least = c.if-spot-gt0.false in
    let zero : c.in-Some.spot.count ≡ 0 = omega (arith, least) in
    none_goes c.args.self.now c.args.key l (ap (nat_lt 0) (count ∙ zero)) h

pub returns-in_default-2-clause-stands : goal.returns-in_default-2-clause-stands
returns-in_default-2-clause-stands c = λ l h.
    let count = sym c.spot.ensures ∙ ap (λ r. unwrap_or (option_map (λ (s : Spot). s.count) r) 0) c.in_default.is in
    none_goes c.args.self.now c.args.key l (ap (nat_lt 0) count) h
