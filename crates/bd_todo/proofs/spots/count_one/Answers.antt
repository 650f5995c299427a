use Rattle.std.proofs.Common.{ℕ, ap, ◌∙◌, min, ◌+◌, unwrap_or, arith}
use Rattle.std.specs.HashMap.{get_by}
use Rattle.bd_todo.specs.{declared.spots.Spot.{Spot}, Spots.{same_sought}}
use Rattle.bd_todo.proofs.SoughtCounts.{count_or}
use Rattle.bd_todo.proofs.spots.count_one.Goals as goal

pub returns-clause-put : goal.returns-clause-put
returns-clause-put c = λ k.
    let raised : Spot = record { count = c.saturating_add-count.result; slot = c.args.slot } in
    let e = (c.in-Ok.ensures.update.0 raised).0 k in
    grind (arith, e)

pub returns-clause-count : goal.returns-clause-count
returns-clause-count c =
    let none : Spot = record { count = 0; slot = c.args.slot } in
    let more = λ (n : ℕ). min (n + 1) 18446744073709551615 in
    let was = ap (λ (s : Spot). s.count) (c.or_insert-spot.ensures.value ∙ ap (λ o. unwrap_or o none) c.in-Ok.ensures.value) ∙ count_or (get_by (same_sought c.args.key) c.args.spots.now) none in
    c.saturating_add-count.ensures ∙ ap more was
