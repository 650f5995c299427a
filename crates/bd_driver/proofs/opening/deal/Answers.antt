use Rattle.bd_driver.proofs.{Deals.{deals_at, new_seats_more}, Words.{Hands, Kept, Splits, TableId, [], ap, arith, new_seats, newcomers, others_of, rules, seated, subst, suc, sym, view_of, ℕ, ◌++◌, ◌+◌, ◌-◌, ◌<◌, ◌∙◌, ◌∷◌, ◌≡◌}}
use Rattle.bd_driver.proofs.opening.deal.Goals as goal

left_is : (me : Hands) (seats number : ℕ) → me ≡ (newcomers seats number (seats - number), []) → number < seats → me.0 ≡ newcomers seats number (suc (seats - (number + 1)))
left_is me seats number is room =
    let n : seats - number ≡ suc (seats - (number + 1)) = omega arith in
    ap (λ (m : Hands). m.0) is ∙ ap (newcomers seats number) n

more : (table : TableId) (seats n : ℕ) → new_seats table seats 0 n ++ record { table = table; view = seated seats n } ∷ [] ≡ new_seats table seats 0 (n + 1)
more table seats n =
    let a : n ≡ 0 + n = omega arith in
    let b : suc n ≡ n + 1 = omega arith in
    ap (λ (k : ℕ). new_seats table seats 0 n ++ record { table = table; view = seated seats k } ∷ []) a ∙ (sym (new_seats_more table seats 0 n) ∙ ap (new_seats table seats 0) b)

pub split_seat-table_seat-requires : goal.split_seat-table_seat-requires
split_seat-table_seat-requires c =
    let r = c.requires in
    (c.loop-number.invariant.table, search rules, subst (λ (k : ℕ). Splits (Kept k) c.loop-number.keeper.id c.loop-number.keeper.me.0 (others_of c.loop-number.keeper.me.0) (view_of c.loop-number.keeper.me.0 ∷ [])) (sym r.key) (deals_at c.args.seats c.loop-number.keeper.id c.loop-number.number _ _ (left_is _ _ _ c.loop-number.invariant.keeper c.loop-number-test.true)))

pub open-requires-clause-fresh : goal.open-requires-clause-fresh
open-requires-clause-fresh c =
    let i = c.loop-number.invariant in
    let left = left_is _ _ _ i.keeper c.loop-number-test.true in
    c.split_seat-table_seat.ensures.4 ∙ ap (λ l. (view_of l ∷ [], [])) left

pub loop-number-preserved : goal.loop-number-preserved
loop-number-preserved c =
    let i = c.loop-number.invariant in
    let split = c.split_seat-table_seat.ensures in
    let table = c.args.table.now.shared.table_id in
    let left = left_is _ _ _ i.keeper c.loop-number-test.true in
    let kept = ap (λ (m : Hands). m.1) i.keeper in
    record {
      table = split.0 ∙ i.table;
      keeper = split.2 ∙ (λ j. (others_of (left j), kept j));
      dealt = c.push_reserved.ensures.items ∙ ((λ j. i.dealt j ++ c.open.ensures j ∷ []) ∙ more table c.args.seats c.loop-number.number);
      len = search rules;
      capacity = search rules;
    }
