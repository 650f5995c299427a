use Rattle.bd_driver.proofs.{OwnMailbox.{refill}, Serves.{answers_at}, Words.{Answered, Empty, Hands, [], answered_at, ap, arith, outcome_in, rest, rules, suc, view_of, ◌+◌, ◌∙◌, ◌∷◌, ◌≡◌}}
use Rattle.bd_driver.proofs.driver.Driver.answer.Goals as goal

pub swap-requires : goal.swap-requires
swap-requires c =
    let r = c.requires in
    let v = view_of c.args.table_seat.now.me.0 in
    let held = refill c.args.table_seat.now.me c.exchange.new.seat.me v _ (c.args.number + 1) Empty (Answered c.args.told) r.held c.exchange.ensures.3 in
    let word : c.args.number + 1 ≡ suc c.args.number = omega arith in
    (search rules, search rules, answers_at _ _ _ _ v (rest c.args.table_seat.now.me.1) c.args.number _ c.args.told held word r.on c.requires.told)

pub returns-clause-view : goal.returns-clause-view
returns-clause-view c =
    let r = c.requires in
    let v = view_of c.args.table_seat.now.me.0 in
    let held = refill c.args.table_seat.now.me c.exchange.new.seat.me v _ (c.args.number + 1) Empty (Answered c.args.told) r.held c.exchange.ensures.3 in
    c.swap.ensures.2.2 ∙ ap (λ (m : Hands). (answered_at (view_of m.0) 2 (outcome_in m.1) ∷ [], rest m.1)) held
