use Rattle.bd_driver.proofs.{OwnMailbox.{collects_at, first_held, told_collects}, Words.{Answered, Collects, Hands, IsTold, Outcome, SeatState, Slot, View, ap, collected_at, is_waiting, outcome_in, rest, rules, subst, sym, view_of, ◌+◌, ◌∙◌, ◌∷◌, ◌≡◌}}
use Rattle.bd_driver.proofs.driver.Driver.collect.Goals as goal

pub compare_exchange-found-requires : goal.compare_exchange-found-requires
compare_exchange-found-requires c = (search rules, search rules, collects_at _ _ _ _ c.seat.inside.table_seat.me _ _ c.seat.invariant (ap (λ (s : SeatState). is_waiting s.view.handover) c.seat.view_is ∙ c.requires.waiting))

pub exchange-requires : goal.exchange-requires
exchange-requires c =
    let hit = c.compare_exchange-found.ensures.2.1 c.if-found-ne-ANSWERED.false in
    (search rules, (Answered hit.3, first_held _ _ (c.seat.inside.number + 1) (Answered hit.3) (ap (λ (m : Hands). m.1) hit.7)))

pub returns-clause-collects : goal.returns-clause-collects
returns-clause-collects c =
    let me = c.seat.inside.table_seat.me in
    let v = view_of me.0 in
    let found = c.if-found-ne-ANSWERED.false in
    let hit = c.compare_exchange-found.ensures.2.1 found in
    let slots = ap (λ (m : Hands). m.1) hit.7 in
    let told = sym slots ∙ (c.exchange.ensures.2 ∙ ap (λ (s : Slot). (c.seat.inside.number + 1, s) ∷ rest c.compare_exchange-found.new.seat.me.1) c.in-Answered.is) in
    let same : hit.3 ≡ c.in-Answered.answered = ap outcome_in told in
    let new : view_of c.exchange.new.seat.me.0 ≡ collected_at v 3 hit.0 c.in-Answered.answered =
    ap (λ (m : Hands). view_of m.0) c.exchange.ensures.3 ∙ (ap (λ (m : Hands). view_of m.0) hit.7 ∙ (λ i. collected_at v (found i) hit.0 (same i))) in
    let old : v ≡ c.args.seat.now.view = ap (λ (s : SeatState). s.view) c.seat.view_is in
    subst (λ (x : View × Outcome). Collects x.0 (view_of c.exchange.new.seat.me.0) x.1) (λ i. (old i, sym c.open-outcome.ensures i))
    (told_collects v _ c.in-Answered.answered hit.0 hit.1 hit.2 hit.4 hit.5 (subst (IsTold v.seats hit.0 v.who hit.1 hit.2) same hit.6) new)
