use Rattle.bd_driver.proofs.{OwnMailbox.{after_post, posted_rests, posts_at}, Words.{Bool, Hands, IsAtRest, Posts, Request, SeatState, TableId, View, ap, is_none, is_waiting, refl, rules, subst, sym, view_of, ◌∙◌}}
use Rattle.bd_driver.proofs.driver.Driver.post.Goals as goal

pub swap-requires : goal.swap-requires
swap-requires c =
    let free = ap (λ (s : SeatState). is_waiting s.view.handover) c.seat.view_is ∙ c.requires.free in
    (search rules, search rules, posts_at _ _ _ _ c.seat.inside.table_seat.me _ _ _ c.filled.result c.seat.invariant free c.exchange.ensures.3)

pub invariant_of-seat : goal.invariant_of-seat
invariant_of-seat c =
    let me = c.seat.inside.table_seat.me in
    let free = ap (λ (s : SeatState). is_waiting s.view.handover) c.seat.view_is ∙ c.requires.free in
    let then = after_post 0 _ _ me _ _ _ _ c.filled.result c.seat.invariant free c.exchange.ensures.3 c.swap.ensures.2 in
    let table = c.swap.ensures.0 ∙ c.exchange.ensures.0 in
    subst (λ (z : TableId × Bool). IsAtRest z.0.words c.swap.new.seat.me c.seat.inside.number z.1) (λ i. (sym table i, sym (ap is_none c.take.ensures.after) i)) (posted_rests _ _ me _ _ _ c.filled.result c.seat.invariant then)

pub returns-clause-posts : goal.returns-clause-posts
returns-clause-posts c =
    let me = c.seat.inside.table_seat.me in
    let old = ap (λ (s : SeatState). s.view) c.seat.view_is in
    let free = ap (λ (v : View). is_waiting v.handover) old ∙ c.requires.free in
    let new = ap (λ (m : Hands). view_of m.0) (after_post 0 _ _ me _ _ _ _ c.filled.result c.seat.invariant free c.exchange.ensures.3 c.swap.ensures.2) in
    subst (λ (x : View × Request). Posts x.0 (view_of c.swap.new.seat.me.0) x.1) (λ i. (old i, c.filled.ensures i)) (subst (λ (w : View). Posts (view_of me.0) w c.filled.result) (sym new) refl)
