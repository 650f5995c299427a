use Rattle.bd_driver.proofs.{OwnMailbox.{closes_at, open_hand, open_me}, Words.{Bool, [], ap, arith, not, rules, suc, sym, view_of, ◌+◌, ◌∙◌, ◌≡◌}}
use Rattle.bd_driver.proofs.closing.shut.Goals as goal

pub load-requires : goal.load-requires
load-requires c =
    let r = c.seat.invariant in
    let me = c.seat.inside.table_seat.me in
    let free = sym r.waits ∙ (ap not c.is_none.ensures ∙ ap (λ (b : Bool). not (not b)) c.if-is_none.false) in
    let word : c.seat.inside.number + 1 ≡ suc (view_of me.0).who = omega (arith, r.number_is) in
    (search rules, search rules, closes_at _ _ _ me (view_of me.0) [] _ (open_me _ me _ _ r free) word (open_hand (view_of me.0).handover r.ready free))
