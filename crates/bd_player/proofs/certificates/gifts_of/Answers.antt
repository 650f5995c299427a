use Rattle.std.proofs.Common.{rules, List, ℕ, subst}
use Rattle.bd_spelling.specs.Records.{history_in}
use Rattle.bd_player.specs.Certified.{AreGiftsAt, Rise}
use Rattle.bd_player.proofs.Gifts.{chain_told}
use Rattle.bd_player.proofs.certificates.gifts_of.Goals as goal

pub returns-in_ok-gifts_at-in-Some-clause-gifts : goal.returns-in_ok-gifts_at-in-Some-clause-gifts
returns-in_ok-gifts_at-in-Some-clause-gifts c =
    let h = history_in c.args.record.now in
    let gifts = c.in_ok-gifts_at-in-Some.field-0.1.items in
    chain_told h c.args.pid c.args.number c.in-Some.places.items gifts (search rules)
    (subst (λ (places : List ℕ). Rise 0 h.entries places → AreGiftsAt h places gifts) c.as_slice.ensures.value c.in_ok-gifts_at-in-Some.ensures.gifts)
