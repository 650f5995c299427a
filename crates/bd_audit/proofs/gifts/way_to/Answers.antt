use Rattle.std.proofs.Common.{rules, ◌++◌, ap, ◌∙◌, option_to_list}
use Rattle.bd_audit.proofs.NamesHaveGiftChains.GiftSteps.{back_past, back_to_giver}
use Rattle.bd_audit.proofs.gifts.way_to.Goals as goal

pub loop-gift-preserved-then-eq : goal.loop-gift-preserved-then-eq
loop-gift-preserved-then-eq c =
    let left = c.pop.new.self.items in
    back_to_giver c.args.gifts.items left c.in-Some.gift c.loop-gift.places.items c.args.receiver c.loop-gift.next c.push.new.self.items (search rules) (search rules) c.loop-gift.left.items
    (c.pop.ensures.items ∙ ap (λ o. left ++ option_to_list o) c.in-Some.is) c.loop-gift.invariant

pub loop-gift-preserved : goal.loop-gift-preserved
loop-gift-preserved c =
    let left = c.pop.new.self.items in
    back_past c.args.gifts.items left c.in-Some.gift c.loop-gift.places.items c.args.receiver c.loop-gift.next (search rules) c.loop-gift.left.items
    (c.pop.ensures.items ∙ ap (λ o. left ++ option_to_list o) c.in-Some.is) c.loop-gift.invariant
