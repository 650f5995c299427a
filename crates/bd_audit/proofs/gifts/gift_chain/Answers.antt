use Rattle.std.proofs.Common.{◌≡◌, ◌∙◌, List, subst}
use Rattle.bd_space.specs.Histories.{History, space_after}
use Rattle.bd_space.specs.declared.step.Entry.{Entry}
use Rattle.bd_spelling.specs.Records.{history_in}
use Rattle.bd_audit.specs.GiftSearch.{AreGifts, IsHolder}
use Rattle.bd_audit.proofs.NamesHaveGiftChains.GiftSteps.{holder_knows, chain_of}
use Rattle.bd_audit.proofs.gifts.gift_chain.Goals as goal

pub way_to-requires-clause-given : goal.way_to-requires-clause-given
way_to-requires-clause-given c =
    let h = history_in c.args.history.now in
    let k = c.in-Some.holder in
    let whole : c.in_ok-first.first.engine ≡ h = cc (c.in_ok-first.ensures.engine, c.deref.ensures.value, c.in-Ok.ensures.copied) in
    let gifts = subst (λ (es : List Entry). AreGifts es k.object c.in_ok-gifts.gifts.items) (c.deref-2.ensures.value ∙ c.in-Ok.ensures.copied) c.in_ok-gifts.ensures in
    gifts.known k.process
    (holder_knows h c.args.pid c.args.number k.process k.object
    (subst (λ (x : History). IsHolder (space_after x) c.args.pid c.args.number k.process k.object) whole c.in-Some.ensures.some))

pub returns-clause-chain : goal.returns-clause-chain
returns-clause-chain c =
    let h = history_in c.args.history.now in
    let k = c.in-Some.holder in
    let whole : c.in_ok-first.first.engine ≡ h = cc (c.in_ok-first.ensures.engine, c.deref.ensures.value, c.in-Ok.ensures.copied) in
    let gifts = subst (λ (es : List Entry). AreGifts es k.object c.in_ok-gifts.gifts.items) (c.deref-2.ensures.value ∙ c.in-Ok.ensures.copied) c.in_ok-gifts.ensures in
    chain_of h c.in_ok-first.first.engine c.args.pid c.args.number k.process k.object c.in_ok-places.places.items whole c.in-Some.ensures.some
    (c.in_ok-places.ensures h.entries k.object gifts.gifts)
