use Rattle.bd_laws.proofs.words.Logic.{ap, sym, ◌∙◌, unwrap_or}
use Rattle.bd_audit.specs.GiftSearch.{gift_made}
use Rattle.bd_audit.proofs.NamesHaveGiftChains.GiftSteps.{gift_of, no_gift, ok_gift}
use Rattle.bd_audit.proofs.NamesHaveGiftChains.NameBegins.{one_candidate}
use Rattle.bd_audit.proofs.gifts.next_gift.Goals as goal

pub returns-in-Some-clause-gift : goal.returns-in-Some-clause-gift
returns-in-Some-clause-gift c =
    let h = c.args.engine.now in
    let e = c.args.entry.now in
    let o = c.args.object in
    let p = c.in-Some.process in
    let found = one_candidate h e o c.args.receiver c.process_of.result c.or.result c.requires.receiver c.process_of.ensures c.or.ensures in
    ok_gift h.entries e o c.gift_made.result (gift_made h.entries e p o) c.gift_made.ensures.gift
    (gift_of h.entries e o p (λ q b. ap (λ x. unwrap_or x 0) (sym (found q b) ∙ c.in-Some.is)))

pub returns-in_ok-advance-in-None-clause-gift : goal.returns-in_ok-advance-in-None-clause-gift
returns-in_ok-advance-in-None-clause-gift c =
    let h = c.args.engine.now in
    let e = c.args.entry.now in
    let o = c.args.object in
    let found = one_candidate h e o c.args.receiver c.process_of.result c.or.result c.requires.receiver c.process_of.ensures c.or.ensures in
    no_gift h.entries e o (λ q b. (let some = found q b in let none = c.in-None.is in absurd (cc)))
