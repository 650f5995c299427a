use Rattle.bd_laws.proofs.words.Logic.{rules, arith, ◌≡◌, [], ◌∷◌, ◌++◌, None, refl, subst, sym, err_from_is_err_and}
use Rattle.bd_space.specs.Histories.{History}
use Rattle.bd_audit.specs.GiftSearch.{AreGifts}
use Rattle.bd_audit.proofs.Beginnings.{all_played, next_beginning, next_lawful}
use Rattle.bd_audit.proofs.NamesHaveGiftChains.GiftSteps.{receiver_there, gifts_same, gifts_more}
use Rattle.bd_audit.proofs.gifts.gifts_of.Goals as goal
use Rattle.bd_audit.proofs.gifts.gifts_of.Goals.{in-Some+else-is_err, in_default-2}

pub next_gift-requires-clause-lawful : goal.next_gift-requires-clause-lawful
next_gift-requires-clause-lawful c =
    next_lawful (record { seats = c.args.seats; entries = c.args.entries.now }) c.loop-entry.engine c.loop-entry.entry-index c.entry-item.result c.args.entries.now c.requires.lawful
    c.loop-entry.invariant.engine refl c.loop-entry-test.true c.entry-item.is

pub next_gift-requires-clause-receiver : goal.next_gift-requires-clause-receiver
next_gift-requires-clause-receiver c =
    receiver_there (record { seats = c.args.seats; entries = c.args.entries.now }) c.loop-entry.engine c.loop-entry.entry-index c.entry-item.result c.args.entries.now c.args.receivers.now c.len.result
    c.requires.receivers c.loop-entry.invariant.engine refl c.loop-entry-test.true c.entry-item.is c.len.ensures

pub loop-entry-preserved : goal.loop-entry-preserved
loop-entry-preserved c =
    let h = c.loop-entry.engine in
    let k = c.next_gift.new.engine in
    let gs = c.loop-entry.gifts.items in
    record {
      engine = next_beginning (record { seats = c.args.seats; entries = c.args.entries.now }) h k c.loop-entry.entry-index c.entry-item.result c.args.entries.now
          c.loop-entry.invariant.engine refl c.loop-entry-test.true c.entry-item.is c.in_ok-gift.ensures.ok;
      gifts = elim c.match-branch-2.branch [
        | in-Some+else-is_err w ↦ (
            let g = w.in-Some.gift in
            let pushed : c.match-branch-2.gifts.items ≡ gs ++ g ∷ [] = search rules in
            gifts_more h k c.entry-item.result c.args.object gs c.in_ok-gift.field-0 c.in_ok-gift.ensures.ok c.loop-entry.invariant.gifts c.in_ok-gift.ensures.gift g c.match-branch-2.gifts.items w.in-Some.is pushed)
        | in_default-2 w ↦ (
            let stays : c.match-branch-2.gifts.items ≡ gs = search rules in
            let none : c.in_ok-gift.field-0 ≡ None = search rules in
            subst (AreGifts k.entries c.args.object) (sym stays)
            (gifts_same h k c.entry-item.result c.args.object gs c.in_ok-gift.field-0 c.in_ok-gift.ensures.ok c.loop-entry.invariant.gifts c.in_ok-gift.ensures.gift none))
      ];
    }

pub returns-in_err-gift : goal.returns-in_err-gift
returns-in_err-gift c =
    let p = err_from_is_err_and c.from_residual.result c.from_residual.ensures.1 in
    rw (p.1, p.2) c.in_err-gift.ensures.fault

pub returns : goal.returns
returns c =
    let done = c.loop-entry-test.false in
    let played = all_played (record { seats = c.args.seats; entries = c.args.entries.now }) c.loop-entry.engine c.loop-entry.entry-index c.args.entries.now c.loop-entry.invariant.engine refl (omega arith) in
    subst (λ (h : History). AreGifts h.entries c.args.object c.loop-entry.gifts.items) played c.loop-entry.invariant.gifts
