use Rattle.bd_laws.proofs.words.Logic.{rules, refl, err_from_is_err_and}
use Rattle.bd_audit.proofs.Beginnings.{next_beginning, next_lawful}
use Rattle.bd_audit.proofs.NamesHaveGiftChains.GiftSteps.{receivers_next}
use Rattle.bd_audit.proofs.gifts.receivers_of.Goals as goal

pub advance-requires : goal.advance-requires
advance-requires c = record {
  lawful = next_lawful (record { seats = c.args.seats; entries = c.args.entries.now }) c.loop-entry.engine c.loop-entry.entry-index c.entry-item.result c.args.entries.now c.requires.lawful
      c.loop-entry.invariant.engine refl c.loop-entry-test.true c.entry-item.is;
}

pub loop-entry-preserved : goal.loop-entry-preserved
loop-entry-preserved c = record {
  engine = next_beginning (record { seats = c.args.seats; entries = c.args.entries.now }) c.loop-entry.engine c.advance.new.engine c.loop-entry.entry-index c.entry-item.result c.args.entries.now
      c.loop-entry.invariant.engine refl c.loop-entry-test.true c.entry-item.is c.in_ok-advance.ensures.ok;
  receivers = receivers_next c.loop-entry.engine c.advance.new.engine c.entry-item.result c.loop-entry.receivers.items c.push.new.self.items c.len-place.result c.receiver_at.result
      c.loop-entry.invariant.receivers c.in_ok-advance.ensures.ok c.len-place.ensures c.receiver_at.ensures (search rules);
}

pub returns-in_err-advance-clause-fault : goal.returns-in_err-advance-clause-fault
returns-in_err-advance-clause-fault c =
    let p = err_from_is_err_and c.from_residual.result c.from_residual.ensures.1 in
    rw (p.1, p.2) c.in_err-advance.ensures.fault
