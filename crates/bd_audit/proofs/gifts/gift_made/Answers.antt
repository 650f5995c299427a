use Rattle.std.proofs.Common.{refl}
use Rattle.bd_space.specs.Histories.{space_after}
use Rattle.bd_engine.specs.Looks.{knows}
use Rattle.bd_audit.proofs.NamesHaveGiftChains.NameBegins.{gift_is}
use Rattle.bd_audit.proofs.gifts.gift_made.Goals as goal
use Rattle.bd_audit.proofs.gifts.gift_made.Goals.{else-not-knew-via-then-not-knew+else-knows, else-not-knew-via-else-not-knew}

pub returns-then-knows-clause-gift : goal.returns-then-knows-clause-gift
returns-then-knows-clause-gift c =
    rw (c.if-not-knew.true, c.if-knows.true) at
    (gift_is c.args.engine.now c.advance.new.engine c.args.entry.now c.args.receiver c.args.object c.knows-knew.result c.knows.result c.len.result c.giver_of.result
    c.in_ok-advance.ensures.ok c.knows-knew.ensures c.knows.ensures c.len.ensures c.giver_of.ensures)

pub returns-else-not-knew-clause-gift : goal.returns-else-not-knew-clause-gift
returns-else-not-knew-clause-gift c = elim c.else-not-knew.branch [
  | else-not-knew-via-then-not-knew+else-knows w ↦
      rw (w.if-not-knew.true, w.if-knows.false) at
      (gift_is c.args.engine.now c.advance.new.engine c.args.entry.now c.args.receiver c.args.object c.knows-knew.result w.knows.result c.len.result c.giver_of.result
      c.in_ok-advance.ensures.ok c.knows-knew.ensures w.knows.ensures c.len.ensures c.giver_of.ensures)
  | else-not-knew-via-else-not-knew w ↦
      rw w.if-not-knew.false at
      (gift_is c.args.engine.now c.advance.new.engine c.args.entry.now c.args.receiver c.args.object c.knows-knew.result (knows (space_after c.advance.new.engine) c.args.receiver c.args.object)
      c.len.result c.giver_of.result c.in_ok-advance.ensures.ok c.knows-knew.ensures refl c.len.ensures c.giver_of.ensures)
]
