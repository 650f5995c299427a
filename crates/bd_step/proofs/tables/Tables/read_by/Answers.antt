use Rattle.bd_step.proofs.Words.{read_by}
use Rattle.bd_step.proofs.tables.Tables.read_by.Goals as goal

pub returns-clause-stands : goal.returns-clause-stands
unfolding read_by
returns-clause-stands c = λ s h made. record {
  own = h.own;
  objects_stand = c.read_by.ensures.stands c.args.seat s h.objects_stand h.own.steps_are;
  calls_stand = c.read_by-2.ensures.stands s h.calls_stand;
  windows_stand = c.hand_out.ensures s c.args.seat c.args.works.now h.windows_stand made;
}
