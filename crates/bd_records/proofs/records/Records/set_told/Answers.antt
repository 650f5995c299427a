use Rattle.bd_records.proofs.Words.{name_at, row_at}
use Rattle.bd_records.proofs.Telling.{told_counts, told_objects, told_owned, told_owners}
use Rattle.bd_records.proofs.records.Records.set_told.Goals as goal

pub returns-clause-stands : goal.returns-clause-stands
returns-clause-stands c = λ objects l h.
    let t = c.args.self.now in
    record {
      objects_are = told_objects c.args.weak c.args.strong c.args.o (row_at t.objects) (row_at c.set_told.new.self) (name_at t.names) objects l h.counts h.objects_are h.owners c.set_told.ensures.told;
      owners = told_owners c.args.weak c.args.strong c.args.o (row_at t.objects) (row_at c.set_told.new.self) (name_at t.names) objects l h.counts h.objects_are h.owners c.set_told.ensures.told;
      own = told_owned c.args.weak c.args.strong c.args.o t.owned objects h.own;
      counts = told_counts c.args.weak c.args.strong c.args.o (row_at t.objects) (row_at c.set_told.new.self) (name_at t.names) objects l h.counts h.objects_are h.owners c.set_told.ensures.told;
      held = h.held;
      few = h.few;
    }
