use Rattle.bd_records.proofs.Words.{ObjectRow, name_at, no_count, row_at, ◌≡◌}
use Rattle.bd_records.proofs.Coming.{came_counts, came_objects, came_owners}
use Rattle.bd_records.proofs.records.Records.add_object.Goals as goal

pub returns-clause-stands : goal.returns-clause-stands
returns-clause-stands c = λ objects l news h.
    let new = news.0 in
    let t = c.args.self.now in
    let x = c.args.x in
    let row : ObjectRow = record { object = x; total = c.none.result; owed = c.none-2.result; managed = c.none-3.result } in
    let is : row ≡ record { object = x; total = no_count; owed = no_count; managed = no_count } = (λ i. record { object = x; total = c.none.ensures i; owed = c.none-2.ensures i; managed = c.none-3.ensures i }) in
    record {
      objects_are = came_objects (row_at t.objects) (row_at c.insert.new.self) (name_at t.names) objects l h.counts h.objects_are h.owners x new row is c.insert.ensures.at;
      owners = came_owners (row_at t.objects) (row_at c.insert.new.self) (name_at t.names) objects l h.counts h.objects_are h.owners x new row is c.insert.ensures.at;
      own = c.push.ensures.stands objects h.own news;
      counts = came_counts (row_at t.objects) (row_at c.insert.new.self) (name_at t.names) objects l h.counts h.objects_are h.owners x new row is c.insert.ensures.at;
      held = h.held;
      few = h.few;
    }
