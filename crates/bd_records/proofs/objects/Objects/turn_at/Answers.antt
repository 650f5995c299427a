use Rattle.bd_records.proofs.Words.{Identity, ObjectRow, get, slot_at, turned}
use Rattle.bd_records.proofs.Keyed.{set_at, set_found, set_leads}
use Rattle.bd_records.proofs.objects.Objects.turn_at.Goals as goal

abbrev id : ObjectRow → Identity
id r = r.object.id

pub invariant_of-self : goal.invariant_of-self
invariant_of-self c =
    let t = c.args.self.now in
    record {
      found = set_found id (get t.rows) (get c.turn_row.new.rows) (slot_at t) (slot_at t) c.args.r.object c.args.k t.found t.leads c.requires (turned c.args.more c.args.r) (λ w e. e) c.turn_row.ensures.set;
      leads = set_leads id (get t.rows) (get c.turn_row.new.rows) (slot_at t) (slot_at t) c.args.r.object c.args.k t.found t.leads c.requires (turned c.args.more c.args.r) (λ w e. e) c.turn_row.ensures.set;
      not_later = t.not_later;
    }

pub returns-clause-turned : goal.returns-clause-turned
returns-clause-turned c =
    let t = c.args.self.now in
    set_at id (get t.rows) (get c.turn_row.new.rows) (slot_at t) (slot_at t) c.args.r.object c.args.k t.found t.leads c.requires (turned c.args.more c.args.r) (λ w e. e) c.turn_row.ensures.set
