use Rattle.bd_records.proofs.Words.{Identity, ObjectRow, get, lowered, slot_at, sym, ◌∙◌}
use Rattle.bd_records.proofs.Keyed.{set_at, set_found, set_leads}
use Rattle.bd_records.proofs.objects.Objects.subtract.Goals as goal

abbrev id : ObjectRow → Identity
id r = r.object.id

pub invariant_of-self : goal.invariant_of-self
invariant_of-self c =
    let t = c.args.self.now in
    record {
      found = set_found id (get t.rows) (get c.subtract_row.new.rows) (slot_at t) (slot_at t) c.args.o c.in-Some.k t.found t.leads (sym c.slot_of.ensures ∙ c.in-Some.is) (lowered c.args.fewer) (λ w e. e) c.subtract_row.ensures.set;
      leads = set_leads id (get t.rows) (get c.subtract_row.new.rows) (slot_at t) (slot_at t) c.args.o c.in-Some.k t.found t.leads (sym c.slot_of.ensures ∙ c.in-Some.is) (lowered c.args.fewer) (λ w e. e) c.subtract_row.ensures.set;
      not_later = t.not_later;
    }

pub returns-in-Some-clause-lowered : goal.returns-in-Some-clause-lowered
returns-in-Some-clause-lowered c =
    let t = c.args.self.now in
    set_at id (get t.rows) (get c.subtract_row.new.rows) (slot_at t) (slot_at t) c.args.o c.in-Some.k t.found t.leads (sym c.slot_of.ensures ∙ c.in-Some.is) (lowered c.args.fewer) (λ w e. e) c.subtract_row.ensures.set
