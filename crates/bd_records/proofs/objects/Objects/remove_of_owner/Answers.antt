use Rattle.bd_records.proofs.Words.{Identity, ObjectRow, disowned, get, slot_at, sym, ◌∙◌}
use Rattle.bd_records.proofs.Keyed.{set_at, set_found, set_leads}
use Rattle.bd_records.proofs.objects.Objects.remove_of_owner.Goals as goal

abbrev id : ObjectRow → Identity
id r = r.object.id

pub invariant_of-self : goal.invariant_of-self
invariant_of-self c =
    let t = c.args.self.now in
    record {
      found = set_found id (get t.rows) (get c.remove_of_owner_in.new.rows) (slot_at t) (slot_at t) c.args.o c.in-Some.k t.found t.leads (sym c.slot_of.ensures ∙ c.in-Some.is) disowned (λ w e. e) c.remove_of_owner_in.ensures.set;
      leads = set_leads id (get t.rows) (get c.remove_of_owner_in.new.rows) (slot_at t) (slot_at t) c.args.o c.in-Some.k t.found t.leads (sym c.slot_of.ensures ∙ c.in-Some.is) disowned (λ w e. e) c.remove_of_owner_in.ensures.set;
      not_later = t.not_later;
    }

pub returns-in-Some-clause-disowned : goal.returns-in-Some-clause-disowned
returns-in-Some-clause-disowned c =
    let t = c.args.self.now in
    set_at id (get t.rows) (get c.remove_of_owner_in.new.rows) (slot_at t) (slot_at t) c.args.o c.in-Some.k t.found t.leads (sym c.slot_of.ensures ∙ c.in-Some.is) disowned (λ w e. e) c.remove_of_owner_in.ensures.set
