use Rattle.bd_records.proofs.Words.{Identity, IfSome, ObjectRow, get, get_by, same, slot_at, subst, sym, true, ◌∙◌, ◌≡◌}
use Rattle.bd_records.proofs.{Keyed.{gone_at, gone_found, gone_leads}, Latest.{gone}, Naming.{shown_is}}
use Rattle.bd_records.proofs.objects.Objects.remove.Goals as goal

abbrev id : ObjectRow → Identity
id r = r.object.id

pub invariant_of-self : goal.invariant_of-self
invariant_of-self c =
    let t = c.args.self.now in
    record {
      found = gone_found id (get t.rows) (get c.remove_row.new.rows) (slot_at t) (λ x. get_by (same x) c.remove_slot.new.slots) c.args.o c.in-Some.k t.found t.leads (sym c.slot_near.ensures ∙ c.in-Some.is) c.remove_row.ensures.at c.remove_slot.ensures.at;
      leads = gone_leads id (get t.rows) (get c.remove_row.new.rows) (slot_at t) (λ x. get_by (same x) c.remove_slot.new.slots) c.args.o c.in-Some.k t.found t.leads (sym c.slot_near.ensures ∙ c.in-Some.is) c.remove_row.ensures.at c.remove_slot.ensures.at;
      not_later = gone (slot_at t) (λ x. get_by (same x) c.remove_slot.new.slots) c.args.o t.latest t.not_later true c.remove_slot.ensures.at;
    }

pub returns-in-Some-clause-at : goal.returns-in-Some-clause-at
returns-in-Some-clause-at c =
    let t = c.args.self.now in
    gone_at id (get t.rows) (get c.remove_row.new.rows) (slot_at t) (λ x. get_by (same x) c.remove_slot.new.slots) c.args.o c.in-Some.k t.found t.leads (sym c.slot_near.ensures ∙ c.in-Some.is) c.remove_row.ensures.at c.remove_slot.ensures.at

pub returns-in-Some-clause-id : goal.returns-in-Some-clause-id
returns-in-Some-clause-id c =
    let t = c.args.self.now in
    subst (λ v. IfSome v (λ w. w.object.id ≡ c.args.o)) (sym c.remove_row.ensures.gone)
    (shown_is id (get t.rows c.in-Some.k) c.args.o (t.leads c.args.o c.in-Some.k (sym c.slot_near.ensures ∙ c.in-Some.is)))
