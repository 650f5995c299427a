use Rattle.bd_records.proofs.Words.{Identity, None, ObjectRow, Some, arith, cond, false, get, get_by, refl, same, slot_at, sym, true, ℕ, ◌==◌, ◌∙◌, ◌≡◌}
use Rattle.bd_records.proofs.{Keyed.{put_at, put_found, put_leads}, Latest.{noted}}
use Rattle.bd_records.proofs.objects.Objects.insert.Goals as goal

abbrev id : ObjectRow → Identity
id r = r.object.id

pub invariant_of-self : goal.invariant_of-self
invariant_of-self c =
    let t = c.args.self.now in
    let b = c.in-Some.before in
    let is = sym c.insert_slot.ensures.before ∙ c.in-Some.is in
    let comes : (j : ℕ) → get c.remove_row.new.rows j ≡ cond (c.insert_row-k.result == j) (Some c.args.row) (cond (b == j) None (get t.rows j)) =
    (λ j. grind (arith, c.remove_row.ensures.at j, c.insert_row-k.ensures.at j, c.insert_row-k.ensures.fresh, t.leads c.args.row.object.id b is)) in
    record {
      found = put_found id (get t.rows) (get c.remove_row.new.rows) (slot_at t) (λ x. get_by (same x) c.insert_slot.new.slots) c.args.row.object.id c.insert_row-k.result t.found t.leads c.args.row refl (λ j. b == j) (λ j e. grind (arith, is)) (λ j e. grind (arith, is)) c.insert_row-k.ensures.fresh comes c.insert_slot.ensures.at;
      leads = put_leads id (get t.rows) (get c.remove_row.new.rows) (slot_at t) (λ x. get_by (same x) c.insert_slot.new.slots) c.args.row.object.id c.insert_row-k.result t.found t.leads c.args.row refl (λ j. b == j) (λ j e. grind (arith, is)) (λ j e. grind (arith, is)) c.insert_row-k.ensures.fresh comes c.insert_slot.ensures.at;
      not_later = noted (slot_at t) (λ x. get_by (same x) c.insert_slot.new.slots) c.args.row.object.id t.latest t.not_later true c.insert_row-k.result c.max-self.result
          (omega (arith, c.max-self.ensures, c.tall.ensures)) (omega (arith, c.max-self.ensures)) c.insert_slot.ensures.at;
    }

pub invariant_of-self-in_default : goal.invariant_of-self-in_default
invariant_of-self-in_default c =
    let t = c.args.self.now in
    let is : slot_at t c.args.row.object.id ≡ None = grind (arith, c.insert_slot.ensures.before, c.in_default.not-Some) in
    record {
      found = put_found id (get t.rows) (get c.insert_row-k.new.rows) (slot_at t) (λ x. get_by (same x) c.insert_slot.new.slots) c.args.row.object.id c.insert_row-k.result t.found t.leads c.args.row refl (λ j. false) (λ j e. grind (arith, is)) (λ j e. grind (arith, is)) c.insert_row-k.ensures.fresh c.insert_row-k.ensures.at c.insert_slot.ensures.at;
      leads = put_leads id (get t.rows) (get c.insert_row-k.new.rows) (slot_at t) (λ x. get_by (same x) c.insert_slot.new.slots) c.args.row.object.id c.insert_row-k.result t.found t.leads c.args.row refl (λ j. false) (λ j e. grind (arith, is)) (λ j e. grind (arith, is)) c.insert_row-k.ensures.fresh c.insert_row-k.ensures.at c.insert_slot.ensures.at;
      not_later = noted (slot_at t) (λ x. get_by (same x) c.insert_slot.new.slots) c.args.row.object.id t.latest t.not_later true c.insert_row-k.result c.max-self.result
          (omega (arith, c.max-self.ensures, c.tall.ensures)) (omega (arith, c.max-self.ensures)) c.insert_slot.ensures.at;
    }

pub returns-in-Some-clause-at : goal.returns-in-Some-clause-at
returns-in-Some-clause-at c =
    let t = c.args.self.now in
    let b = c.in-Some.before in
    let is = sym c.insert_slot.ensures.before ∙ c.in-Some.is in
    let comes : (j : ℕ) → get c.remove_row.new.rows j ≡ cond (c.insert_row-k.result == j) (Some c.args.row) (cond (b == j) None (get t.rows j)) =
    (λ j. grind (arith, c.remove_row.ensures.at j, c.insert_row-k.ensures.at j, c.insert_row-k.ensures.fresh, t.leads c.args.row.object.id b is)) in
    put_at id (get t.rows) (get c.remove_row.new.rows) (slot_at t) (λ x. get_by (same x) c.insert_slot.new.slots) c.args.row.object.id c.insert_row-k.result t.found t.leads c.args.row refl (λ j. b == j) (λ j e. grind (arith, is)) (λ j e. grind (arith, is)) c.insert_row-k.ensures.fresh comes c.insert_slot.ensures.at

pub returns-in_default-clause-at : goal.returns-in_default-clause-at
returns-in_default-clause-at c =
    let t = c.args.self.now in
    let is : slot_at t c.args.row.object.id ≡ None = grind (arith, c.insert_slot.ensures.before, c.in_default.not-Some) in
    put_at id (get t.rows) (get c.insert_row-k.new.rows) (slot_at t) (λ x. get_by (same x) c.insert_slot.new.slots) c.args.row.object.id c.insert_row-k.result t.found t.leads c.args.row refl (λ j. false) (λ j e. grind (arith, is)) (λ j e. grind (arith, is)) c.insert_row-k.ensures.fresh c.insert_row-k.ensures.at c.insert_slot.ensures.at
