use Rattle.bd_records.proofs.Words.{IfSome, None, ObjectRow, Some, ap, get, held_in, not, on_slot, option_map, row_at, strong_in, subst, sym, ◌∙◌, ◌≡◌}
use Rattle.bd_records.proofs.{Coming.{object_of}, Holding.{held_told, strong_told}, Naming.{shown_is}}
use Rattle.bd_records.proofs.records.Records.kept.Goals as goal

pub returns-in_err-slot-clause-object : goal.returns-in_err-slot-clause-object
returns-in_err-slot-clause-object c = λ objects l h.
    let t = c.args.self.now.objects in
    let none : row_at t c.args.o ≡ None = ap (on_slot None (get t.rows)) (sym c.slot_of.ensures ∙ c.in_err-slot.was) in
    ap (option_map (λ k. k.object)) c.from_residual.ensures ∙ sym (h.objects_are c.args.o ∙ ap (option_map object_of) none)

pub returns-in-Some-clause-object : goal.returns-in-Some-clause-object
returns-in-Some-clause-object c = λ objects l h.
    let t = c.args.self.now.objects in
    let is : row_at t c.args.o ≡ Some c.in-Some.w = ap (on_slot None (get t.rows)) (sym c.slot_of.ensures ∙ c.in_ok-slot.was) ∙ sym c.row_in.ensures ∙ c.in-Some.is in
    sym (h.objects_are c.args.o ∙ ap (option_map object_of) is)

pub returns-in-None-clause-object : goal.returns-in-None-clause-object
returns-in-None-clause-object c = λ objects l h.
    let t = c.args.self.now.objects in
    let none : row_at t c.args.o ≡ None = ap (on_slot None (get t.rows)) (sym c.slot_of.ensures ∙ c.in_ok-slot.was) ∙ sym c.row_in.ensures ∙ c.in-None.is in
    sym (h.objects_are c.args.o ∙ ap (option_map object_of) none)

pub returns-in-Some-clause-held : goal.returns-in-Some-clause-held
returns-in-Some-clause-held c = λ objects l h.
    let t = c.args.self.now.objects in
    let at = sym c.slot_of.ensures ∙ c.in_ok-slot.was in
    let here = sym c.row_in.ensures ∙ c.in-Some.is in
    let id : c.in-Some.w.object.id ≡ c.args.o = subst (λ v. IfSome v (λ w. w.object.id ≡ c.args.o)) here (shown_is (λ (w : ObjectRow). w.object.id) (get t.rows c.in_ok-slot.slot) c.args.o (t.leads c.args.o c.in_ok-slot.slot at)) in
    ap not c.is_empty.ensures ∙ held_told c.args.self.now objects l h c.args.o (Some c.in-Some.w) (ap (on_slot None (get t.rows)) at ∙ here) ∙ ap (held_in l) (sym id)

pub returns-in-Some-clause-strong : goal.returns-in-Some-clause-strong
returns-in-Some-clause-strong c = λ objects l h.
    let t = c.args.self.now.objects in
    let at = sym c.slot_of.ensures ∙ c.in_ok-slot.was in
    let here = sym c.row_in.ensures ∙ c.in-Some.is in
    let id : c.in-Some.w.object.id ≡ c.args.o = subst (λ v. IfSome v (λ w. w.object.id ≡ c.args.o)) here (shown_is (λ (w : ObjectRow). w.object.id) (get t.rows c.in_ok-slot.slot) c.args.o (t.leads c.args.o c.in_ok-slot.slot at)) in
    strong_told c.args.self.now objects l h c.args.o (Some c.in-Some.w) (ap (on_slot None (get t.rows)) at ∙ here) ∙ ap (strong_in l) (sym id)
