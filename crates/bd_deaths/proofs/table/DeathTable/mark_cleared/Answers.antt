use Rattle.bd_deaths.proofs.Words.{DeathsAre, arith, refl, subst, sym, true, ◌∙◌}
use Rattle.bd_deaths.proofs.{Changes.{nothing_kept, uses_less}, Turning.{cleared_turned, nothing_changes}}
use Rattle.bd_deaths.proofs.table.DeathTable.mark_cleared.Goals as goal

pub returns-in-Some-in_slot-clause-stands : goal.returns-in-Some-in_slot-clause-stands
returns-in-Some-in_slot-clause-stands c = λ l h.
    cleared_turned c.args.self.now c.args.made l h c.in-Some.at c.in-Some-in_slot.x (sym (c.place.ensures l h) ∙ c.in-Some.is) (sym c.in_slot.ensures ∙ c.in-Some-in_slot.is)
    _ (λ rs s. s) (λ rs s. s) c.clear_at.ensures.set (λ m. refl) c.forget_name.ensures.gone refl refl

pub returns-in_default-in_slot-clause-stands : goal.returns-in_default-in_slot-clause-stands
returns-in_default-in_slot-clause-stands c = λ l h.
    nothing_kept (λ k. k.death) c.args.self.now c.args.made c.in-Some.at l h (sym (c.place.ensures l h) ∙ c.in-Some.is) (sym c.in_slot.ensures ∙ c.in_default-in_slot.is)

pub returns-in_default-clause-stands : goal.returns-in_default-clause-stands
returns-in_default-clause-stands c = λ l h.
    subst (DeathsAre c.args.self.now) (sym (nothing_changes c.args.self.now c.args.made l h (λ x. record x { cleared = true }) (sym (c.place.ensures l h) ∙ c.in_default.is))) h

pub returns-in-Some-in_slot-clause-uses : goal.returns-in-Some-in_slot-clause-uses
returns-in-Some-in_slot-clause-uses c =
    let e = c.clear_at.ensures.capacity in
    let n = c.clear_at.ensures.len in
    uses_less c.args.self.now _ (omega (arith, e)) (omega (arith, n)) refl (omega arith) (omega arith) (omega arith) c.forget_name.ensures.room (omega arith)
