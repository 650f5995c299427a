use Rattle.bd_deaths.proofs.Words.{DeathNotification, DeathsAre, arith, changed, filter, in_phase, is_notification, not, refl, subst, sym, ◌∙◌}
use Rattle.bd_deaths.proofs.{Changes.{made_apart, made_there, nothing_kept, uses_less}, Sharing.{count_less, count_turned, shared_turned}, Turning.{nothing_changes, one_turned, phases_turned}}
use Rattle.bd_deaths.proofs.table.DeathTable.set_phase.Goals as goal

pub returns-in-Some-in_slot-clause-stands : goal.returns-in-Some-in_slot-clause-stands
returns-in-Some-in_slot-clause-stands c = λ l h.
    let t = c.args.self.now in
    let m = c.args.made in
    let x = c.in-Some-in_slot.x in
    let turn = λ (y : DeathNotification). record y { phase = c.args.phase } in
    let place = sym (c.place.ensures l h) ∙ c.in-Some.is in
    let there = made_there t m c.in-Some.at x l h place (sym c.in_slot.ensures ∙ c.in-Some-in_slot.is) in
    let apart = made_apart t l h in
    phases_turned (is_notification m) c.args.phase t c.set_phase_at.new.slots c.turn_sharer.new.cookies l h
    (λ k. c.set_phase_at.ensures.set k ∙ one_turned t m l h c.in-Some.at (in_phase c.args.phase) place k)
    (shared_turned t.cookies c.turn_sharer.new.cookies l x h.shared (filter (λ y. not (is_notification m y)) l) (λ q. count_less (λ (y : DeathNotification). y.made) q m l x apart there)
    c.args.phase (changed (is_notification m) turn l) (λ q. count_turned (λ (y : DeathNotification). y.made) q m turn l x apart there)
    c.turn_sharer.ensures.counted c.turn_sharer.ensures.tolds c.turn_sharer.ensures.kept)

pub returns-in_default-in_slot-clause-stands : goal.returns-in_default-in_slot-clause-stands
returns-in_default-in_slot-clause-stands c = λ l h.
    nothing_kept (λ k. k.death) c.args.self.now c.args.made c.in-Some.at l h (sym (c.place.ensures l h) ∙ c.in-Some.is) (sym c.in_slot.ensures ∙ c.in_default-in_slot.is)

pub returns-in_default-clause-stands : goal.returns-in_default-clause-stands
returns-in_default-clause-stands c = λ l h.
    subst (DeathsAre c.args.self.now) (sym (nothing_changes c.args.self.now c.args.made l h (λ x. record x { phase = c.args.phase }) (sym (c.place.ensures l h) ∙ c.in_default.is))) h

pub returns-in-Some-in_slot-clause-uses : goal.returns-in-Some-in_slot-clause-uses
returns-in-Some-in_slot-clause-uses c =
    let e = c.set_phase_at.ensures.capacity in
    let n = c.set_phase_at.ensures.len in
    uses_less c.args.self.now _ (omega (arith, e)) (omega (arith, n)) refl (omega arith) (omega arith) (omega arith) (omega arith) c.turn_sharer.ensures.room
