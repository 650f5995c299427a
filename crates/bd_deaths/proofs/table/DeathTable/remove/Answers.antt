use Rattle.bd_deaths.proofs.Words.{AreShared, Bool, DeathNotification, DeathTable, DeathsAre, None, Option, ap, arith, cond, eqb-true, false, filter, get, get_by, is_notification, not, option_map, place_at, refl, subst, sym, true, ℕ, ◌==◌, ◌∙◌, ◌≡◌}
use Rattle.bd_deaths.proofs.{Changes.{deaths_kept, deaths_removed, made_apart, made_there, none_goes, nothing_kept, uses_less}, Sharing.{count_less, shared_less}}
use Rattle.bd_deaths.proofs.table.DeathTable.remove.Goals as goal

pub returns-in-Some-take_slot-clause-stands : goal.returns-in-Some-take_slot-clause-stands
returns-in-Some-take_slot-clause-stands c = λ l h.
    deaths_removed c.args.self.now c.leave.new.self c.args.made c.in-Some.at c.in-Some-take_slot.kept l
    (sym c.forget_place.ensures.value ∙ c.in-Some.is) (sym c.take_slot.ensures.value ∙ c.in-Some-take_slot.is)
    c.leave.ensures.objects c.leave.ensures.processes
    (λ k. ap (λ s. get s k) c.leave.ensures.slots ∙ c.take_slot.ensures.gone k) (λ m. ap (λ ps. get_by (λ k. m == k) ps) c.leave.ensures.places ∙ c.forget_place.ensures.gone m) c.leave.ensures.names c.leave.ensures.next
    (let t = c.args.self.now in
    let x = c.in-Some-take_slot.kept.death in
    let there = made_there t c.args.made c.in-Some.at x l h (sym c.forget_place.ensures.value ∙ c.in-Some.is) (ap (option_map (λ k. k.death)) (sym c.take_slot.ensures.value ∙ c.in-Some-take_slot.is)) in
    let rest = filter (λ y. not (is_notification c.args.made y)) l in
    subst (λ m. AreShared m rest) (sym c.leave.ensures.cookies)
    (shared_less t.cookies c.remove_sharer.new.cookies l x h.shared rest (λ q. count_less (λ (y : DeathNotification). y.made) q c.args.made l x (made_apart t l h) there)
    c.remove_sharer.ensures.counted c.remove_sharer.ensures.tolds c.remove_sharer.ensures.kept)) h

pub returns-in_default-take_slot-clause-stands : goal.returns-in_default-take_slot-clause-stands
returns-in_default-take_slot-clause-stands c = λ l h.
    nothing_kept (λ k. k) c.args.self.now c.args.made c.in-Some.at l h (sym c.forget_place.ensures.value ∙ c.in-Some.is) (ap (option_map (λ k. k)) (sym c.take_slot.ensures.value ∙ c.in_default-take_slot.is))

absent : (t : DeathTable) (made : ℕ) → place_at t made ≡ None → {f : ℕ → Option ℕ} → ((m : ℕ) → f m ≡ cond (made == m) None (place_at t m)) → (m : ℕ) → f m ≡ place_at t m
absent t made none gone m = gone m ∙ at (made == m) refl
  where
    at : (b : Bool) → (made == m) ≡ b → cond b None (place_at t m) ≡ place_at t m
    at true e = sym none ∙ ap (place_at t) (eqb-true made m e)
    at false e = refl

pub returns-in_default-clause-stands : goal.returns-in_default-clause-stands
returns-in_default-clause-stands c = λ l h.
    let none = sym c.forget_place.ensures.value ∙ c.in_default.is in
    subst (DeathsAre _) (sym (none_goes c.args.self.now c.args.made l h none)) (deaths_kept c.args.self.now _ l (λ rs s. s) (λ rs s. s) (λ k. refl) (absent c.args.self.now c.args.made none c.forget_place.ensures.gone) (λ k. refl) refl (λ s. s) h)

pub returns-in_default-take_slot-clause-uses : goal.returns-in_default-take_slot-clause-uses
returns-in_default-take_slot-clause-uses c =
    uses_less c.args.self.now _ (let e = c.take_slot.ensures.capacity in omega (arith, e)) c.take_slot.ensures.len refl (omega arith) (omega arith) c.forget_place.ensures.room (omega arith) (omega arith)
