use Rattle.std.proofs.Common.{ℕ, false, refl, sym, ap, ◌∙◌, arith}
use Rattle.std.specs.HashMap.{spare}
use Rattle.bd_chains.specs.Rows.{drop_key}
use Rattle.bd_turns.specs.{declared.spot.Spots.{Spots}, Entries.{by_object, by_window, same_object, same_window, object_number, window_number}}
use Rattle.bd_turns.specs.{Spots.{spot_at}, Room.{turn_room, turn_count}}
use Rattle.bd_chains.proofs.Listing.{dropped_shows}
use Rattle.bd_turns.proofs.Changes.{more_chains, more_room, turns_removed, turns_absent}
use Rattle.bd_turns.proofs.table.TurnTable.remove.Goals as goal

pub returns-in-Some-remove-clause-stands : goal.returns-in-Some-remove-clause-stands
returns-in-Some-remove-clause-stands c = λ l h.
    let t = c.args.self.now in
    turns_removed t _ c.args.made c.in-Some.spot l h (sym c.remove.ensures.value ∙ c.in-Some.is)
    (λ rs s. c.leave.ensures.objects (drop_key c.in-Some.spot.call rs) (dropped_shows by_object (λ _. false) same_object (object_number t) (object_number t) t.objects.chains c.remove-in-Some.new.self c.in-Some.spot.call c.remove-in-Some.ensures.stands c.remove-in-Some.ensures.open (λ k. refl) rs s))
    (λ rs s. rw (c.leave.ensures.windows) (dropped_shows by_window (λ _. false) same_window (window_number t) (window_number t) t.windows.chains c.remove-mark.new.self c.in-Some.spot.mark c.remove-mark.ensures.stands c.remove-mark.ensures.open (λ k. refl) rs s))
    (λ m. ap (λ (p : Spots). spot_at p m) c.leave.ensures.spots ∙ c.remove.ensures.gone m)

pub returns-in-Some-remove-clause-uses : goal.returns-in-Some-remove-clause-uses
unfolding turn_room turn_count
returns-in-Some-remove-clause-uses c =
    let len = c.remove.ensures.count in
    let marks = more_chains _ _ _ _ (spare c.args.self.now.windows.numbers.all) c.remove-mark.ensures.items c.remove-mark.ensures.lists in
    let calls = more_chains _ _ _ _ (spare c.args.self.now.objects.numbers.all) c.remove-in-Some.ensures.items c.remove-in-Some.ensures.lists in
    rw (c.leave.ensures.windows, c.leave.ensures.spots) (record { room = more_room _ _ _ _ _ _ _ calls c.leave.ensures.room marks c.remove.ensures.room; count = omega (arith, len) })

pub returns-in_default-remove-clause-stands : goal.returns-in_default-remove-clause-stands
returns-in_default-remove-clause-stands c = λ l h.
    let t = c.args.self.now in
    turns_removed t _ c.args.made c.in-Some.spot l h (sym c.remove.ensures.value ∙ c.in-Some.is)
    (dropped_shows by_object (λ _. false) same_object (object_number t) (object_number t) t.objects.chains c.remove-in-Some.new.self c.in-Some.spot.call c.remove-in-Some.ensures.stands c.remove-in-Some.ensures.open (λ k. refl))
    (dropped_shows by_window (λ _. false) same_window (window_number t) (window_number t) t.windows.chains c.remove-mark.new.self c.in-Some.spot.mark c.remove-mark.ensures.stands c.remove-mark.ensures.open (λ k. refl))
    c.remove.ensures.gone

pub returns-in_default-clause-stands : goal.returns-in_default-clause-stands
returns-in_default-clause-stands c = λ l h.
    turns_absent c.args.self.now _ c.args.made l h (sym c.remove.ensures.value ∙ c.in_default.is) (λ rs s. s) (λ rs s. s) c.remove.ensures.gone
