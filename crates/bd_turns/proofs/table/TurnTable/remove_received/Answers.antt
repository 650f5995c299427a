use Rattle.std.proofs.Common.{ℕ, ◌≤◌, ◌+◌, ◌==◌, ◌∙◌, false, map, refl, ap, arith}
use Rattle.std.specs.{Prelude.{min}, HashMap.{spare}, List.{list_any}}
use Rattle.bd_chains.specs.Lists.{lists_room}
use Rattle.bd_turns.specs.{Entries.{by_window, mark_row}, Room.{turn_room, turn_count}, Spots.{spot_room}}
use Rattle.bd_turns.proofs.{Entries.{marks_to, none_received}, Changes.{turns_kept}}
use Rattle.bd_turns.proofs.table.TurnTable.remove_received.Goals as goal

wider : (r a b d s : ℕ) → r ≤ min (min a b) s + 0 → b ≤ d → r ≤ min (min a d) s + 0
wider r a b d s h k = omega arith

pub returns-clause-stands : goal.returns-clause-stands
returns-clause-stands c = λ l h.
    turns_kept c.pop_received.new.self _ _ (λ rs s. s) (c.give_back.ensures.stands by_window (λ _. false)) (λ m. refl) (c.pop_received.ensures.stands l h)

pub returns-clause-uses : goal.returns-clause-uses
unfolding turn_room turn_count
returns-clause-uses c =
    let m = c.pop_received.new.self in
    let w = c.give_back.new.self in
    let u = c.pop_received.ensures.uses in
    record {
      room = wider (turn_room c.args.self.now) (lists_room m.objects.chains (spare m.objects.numbers.all)) (lists_room m.windows.chains (spare m.windows.numbers.all)) (lists_room w.chains (spare w.numbers.all)) (spot_room m.spots) u.room c.give_back.ensures.uses;
      count = u.count;
    }

pub returns-clause-gone : goal.returns-clause-gone
returns-clause-gone c = λ l h.
    let m = c.pop_received.ensures.stands l h in
    c.give_back.ensures.gone by_window (λ _. false) (map mark_row m.entries) m.are.in_windows
    (marks_to c.args.process m.entries ∙ ap (list_any (λ t. c.args.process == t.receiver)) m.turns_are ∙ none_received c.args.process l)
