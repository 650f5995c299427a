use Rattle.std.proofs.{Common.{false, ◌∙◌, sym, ap, map, length, subst, arith}, lemmas.List.{length-map}}
use Rattle.bd_turns.specs.{Entries.{by_window, mark_row}, Stands.{TurnsAre}}
use Rattle.bd_turns.proofs.{Entries.{turn_of}, Changes.{popped, emptied, none_left}}
use Rattle.bd_turns.proofs.table.TurnTable.pop_received.Goals as goal

pub loop-preserved : goal.loop-preserved
loop-preserved c = record {
  uses = let u = c.loop.invariant.uses in let v = c.remove.ensures.uses in record { room = (let a = u.room in let b = v.room in omega (arith, a, b)); count = (let a = u.count in let b = v.count in omega (arith, a, b)) };
  left = λ l h.
      let m = c.loop.invariant.left l h in
      let w = popped c.loop.self c.args.process m.0 m.1 c.in-Some.mark (sym (c.front.ensures by_window (λ _. false) (map mark_row m.1.entries) m.1.are.in_windows) ∙ c.in-Some.is) in
      let few = m.3 in
      let less = w.1 in
      (_, c.remove.ensures.stands m.0 m.1, w.0 ∙ m.2, omega (arith, less, few));
}

pub returns-in-None-clause-stands : goal.returns-in-None-clause-stands
returns-in-None-clause-stands c = λ l h.
    let m = c.loop.invariant.left l h in
    subst (TurnsAre c.loop.self) (sym (emptied c.loop.self c.args.process m.0 m.1 (sym (c.front.ensures by_window (λ _. false) (map mark_row m.1.entries) m.1.are.in_windows) ∙ c.in-None.is)) ∙ m.2) m.1

pub returns-clause-stands : goal.returns-clause-stands
returns-clause-stands c = λ l h.
    let m = c.loop.invariant.left l h in
    let few = m.3 in
    let all = c.len-end.ensures (map mark_row h.entries) h.are.in_windows.holds in
    let n = length-map h.entries mark_row in
    let k = length-map h.entries turn_of in
    let is = ap length h.turns_are in
    subst (TurnsAre c.loop.self) (sym (none_left c.args.process m.0 (omega (arith, few, all, n, k, is))) ∙ m.2) m.1
