use Rattle.bd_deaths.proofs.Words.{DeathsAre, ap, arith, by_process, death_of, false, length, length-map, map, process_row, subst, sym, uses_then, ◌∙◌}
use Rattle.bd_deaths.proofs.Ending.{emptied, none_left, popped}
use Rattle.bd_deaths.proofs.table.DeathTable.pop_each.Goals as goal

pub loop-preserved : goal.loop-preserved
loop-preserved c = record {
  uses = uses_then c.loop.invariant.uses c.remove.ensures.uses;
  left = λ l h.
      let m = c.loop.invariant.left l h in
      let w = popped c.loop.self c.args.p m.0 m.1 c.in-Some.mark (sym (c.front.ensures by_process (λ _. false) (map process_row m.1.entries) m.1.are.of_processes) ∙ c.in-Some.is) in
      let few = m.3 in
      let less = w.1 in
      (_, c.remove.ensures.stands m.0 m.1, w.0 ∙ m.2, omega (arith, less, few));
}

pub returns-in-None-clause-stands : goal.returns-in-None-clause-stands
returns-in-None-clause-stands c = λ l h.
    let m = c.loop.invariant.left l h in
    subst (DeathsAre c.loop.self) (sym (emptied c.loop.self c.args.p m.0 m.1 (sym (c.front.ensures by_process (λ _. false) (map process_row m.1.entries) m.1.are.of_processes) ∙ c.in-None.is)) ∙ m.2) m.1

pub returns-clause-stands : goal.returns-clause-stands
returns-clause-stands c = λ l h.
    let m = c.loop.invariant.left l h in
    let few = m.3 in
    let all = c.len-end.ensures (map process_row h.entries) h.are.of_processes.holds in
    let n = length-map h.entries process_row in
    let k = length-map h.entries death_of in
    let is = ap length h.deaths_are in
    subst (DeathsAre c.loop.self) (sym (none_left c.args.p m.0 (omega (arith, few, all, n, k, is))) ∙ m.2) m.1
