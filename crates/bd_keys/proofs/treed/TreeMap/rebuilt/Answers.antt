use Rattle.std.proofs.Common.{◌≡◌, ℕ, ◌<◌, cond, length, get_or, Option, None, is_some, ap, sym, ◌∙◌, arith}
use Rattle.std.proofs.lemmas.List.{get_or_read}
use Rattle.std.proofs.lemmas.List.Sums.{sum_by-drop_more}
use Rattle.bd_keys.specs.Keys.{place_in}
use Rattle.bd_keys.specs.Walk.{keys}
use Rattle.bd_keys.specs.Treed.{tree_look}
use Rattle.bd_keys.proofs.Looks.{below_all, below_insert, below_skip}
use Rattle.bd_keys.proofs.treed.TreeMap.rebuilt.Goals as goal
use Rattle.bd_keys.proofs.treed.TreeMap.rebuilt.Goals.{in-Some, in_default}

pub loop-at-preserved : goal.loop-at-preserved
loop-at-preserved g c =
    let m = c.args.self.now in
    let vs = m.values.items in
    let ns = m.tree.nodes.items in
    let i = c.loop-at.at in
    let inv = c.loop-at.invariant in
    let slice = c.deref-value-items.ensures.value in
    let less : i < length vs = omega (arith, c.loop-at-test.true, ap length slice) in
    let read = c.value-item.is ∙ ap (λ xs. get_or xs i c.value-item.result) slice in
    let item = get_or_read vs i c.value-item.result less read None in
    let counts = sum_by-drop_more (λ (o : Option g.row.V.Denot). cond (is_some o) 1 0) vs i None less in
    elim c.match-value.branch [
      | in-Some w ↦ rw w.fresh-is (
          let here = sym item ∙ w.in-Some.is in
          let one : ◌≡◌ {A = ℕ} (cond (is_some (get_or vs i None)) 1 0) 1 = ap (λ o. cond (is_some o) 1 0) here in
          record {
            shown = λ k.
                w.insert.ensures.put k
                ∙ below_insert ns m.tree.stands vs i w.key.result k w.in-Some.v (tree_look c.loop-at.fresh k)
                (omega (arith, less, m.alike)) w.key.ensures here (inv.shown k);
            room = omega (arith, inv.room, w.insert.ensures.room, counts, one);
            keys = omega (arith, inv.keys, w.insert.ensures.keys, counts, one);
          })
      | in_default w ↦ rw w.fresh-is (
          let here = sym item ∙ w.in_default.is in
          let none : ◌≡◌ {A = ℕ} (cond (is_some (get_or vs i None)) 1 0) 0 = ap (λ o. cond (is_some o) 1 0) here in
          record {
            shown = λ k. inv.shown k ∙ below_skip vs i (place_in (keys ns) k) here;
            room = omega (arith, inv.room, counts, none);
            keys = omega (arith, inv.keys, counts, none);
          })
    ]

pub returns-clause-kept : goal.returns-clause-kept
unfolding tree_look
returns-clause-kept g c = λ k.
    let m = c.args.self.now in
    c.loop-at.invariant.shown k ∙ below_all m.tree.nodes.items m.values.items c.loop-at.at k m.alike (omega arith)
