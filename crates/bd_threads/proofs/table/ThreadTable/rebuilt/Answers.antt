use Rattle.std.proofs.{Common.{◌≡◌, ◌<◌, ◌++◌, ◌∷◌, [], length, take, get_or, None, Some, ap, sym, ◌∙◌, arith}, lemmas.List.{append-nil, length_push}}
use Rattle.std.specs.Prelude.{option_map}
use Rattle.bd_keys.proofs.Rising.{without, filter_none}
use Rattle.bd_threads.specs.Rows.{live}
use Rattle.bd_threads.proofs.{Rows.{seat_of, none_before, live_take, live_drop}, table.ThreadTable.rebuilt.Goals.{in-Some, in_default}}
use Rattle.bd_threads.proofs.table.ThreadTable.rebuilt.Goals as goal

pub loop-row-preserved : goal.loop-row-preserved
loop-row-preserved c =
    let t = c.args.self.now in
    let rows = t.rows.items in
    let i = c.loop-row.row-index in
    let inv = c.loop-row.invariant in
    let slice = c.deref-row-items.ensures.value in
    let less : i < length rows = omega (arith, c.loop-row-test.true, ap length slice) in
    elim c.match-row.branch [
      | in-Some w ↦
          let one = w.in-Some.thread in
          let is : get_or rows i None ≡ Some one = ap (λ rs. get_or rs i None) (sym slice) ∙ w.in-Some.is in
          let none = none_before t one.seat i (sym (t.found.back i one.seat (ap (option_map seat_of) is))) in
          rw w.fresh-is (record {
            shown = w.push.ensures.listed
                ∙ ap (λ ts. without seat_of one.seat ts ++ one ∷ []) inv.shown
                ∙ ap (λ ts. ts ++ one ∷ []) (filter_none seat_of one.seat (live (take i rows)) none)
                ∙ sym (live_take rows i less (Some one) is);
            rows = omega (arith, inv.rows, w.push.ensures.rows, ap length (live_take rows i less (Some one) is), length_push (live (take i rows)) one);
            room = omega (arith, inv.room, w.push.ensures.uses, ap length (live_drop rows i less (Some one) is));
          })
      | in_default w ↦
          let is : get_or rows i None ≡ None = ap (λ rs. get_or rs i None) (sym slice) ∙ w.in_default.is in
          rw w.fresh-is (record {
            shown = inv.shown ∙ sym (live_take rows i less None is ∙ append-nil (live (take i rows)));
            rows = inv.rows ∙ ap length (sym (live_take rows i less None is ∙ append-nil (live (take i rows))));
            room = omega (arith, inv.room, ap length (live_drop rows i less None is));
          })
    ]
