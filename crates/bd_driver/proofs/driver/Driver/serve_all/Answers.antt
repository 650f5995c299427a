use Rattle.bd_driver.proofs.{Serves.{served_more, served_none}, Words.{arith, refl, rules, ◌∙◌}}
use Rattle.bd_driver.proofs.driver.Driver.serve_all.Goals as goal

pub loop-number-init : goal.loop-number-init
loop-number-init c = record { table = refl; serving = c.requires.serving; seats_are = refl; all = served_none _; few = omega arith }

pub loop-number-preserved : goal.loop-number-preserved
loop-number-preserved c =
    let i = c.loop-number.invariant in
    let s = c.serve_one-next.ensures in
    record {
      table = s.same ∙ i.table;
      serving = s.serving.0;
      seats_are = s.serving.1 ∙ i.seats_are;
      all = served_more _ _ _ c.loop-number.table_seat.me _ _ _ _ i.all s.served c.one_if-picked.ensures;
      few = search rules;
    }
