use Rattle.bd_step.proofs.{Words.{ap, are_known_before, arith, is_among, length, ◌∙◌}, Known.{known_few}}
use Rattle.bd_step.proofs.tables.Tables.reserve_delivery.Goals as goal

pub returns-clause-touched : goal.returns-clause-touched
returns-clause-touched c = record {
  in_order = c.in_order-touched.ensures.touched.in_order;
  among = c.in_order-touched.ensures.touched.among ∙ ap is_among c.in_ok-objects_before.ensures ∙ ap (are_known_before c.args.self.now.steps) c.items.ensures;
}

pub returns-clause-len : goal.returns-clause-len
returns-clause-len c =
    let few = known_few c.args.self.now.steps c.items.result.now in
    omega (arith, few, c.in_order-touched.ensures.len, ap length c.in_ok-objects_before.ensures, ap length c.items.ensures)
