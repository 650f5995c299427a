use Rattle.bd_driver.proofs.{Deals.{enters}, Ends.{ends_at, final_record, no_history}, Words.{DriverState, Hands, History, [], ap, rules, ◌∙◌}}
use Rattle.bd_driver.proofs.driver.Driver.finish.Goals as goal

pub load_new_seat-keeper-requires : goal.load_new_seat-keeper-requires
load_new_seat-keeper-requires c = (search rules, enters _ _ [])

pub returns-in-Home : goal.returns-in-Home
returns-in-Home c = record {
  history = λ all.
      let key = ap (λ (d : DriverState). d.seats) c.self.view_is in
      let vs = ap (λ (m : Hands). m.0) c.gather.ensures.keeper.1 in
      let h = ends_at _ _ _ _ c.args.seats.items _ _ _ key vs c.close_with-closed.ensures.values.2 c.in-Home.ensures.value c.gather.ensures.idle all in
      final_record c.args.self.seats c.args.seats.items c.in-Home.engine _ _ h (c.into_record.ensures.seats ∙ ap (λ (e : History). e.seats) c.open.ensures, c.into_record.ensures.entries ∙ ap (λ (e : History). e.entries) c.open.ensures) c.into_record.ensures.lawful;
  lawful = c.into_record.ensures.lawful;
}

pub returns : goal.returns
returns c = record {
  history = λ all.
      let key = ap (λ (d : DriverState). d.seats) c.self.view_is in
      let vs = ap (λ (m : Hands). m.0) c.gather.ensures.keeper.1 in
      let h = ends_at _ _ _ _ c.args.seats.items _ _ _ key vs c.close_with-closed.ensures.values.2 c.take-slot.ensures.value c.gather.ensures.idle all in
      absurd (c.in_default.not-Home _ h.1);
  lawful = no_history 0 c.none.result c.none.ensures;
}
