use Rattle.bd_records.proofs.Words.{AreBlank, List, Name, ap, subst, sym, ◌++◌, ◌∙◌}
use Rattle.bd_records.proofs.{Given.{all_kept}, Named.{names_kept}}
use Rattle.bd_records.proofs.records.Records.reserve_names.Goals as goal

pub returns-in_err-reserve-clause-names : goal.returns-in_err-reserve-clause-names
returns-in_err-reserve-clause-names c = λ base names h. record {
  stands = names_kept c.args.self.now.names c.reserve.new.self c.reserve.ensures.named c.reserve.ensures.numbers names h.stands;
  grows = h.grows;
  blank = all_kept c.args.self.now.names c.reserve.new.self c.reserve.ensures.names c.args.self.now.given.items h.blank;
}

pub returns-clause-names : goal.returns-clause-names
returns-clause-names c = λ base names h. record {
  stands = names_kept c.args.self.now.names c.reserve.new.self c.reserve.ensures.named c.reserve.ensures.numbers names h.stands;
  grows = h.grows ∙ ap (λ (g : List Name). base ++ g) (sym c.reserve-2.ensures.items);
  blank = subst (AreBlank c.reserve.new.self) (sym c.reserve-2.ensures.items) (all_kept c.args.self.now.names c.reserve.new.self c.reserve.ensures.names c.args.self.now.given.items h.blank);
}
