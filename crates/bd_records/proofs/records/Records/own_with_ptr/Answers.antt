use Rattle.bd_records.proofs.Words.{WordKey, ap, option_map, sym, ◌∙◌}
use Rattle.bd_records.proofs.{Changes.{by_own}, Coming.{object_of}}
use Rattle.bd_records.proofs.records.Records.own_with_ptr.Goals as goal

pub returns-in-Some : goal.returns-in-Some
returns-in-Some c = λ objects l h.
    let k : WordKey = record { process = c.args.p; word = c.args.ptr } in
    ap (option_map object_of) (sym c.in-Some.is ∙ c.row_of.ensures.is) ∙ sym (h.objects_are c.in_ok-o.o)
    ∙ by_own objects k c.in_ok-o.o h.own.ids (sym (c.with_ptr.ensures objects h.own) ∙ c.in_ok-o.was)

pub returns-in-None : goal.returns-in-None
returns-in-None c = λ objects l h.
    let k : WordKey = record { process = c.args.p; word = c.args.ptr } in
    ap (option_map object_of) (sym c.in-None.is ∙ c.row_of.ensures.is) ∙ sym (h.objects_are c.in_ok-o.o)
    ∙ by_own objects k c.in_ok-o.o h.own.ids (sym (c.with_ptr.ensures objects h.own) ∙ c.in_ok-o.was)
