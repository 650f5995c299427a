use Rattle.bd_records.proofs.Words.{Object, arith, id_key, same, same_eq, same_self, ◌==◌}
use Rattle.bd_records.proofs.Found.{found_and}
use Rattle.bd_records.proofs.records.Records.own_object.Goals as goal

pub returns-in-Some : goal.returns-in-Some
returns-in-Some c = λ objects l h.
    let one = found_and id_key same same_eq same_self (λ (x : Object). x.owner == c.args.p) c.args.o objects h.own.ids in
    grind (arith, one, h.objects_are c.args.o, c.row_of.ensures.is, c.in-Some.is)

pub returns-in_default : goal.returns-in_default
returns-in_default c = λ objects l h.
    let one = found_and id_key same same_eq same_self (λ (x : Object). x.owner == c.args.p) c.args.o objects h.own.ids in
    grind (arith, one, h.objects_are c.args.o, c.row_of.ensures.is)

pub returns-in_default-2 : goal.returns-in_default-2
returns-in_default-2 c = λ objects l h.
    let one = found_and id_key same same_eq same_self (λ (x : Object). x.owner == c.args.p) c.args.o objects h.own.ids in
    grind (arith, one, h.objects_are c.args.o, c.row_of.ensures.is, c.in_default.is)
