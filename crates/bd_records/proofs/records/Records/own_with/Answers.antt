use Rattle.bd_records.proofs.Words.{Object, arith, own_key, same_word, word_eq, word_self, ◌==◌}
use Rattle.bd_records.proofs.Found.{found_and}
use Rattle.bd_records.proofs.records.Records.own_with.Goals as goal

pub returns-in-Some : goal.returns-in-Some
returns-in-Some c = λ objects l h.
    let one = found_and own_key same_word word_eq word_self (λ (x : Object). x.cookie == c.args.cookie) (record { process = c.args.p; word = c.args.ptr }) objects h.own.ptrs in
    grind (arith, one, c.own_with_ptr.ensures objects l h, c.in-Some.is)

pub returns-in_default : goal.returns-in_default
returns-in_default c = λ objects l h.
    let one = found_and own_key same_word word_eq word_self (λ (x : Object). x.cookie == c.args.cookie) (record { process = c.args.p; word = c.args.ptr }) objects h.own.ptrs in
    grind (arith, one, c.own_with_ptr.ensures objects l h)

pub returns-in_default-2 : goal.returns-in_default-2
returns-in_default-2 c = λ objects l h.
    let one = found_and own_key same_word word_eq word_self (λ (x : Object). x.cookie == c.args.cookie) (record { process = c.args.p; word = c.args.ptr }) objects h.own.ptrs in
    grind (arith, one, c.own_with_ptr.ensures objects l h, c.in_default.is)
