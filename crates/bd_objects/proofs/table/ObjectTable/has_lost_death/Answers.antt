use Rattle.bd_objects.proofs.Words.{arith, is_name_of, refl}
use Rattle.bd_objects.proofs.Lost.{any_lost}
use Rattle.bd_objects.proofs.table.ObjectTable.has_lost_death.Goals as goal

pub returns-then-is_none : goal.returns-then-is_none
returns-then-is_none c = λ s h.
    let u = c.uncleared.ensures s.deaths h.deaths_are in
    let none = c.is_none.ensures in
    grind (arith, u, none, c.if-is_none.true, any_lost c.args.p c.args.o s.names s.deaths (is_name_of s.names c.args.p c.args.o) refl)

pub returns : goal.returns
returns c = λ s h.
    let u = c.uncleared.ensures s.deaths h.deaths_are in
    let none = c.is_none.ensures in
    grind (arith, u, none, c.if-is_none.false, any_lost c.args.p c.args.o s.names s.deaths c.has_name.result (c.has_name.ensures s h))
