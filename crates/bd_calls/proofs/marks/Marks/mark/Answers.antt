use Rattle.std.proofs.{Common.{subst, sym, ◌∙◌, arith}, lemmas.Bool.{or_parts}}
use Rattle.bd_todo.proofs.ListKeys.{same_list_eq}
use Rattle.bd_calls.specs.Marks.{IsRecalled}
use Rattle.bd_calls.proofs.Marking.{recalled_more}
use Rattle.bd_calls.proofs.marks.Marks.mark.Goals as goal

pub returns-then-has-clause-marked : goal.returns-then-has-clause-marked
returns-then-has-clause-marked c = λ list out. grind (arith, out, c.has.ensures, c.if-has.true, same_list_eq list c.args.list)

pub returns-then-len-capacity-clause-recalls : goal.returns-then-len-capacity-clause-recalls
returns-then-len-capacity-clause-recalls c = λ told k one.
    subst (λ ms. IsRecalled ms c.args.todo.now told) (sym c.push_reserved.ensures.items)
    (recalled_more c.args.self.now.marks.items (record { list = c.args.list; had = c.has_any-had.result }) c.args.todo.now told c.has_any-had.ensures (or_parts _ _ (sym c.has.ensures ∙ c.if-has.false)).1 (k one))
