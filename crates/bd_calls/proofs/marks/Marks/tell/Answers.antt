use Rattle.std.proofs.{Common.{ap, ◌∙◌}, lemmas.Bool.{not-true}}
use Rattle.bd_calls.specs.Marks.{changed_lists, is_among}
use Rattle.bd_calls.proofs.Marking.{told_exact}
use Rattle.bd_calls.proofs.marks.Marks.tell.Goals as goal

pub returns-clause-exact : goal.returns-clause-exact
returns-clause-exact c = λ whole told ws recalls are list.
    ap (λ ls. is_among ls list) (c.in_ok-list_changed.ensures.listed ws are ∙ ap (changed_lists ws) c.deref.ensures.value)
    ∙ told_exact c.args.self.now.marks.items c.args.todo.now told ws (recalls (not-true c.args.self.now.all whole)) are list
