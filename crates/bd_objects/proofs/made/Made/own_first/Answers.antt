use Rattle.bd_objects.proofs.Words.{IsRising, ap, own_in, subst, sym, take, ◌∙◌}
use Rattle.bd_objects.proofs.made.Made.own_first.Goals as goal

pub returns-then-self : goal.returns-then-self
returns-then-self c =
    let is = c.first_of-objects.ensures ∙ ap (take c.args.self.now.first) c.as_slice.ensures in
    c.own_by_halves.ensures (subst IsRising (sym is) (c.args.self.now.rises c.if-self.true)) ∙ ap (λ xs. own_in xs c.args.p c.args.ptr) is

pub returns-else-self : goal.returns-else-self
returns-else-self c =
    let is = c.first_of-objects.ensures ∙ ap (take c.args.self.now.first) c.as_slice.ensures in
    c.own_in.ensures ∙ ap (λ xs. own_in xs c.args.p c.args.ptr) is
