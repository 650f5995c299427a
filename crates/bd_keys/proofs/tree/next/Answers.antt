use Rattle.std.proofs.Common.{sym, ◌∙◌, arith}
use Rattle.bd_keys.proofs.Walks.{next_own, next_at, next_stuck}
use Rattle.bd_keys.proofs.tree.next.Goals as goal

pub returns-then-is : goal.returns-then-is
returns-then-is c = sym (next_own c.args.nodes.now c.args.at c.args.k (sym c.is.ensures ∙ c.if-is.true))

pub returns-in-0 : goal.returns-in-0
returns-in-0 c =
    sym (next_stuck c.args.nodes.now c.args.at c.args.k (sym c.is.ensures ∙ c.if-is.false)
    (sym c.toward.ensures ∙ c.in-0.is))

pub returns-in_default : goal.returns-in_default
returns-in_default c =
    sym (next_at c.args.nodes.now c.args.at c.args.k c.toward.result (sym c.is.ensures ∙ c.if-is.false)
    (sym c.toward.ensures) (λ z. absurd (omega (arith, z))))
