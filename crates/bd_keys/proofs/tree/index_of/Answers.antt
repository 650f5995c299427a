use Rattle.std.proofs.Common.{◌≡◌, ◌<◌, length, true, false, Some, ap, sym, subst, ◌∙◌, arith}
use Rattle.std.proofs.lemmas.Bool.{eqb-true}
use Rattle.bd_keys.specs.Keys.{same_word}
use Rattle.bd_keys.specs.Walk.{node_at, end_of}
use Rattle.bd_keys.proofs.Walks.{find_empty, find_here, find_none}
use Rattle.bd_keys.proofs.tree.index_of.Goals as goal

pub returns-then-is_empty : goal.returns-then-is_empty
returns-then-is_empty c =
    sym (find_empty c.args.nodes.now c.args.k
    (eqb-true (length c.args.nodes.now) 0 (sym c.is_empty.ensures ∙ c.if-is_empty.true)))

pub returns-then-eq : goal.returns-then-eq
returns-then-eq c =
    let same : same_word (node_at c.args.nodes.now (end_of c.args.nodes.now c.args.k)).key c.args.k ≡ true =
    subst (λ i. same_word (node_at c.args.nodes.now i).key c.args.k ≡ true) c.end-at.ensures.end
    (sym c.eq.ensures ∙ c.if-eq.true) in
    let some : 0 < length c.args.nodes.now = omega arith in
    ap Some c.end-at.ensures.end ∙ sym (find_here c.args.nodes.now c.requires some c.args.k same)

pub returns-else-eq : goal.returns-else-eq
returns-else-eq c =
    let other : same_word (node_at c.args.nodes.now (end_of c.args.nodes.now c.args.k)).key c.args.k ≡ false =
    subst (λ i. same_word (node_at c.args.nodes.now i).key c.args.k ≡ false) c.end-at.ensures.end
    (sym c.eq.ensures ∙ c.if-eq.false) in
    sym (find_none c.args.nodes.now c.requires c.args.k other)
