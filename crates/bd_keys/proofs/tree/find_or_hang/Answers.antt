use Rattle.std.proofs.Common.{◌≡◌, ◌<◌, ◌++◌, ◌∷◌, [], length, true, false, Some, ap, sym, subst, ◌∙◌, arith}
use Rattle.std.proofs.lemmas.Bool.{eqb-true}
use Rattle.std.proofs.lemmas.List.{nil_from_length, get_or_read}
use Rattle.bd_keys.specs.Keys.{same_word}
use Rattle.bd_keys.specs.Walk.{leaf, no_node, node_at, end_of}
use Rattle.bd_keys.specs.Tree.{IsTree}
use Rattle.bd_keys.proofs.Hanging.{root_tree}
use Rattle.bd_keys.proofs.Walks.{find_empty, find_here, find_none}
use Rattle.bd_keys.proofs.tree.find_or_hang.Goals as goal

pub returns-then-is_empty-clause-new : goal.returns-then-is_empty-clause-new
returns-then-is_empty-clause-new c =
    let none = eqb-true c.args.nodes.now.len 0 (sym c.is_empty.ensures ∙ c.if-is_empty.true) in
    find_empty c.args.nodes.now.items c.args.k (omega (arith, none, c.args.nodes.now.ok.0))

pub returns-then-is_empty-clause-tree : goal.returns-then-is_empty-clause-tree
returns-then-is_empty-clause-tree c =
    let none = eqb-true c.args.nodes.now.len 0 (sym c.is_empty.ensures ∙ c.if-is_empty.true) in
    let empty = nil_from_length c.args.nodes.now.items (omega (arith, none, c.args.nodes.now.ok.0)) in
    subst (λ ns. IsTree (ns ++ leaf c.args.k 0 ∷ [])) (sym empty) (root_tree c.args.k (omega arith) (omega arith))

pub returns-then-eq-clause-found : goal.returns-then-eq-clause-found
returns-then-eq-clause-found c =
    let ns = c.args.nodes.now.items in
    let end = c.end-at.ensures.end ∙ ap (λ ms. end_of ms c.args.k) c.deref.ensures.value in
    let inside : c.end-at.result < length ns = omega (arith, c.end-at.ensures.within, ap length c.deref.ensures.value) in
    let node = get_or_read ns c.end-at.result _ inside c.index.ensures no_node ∙ ap (node_at ns) end in
    let same : same_word (node_at ns (end_of ns c.args.k)).key c.args.k ≡ true =
    ap (λ n. same_word n.key c.args.k) (sym node) ∙ sym c.eq.ensures ∙ c.if-eq.true in
    find_here ns c.requires.tree (omega (arith, inside)) c.args.k same ∙ ap Some (sym end)

pub hang-requires-clause-new : goal.hang-requires-clause-new
hang-requires-clause-new c =
    let ns = c.args.nodes.now.items in
    let end = c.end-at.ensures.end ∙ ap (λ ms. end_of ms c.args.k) c.deref.ensures.value in
    let inside : c.end-at.result < length ns = omega (arith, c.end-at.ensures.within, ap length c.deref.ensures.value) in
    let node = get_or_read ns c.end-at.result _ inside c.index.ensures no_node ∙ ap (node_at ns) end in
    let other : same_word (node_at ns (end_of ns c.args.k)).key c.args.k ≡ false =
    ap (λ n. same_word n.key c.args.k) (sym node) ∙ sym c.eq.ensures ∙ c.if-eq.false in
    find_none ns c.requires.tree c.args.k other

pub returns-clause-new : goal.returns-clause-new
returns-clause-new c =
    let ns = c.args.nodes.now.items in
    let end = c.end-at.ensures.end ∙ ap (λ ms. end_of ms c.args.k) c.deref.ensures.value in
    let inside : c.end-at.result < length ns = omega (arith, c.end-at.ensures.within, ap length c.deref.ensures.value) in
    let node = get_or_read ns c.end-at.result _ inside c.index.ensures no_node ∙ ap (node_at ns) end in
    let other : same_word (node_at ns (end_of ns c.args.k)).key c.args.k ≡ false =
    ap (λ n. same_word n.key c.args.k) (sym node) ∙ sym c.eq.ensures ∙ c.if-eq.false in
    find_none ns c.requires.tree c.args.k other
