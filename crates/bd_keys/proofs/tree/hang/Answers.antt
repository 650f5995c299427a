use Rattle.std.proofs.Common.{◌≡◌, ◌+◌, ◌++◌, ◌∷◌, [], length, set, ap, ap₂, sym, subst₂, ◌∙◌, arith}
use Rattle.std.proofs.lemmas.List.{get_or_read}
use Rattle.bd_keys.specs.Keys.{spread}
use Rattle.bd_keys.specs.Walk.{leaf, no_node, node_at, keys, linked, end_of}
use Rattle.bd_keys.specs.Tree.{IsTree}
use Rattle.bd_keys.proofs.Hanging.{grown_tree, hung_keys}
use Rattle.bd_keys.proofs.tree.hang.Goals as goal

links : (c : goal.After-nodes-1) → c.link.new.self
    ≡ linked (node_at c.args.nodes.now.items (end_of c.args.nodes.now.items c.args.k)) (spread c.args.k)
    (length c.args.nodes.now.items)
links c =
    let ns = c.args.nodes.now.items in
    let parent =
    get_or_read ns c.args.at _ c.requires.within c.index_mut-parent.ensures.value no_node
    ∙ ap (node_at ns) c.requires.end in
    let child : c.len-child.result ≡ length ns = omega (arith, c.len-child.ensures, c.args.nodes.now.ok.0) in
    c.link.ensures ∙ ap₂ (λ n i. linked n (spread c.args.k) i) parent child

pub returns-clause-tree : goal.returns-clause-tree
returns-clause-tree c =
    subst₂ (λ i n. IsTree (set c.args.nodes.now.items i n ++ leaf c.args.k (n.bit + 3) ∷ [])) (sym c.requires.end)
    (sym (links c))
    (grown_tree c.args.nodes.now.items c.requires.tree c.args.k (omega (arith, c.requires.within)) c.requires.new
    (omega arith) (omega arith) c.requires.room)

pub returns-clause-keys : goal.returns-clause-keys
returns-clause-keys c =
    subst₂ (λ i n. keys (set c.args.nodes.now.items i n) ≡ keys c.args.nodes.now.items) (sym c.requires.end)
    (sym (links c))
    (hung_keys c.args.nodes.now.items c.requires.tree c.args.k (omega (arith, c.requires.within)) c.requires.new
    (omega arith) (omega arith))
