use Rattle.std.proofs.Common.{sym, ◌∙◌}
use Rattle.bd_keys.proofs.Walks.{step_inside, walk_begins, walk_goes, walk_ends, walk_falls}
use Rattle.bd_keys.proofs.tree.end.Goals as goal

pub loop-child-init : goal.loop-child-init
loop-child-init c = record {
  inside = c.requires.root;
  on_the_way = walk_begins c.args.nodes.now c.requires.tree c.args.k;
}

pub loop-child-smaller : goal.loop-child-smaller
loop-child-smaller c =
    walk_falls c.args.nodes.now c.requires.tree c.args.k c.loop-child.at c.in-Some.child c.loop-child.invariant.inside
    (sym c.next.ensures ∙ c.in-Some.is)

pub loop-child-preserved : goal.loop-child-preserved
loop-child-preserved c =
    let goes = sym c.next.ensures ∙ c.in-Some.is in
    record {
      inside = step_inside c.args.nodes.now c.requires.tree c.loop-child.at c.args.k c.in-Some.child
          c.loop-child.invariant.inside goes;
      on_the_way = walk_goes c.args.nodes.now c.requires.tree c.args.k c.loop-child.at c.in-Some.child
          c.loop-child.invariant.inside goes c.loop-child.invariant.on_the_way;
    }

pub returns-clause-end : goal.returns-clause-end
returns-clause-end c =
    walk_ends c.args.nodes.now c.requires.tree c.args.k c.loop-child.at c.loop-child.invariant.inside
    (sym c.next.ensures ∙ c.in_default.is) c.loop-child.invariant.on_the_way
