use Rattle.std.proofs.Common.{sym, ◌∙◌}
use Rattle.std.specs.Vec.Iter.{into_iter_items, into_iter_len}
use Rattle.std.proofs.lemmas.List.{nil_from_length}
use Rattle.bd_player.proofs.{Lines.{shorter}, Piles.{goes_on, ends}}
use Rattle.bd_player.proofs.threads.piles_of.Goals as goal

pub loop-line-preserved : goal.loop-line-preserved
loop-line-preserved c =
    let before = into_iter_items c.loop-line.line-iterator in
    let rest = into_iter_items c.next.new.self in (
      shorter (into_iter_len c.loop-line.line-iterator) (into_iter_len c.next.new.self) before rest c.in-Some.line c.loop-line.invariant.0 c.in-Some.ensures.steps.0 c.in-Some.ensures.steps.1,
      goes_on (λ p. p.items) c.args.script.seats c.args.script.lines.items before rest c.in-Some.line c.loop-line.piles.items c.put_line.new.piles.items
          c.loop-line.invariant.1 c.in-Some.ensures.steps.0 c.in_ok-put_line.ensures,
    )

pub returns : goal.returns
returns c =
    let before = into_iter_items c.loop-line.line-iterator in
    ends (λ p. p.items) c.args.script.seats c.args.script.lines.items before c.loop-line.piles.items c.loop-line.invariant.1
    (nil_from_length before (sym c.loop-line.invariant.0 ∙ c.in-None.ensures.steps.0))
