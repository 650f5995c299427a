use Rattle.bd_objects.proofs.Words.{None, RecordsAre, [], ap, append_assoc, arith, buffer_references, length, subst, sym, ◌++◌, ◌+◌, ◌∙◌, ◌≡◌}
use Rattle.bd_objects.proofs.{BufferReferences.{with_target}, Spent.{then_uses}}
use Rattle.bd_objects.proofs.delivery.add_references.Goals as goal

pub returns-clause-stands : goal.returns-clause-stands
returns-clause-stands c = λ objects l names h n ready here.
    let items = c.args.items.now in
    let carried = buffer_references c.args.place c.args.q 0 items None in
    let last : length items ≡ 0 + length items = omega arith in
    subst (RecordsAre c.add_target.new.records objects)
    (ap (λ n. (l ++ carried) ++ buffer_references c.args.place c.args.q n [] c.args.target) last
    ∙ append_assoc l carried _ ∙ ap (λ rs. l ++ rs) (sym (with_target c.args.place c.args.q items 0 c.args.target)))
    (c.add_target.ensures.stands objects _ (c.add_carried.ensures.stands objects l names h n ready) here)

pub returns-clause-uses : goal.returns-clause-uses
returns-clause-uses c = then_uses _ _ _ 0 (length c.args.items.now) 0 0 1 0 c.add_carried.ensures.uses c.add_target.ensures.uses
