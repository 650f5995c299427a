use Rattle.std.proofs.Common.{◌∙◌, [], refl, subst, ap, arith}
use Rattle.std.specs.List.{cons_option}
use Rattle.bd_ways.specs.Local.{close_up}
use Rattle.bd_calls.specs.{Closing.{close_due}, Room.{rooms}, Stands.{StandsFor}}
use Rattle.bd_calls.proofs.{Few.{few_less}, Closing.{all_closed, due_up}}
use Rattle.bd_calls.proofs.table.CallTable.close_up.Goals as goal

pub returns-clause-stands : goal.returns-clause-stands
returns-clause-stands c = λ s stands at.
    let count = c.count-count.result in
    subst (StandsFor c.close_up_within.new.self) (due_up count c.args.made s ∙ ap (λ n. close_up n c.args.made s) (c.count-count.ensures.frames s.frames stands.frames_are))
    (all_closed _ _ _ [] _ refl (c.close_up_within.ensures.closing [] (close_due count (cons_option c.args.made []) s) (record { mid = s; stands = stands; at = at; goes_on = refl })))

pub returns-clause-few : goal.returns-clause-few
unfolding rooms
returns-clause-few c = few_less _ _ _ _ (omega (arith, c.count-count.ensures.count)) c.close_up_within.ensures.few
