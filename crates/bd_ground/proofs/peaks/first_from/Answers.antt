use Rattle.std.proofs.{Common.{arith, length, ◌+◌, ◌-◌, ◌≡◌, ◌≤◌}, lemmas.List.Edits.{get_or-between, length-between}}
use Rattle.bd_ground.proofs.peaks.first_from.Goals as goal

pub returns-clause-below : goal.returns-clause-below
returns-clause-below c = λ j low lt.
    let bounds = c.args.numbers.now in
    let from = c.min-from.result in
    let le : from ≤ length bounds = omega (arith, c.min-from.ensures) in
    let before : from ≤ j = omega (arith, c.min-from.ensures, low) in
    let len = length-between bounds from (length bounds) (omega arith) in
    let back : from + (j - from) ≡ j = omega arith in
    let at = get_or-between bounds from (length bounds) (j - from) 0 (omega (arith, len, lt)) in
    rw (at, back) at (c.first_above.ensures.below (j - from) (omega (arith, before, lt)))
