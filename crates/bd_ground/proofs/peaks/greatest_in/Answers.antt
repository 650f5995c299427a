use Rattle.std.proofs.{Common.{arith, inl, inr, length, ◌*◌, ◌≤◌}, lemmas.Bool.{cases_lt}, lemmas.List.{get_or_past}}
use Rattle.bd_ground.proofs.Parts.{part_has}
use Rattle.bd_ground.proofs.peaks.greatest_in.Goals as goal

pub returns : goal.returns
returns c = λ j here.
    let numbers = c.args.numbers.now in
    elim (cases_lt j (length numbers)) [
      | inl lt ↦ part_has (λ m. m ≤ c.greatest.result) numbers (c.args.part * 64) c.min-to.result j 0 c.greatest.ensures (omega (arith, c.min-to.ensures)) (omega (arith, here)) (omega (arith, here, lt, c.min-to.ensures))
      | inr past ↦ rw (get_or_past numbers j 0 past) (omega arith)
    ]
