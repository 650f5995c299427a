use Rattle.std.proofs.Common.{ℕ, length, refl, ap, ◌∙◌}
use Rattle.std.specs.Prelude.{Some}
use Rattle.bd_space.specs.Histories.{extended}
use Rattle.bd_c.specs.Told.{told_of_step}
use Rattle.bd_c.proofs.live.OwnedLive.make_alone.Goals as goal

pub returns-in-Ok : goal.returns-in-Ok
returns-in-Ok c =
    let made = c.in-Ok.ensures in
    let answer = c.in-Ok.entry.answer in
    record {
      answer = answer;
      kept = λ i. Some (record { seat = made.seat i; step = made.step i; answer = answer });
      seats = made.seats;
      answered = λ h f. record {
        said = made.answer h f;
        shown = c.of_step.ensures ∙ ap (λ (n : ℕ). told_of_step answer n c.len.result) (c.len-from.ensures h f)
            ∙ ap (λ (n : ℕ). told_of_step answer (length h.entries) n) (c.len.ensures (extended h c.args.seat c.args.step answer) (made.follows h f));
        ended = ap (λ v. v.items) c.swap.ensures.x_after ∙ made.ended h f;
        follows = made.follows h f;
      };
      notes = record { noted = refl; changed = refl };
      lists = record { reached = refl; whole = refl };
      recalls = λ alone. made.told;
      waits = refl;
      watches = λ bridged. absurd (c.requires.alone bridged);
    }
