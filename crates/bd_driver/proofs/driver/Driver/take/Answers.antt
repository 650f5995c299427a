use Rattle.bd_driver.proofs.{Takes.{takes_once}, Words.{Home, List, Slot, ap, arith, history_of, rest, rules, sym, view_of, ℕ, ◌%◌, ◌∙◌, ◌∷◌, ◌≡◌}}
use Rattle.bd_driver.proofs.driver.Driver.take.Goals as goal

pub fetch_or-word-requires : goal.fetch_or-word-requires
fetch_or-word-requires c = (search rules, search rules, takes_once _ _ _ _ c.requires.one c.requires.idle)

pub exchange-requires : goal.exchange-requires
exchange-requires c =
    let t = c.fetch_or-word.ensures.2 in
    let clear : c.fetch_or-word.result % 2 ≡ 0 = omega arith in
    let held = t.5 clear in
    let engine = Home (history_of (view_of c.args.table_seat.now.me.0).seats t.1) in
    (search rules, (engine, held ∙ ap (λ (l : List (ℕ × Slot)). (0, engine) ∷ rest l) (sym held)))
