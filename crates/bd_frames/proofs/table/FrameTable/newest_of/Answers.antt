use Rattle.std.proofs.Common.{◌≡◌, ℕ, List, [], ◌∷◌, length, None, refl, sym, ap, ◌∙◌, eqb-true, arith}
use Rattle.bd_frames.specs.{declared.frame.Row.{Row}, Places.{frames_of}, Words.{newest_in}}
use Rattle.bd_frames.proofs.table.FrameTable.newest_of.Goals as goal

of_none : (rows : List Row) (seat : ℕ) → length rows ≡ 0 → None ≡ newest_in (frames_of rows) seat
of_none [] seat e = refl
of_none (r ∷ rows) seat e = absurd (omega arith)

pub returns-then-is_empty : goal.returns-then-is_empty
returns-then-is_empty c = λ l h.
    let rows = c.args.self.now.rows in
    let none = eqb-true rows.len 0 (sym c.is_empty.ensures ∙ c.if-is_empty.true) in
    of_none rows.items c.args.seat (omega (arith, none, rows.ok.0)) ∙ ap (λ fs. newest_in fs c.args.seat) h.items_are
