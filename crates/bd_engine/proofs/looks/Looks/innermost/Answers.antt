use Rattle.bd_engine.proofs.Words.{Frame, Some, always_tidy, ap, option_map, serves, space_after, sym, tidy_stacked, ◌∙◌}
use Rattle.bd_engine.proofs.looks.Looks.innermost.Goals as goal

pub returns-in-Some : goal.returns-in-Some
returns-in-Some g c = g.Self.HasTables.concludes _ _ _
    (λ h stands.
    let s = space_after h in
    let found = c.innermost.ensures s stands.calls_stand (tidy_stacked s (always_tidy h)) in
    ap (λ b. Some (c.in-Some.f.made, b)) c.serves.ensures ∙ ap (option_map (λ (f : Frame). (f.made, serves c.args.seat f.server))) (sym c.in-Some.is ∙ found))
    c.tables.ensures

pub returns-in-None : goal.returns-in-None
returns-in-None g c = g.Self.HasTables.concludes _ _ _
    (λ h stands.
    let s = space_after h in
    let found = c.innermost.ensures s stands.calls_stand (tidy_stacked s (always_tidy h)) in
    ap (option_map (λ (f : Frame). (f.made, serves c.args.seat f.server))) (sym c.in-None.is ∙ found))
    c.tables.ensures
