use Rattle.std.proofs.{Common.{sym, ap, ◌∙◌, map, set}, lemmas.List.{map-id}}
use Rattle.bd_frames.specs.Places.{turned}
use Rattle.bd_frames.proofs.Places.{turned_at, turned_nowhere}
use Rattle.bd_frames.proofs.place.turn.Goals as goal

pub returns-in-Some-index_of-clause-rows : goal.returns-in-Some-index_of-clause-rows
returns-in-Some-index_of-clause-rows g c = λ h by r.
    let xs = c.args.rows.now.items in
    let i = c.in-Some-index_of.i in
    let d = c.index.result.now in
    let lt = rw c.deref.ensures.value at c.in-Some-index_of.ensures.within in
    let found = rw c.deref.ensures.value at c.in-Some-index_of.ensures.found in
    ap (set xs i) (by d c.f.result c.f.ensures ∙ ap h c.index.ensures)
    ∙ turned_at h c.in-Some.made xs i d r lt (found r) ∙ ap (λ o. map (turned o h) xs) (sym c.in-Some.is)

pub returns-in-Some-clause-rows : goal.returns-in-Some-clause-rows
returns-in-Some-clause-rows g c = λ h by r.
    let xs = c.args.rows.now.items in
    let found = rw c.deref.ensures.value at c.in_default-index_of.ensures.found in
    turned_nowhere h c.in-Some.made xs (found r) ∙ ap (λ o. map (turned o h) xs) (sym c.in-Some.is)

pub returns-clause-rows : goal.returns-clause-rows
returns-clause-rows g c = λ h by r.
    let xs = c.args.rows.now.items in sym (map-id xs) ∙ ap (λ o. map (turned o h) xs) (sym c.in_default.is)
