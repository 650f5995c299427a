use Rattle.std.proofs.Common.{◌≡◌, ◌++◌, List, Result, Ok, Err, length, map, filter, reverse, take, drop, ap, ◌∙◌, arith}
use Rattle.std.specs.Prelude.{OnErr}
use Rattle.std.proofs.lemmas.List.{reverse-reverse, take_at, drop_at}
use Rattle.bd_space.specs.{declared.space.Frame.{Frame}, Frames.{serves, made_of}}
use Rattle.bd_frames.specs.Places.{frames_of}
use Rattle.bd_frames.proofs.Standing.{own_rising, own_stack}
use Rattle.bd_frames.proofs.table.FrameTable.served.Goals as goal

pub returns-clause-served : goal.returns-clause-served
returns-clause-served c = λ l h.
    let t = c.args.self.now in
    let old = c.args.served.now.items in
    let n = c.len-from.result in
    let places = λ (fs : List Frame). map made_of (filter (λ f. serves c.args.seat f.server) fs) in
    let found = (rw c.deref.ensures.value at c.in_ok-push_served_down.ensures.served) (own_rising t l h)
    (own_stack t l h c.args.seat _ c.top_of-top.ensures) in
    let turned = reverse (places (frames_of t.rows.items)) in
    let from : length old ≡ n = omega (arith, c.len-from.ensures) in
    c.reverse_from.ensures ∙ ap (λ vs. take n vs ++ reverse (drop n vs)) found
    ∙ ap (λ v. v ++ reverse (drop n (old ++ turned))) (take_at old turned n from)
    ∙ ap (λ v. old ++ reverse v) (drop_at old turned n from)
    ∙ ap (λ v. old ++ v) (reverse-reverse (places (frames_of t.rows.items)) ∙ ap places h.items_are)

on_err : {A B P : Type 0} (r : Result A B) → P → OnErr r P
on_err (Ok x) p = tt
on_err (Err x) p = p

pub returns-in_err-push_served_down-clause-grown : goal.returns-in_err-push_served_down-clause-grown
returns-in_err-push_served_down-clause-grown c = on_err c.from_residual.result (λ l h.
    let t = c.args.self.now in
    let many = λ (fs : List Frame). length (filter (λ f. serves c.args.seat f.server) fs) in
    let grown = (rw c.deref.ensures.value at c.in_err-push_served_down.ensures.grown) (own_rising t l h)
    (own_stack t l h c.args.seat _ c.top_of-top.ensures) in
    omega (arith, grown, ap many h.items_are))
