use Rattle.std.proofs.Common.{◌≡◌, ◌≤◌, ◌<◌, ◌+◌, ℕ, zero, suc, Bool, true, false, cond, List, ◌++◌, ◌∷◌, [], Result, Ok, Err, append-nil, append_assoc, map, filter, reverse, take, drop, length, get_or, refl, ap, sym, ◌∙◌, arith}
use Rattle.std.proofs.{lemmas.List.{length-take, length-append, length-reverse, length-map, get_or-take, take_all, drop_more, drop_all}, lemmas.Grind.{reverse_onto}}
use Rattle.std.specs.Prelude.{OnErr}
use Rattle.bd_ways.proofs.Ranges.{no_head}
use Rattle.bd_space.specs.{declared.space.Frame.{Frame}, Frames.{calls, serves, takes_part, made_of}}
use Rattle.bd_frames.specs.{declared.frame.Row.{Row}, Places.{frames_of}}
use Rattle.bd_frames.proofs.Places.{no_row, rising_take}
use Rattle.bd_frames.proofs.walk.push_served_down.Goals as goal

-- of those between, none passes
passed_over : (q : Frame → Bool) (i n : ℕ) (rs : List Row) → i ≤ n
    → ((k : ℕ) (d : Row) → i ≤ k → k < n → k < length rs → q (get_or rs k d).frame ≡ false)
    → filter q (frames_of (drop i rs)) ≡ filter q (frames_of (drop n rs))
passed_over q zero zero rs le none = refl
passed_over q zero (suc n) [] le none = refl
passed_over q zero (suc n) (r ∷ rs) le none =
    rw (none 0 r (omega arith) (omega arith) (omega arith)) (passed_over q zero n rs (omega arith)
    (λ k d a b h. none (suc k) d (omega arith) (omega arith) (omega arith)))
passed_over q (suc i) zero rs le none = absurd (omega arith)
passed_over q (suc i) (suc n) [] le none = refl
passed_over q (suc i) (suc n) (r ∷ rs) le none = passed_over q i n rs (omega arith)
    (λ k d a b h. none (suc k) d (omega arith) (omega arith) (omega arith))

-- one more is served, or none
served_next : (q : Frame → Bool) (xs : List ℕ) (ys : List Frame) (f : Frame)
    → (xs ++ reverse (map made_of ys)) ++ map made_of (filter q (f ∷ [])) ≡ xs ++ reverse (map made_of (cond (q f) (f ∷ ys) ys))
served_next q xs ys f = at (q f)
  where
    at : (b : Bool) → (xs ++ reverse (map made_of ys)) ++ map made_of (cond b (f ∷ []) []) ≡ xs ++ reverse (map made_of (cond b (f ∷ ys) ys))
    at true =
        append_assoc xs (reverse (map made_of ys)) (f.made ∷ []) ∙ ap (λ (zs : List ℕ). xs ++ zs) (sym (reverse_onto (map made_of ys) f.made []))
    at false = append-nil (xs ++ reverse (map made_of ys))

-- who takes no part doesn't serve
no_server : (seat n : ℕ) (rs : List Row) (k : ℕ) (d : Row) → k < n → takes_part seat (get_or (take n rs) k d).frame ≡ false
    → serves seat (get_or rs k d).frame.server ≡ false
no_server seat n rs k d low out = (no_head (calls seat (get_or rs k d).frame) _ (rw (get_or-take n rs k d low) at out)).1

-- of those from one on no more pass than of all
few_from : (q : Frame → Bool) (i : ℕ) (rs : List Row) → length (filter q (frames_of (drop i rs))) ≤ length (filter q (frames_of rs))
few_from q zero rs = omega arith
few_from q (suc i) [] = omega arith
few_from q (suc i) (r ∷ rs) = omega (arith, few_from q i rs, one (q r.frame))
  where
    one : (b : Bool) → length (filter q (frames_of rs)) ≤ length (cond b (r.frame ∷ filter q (frames_of rs)) (filter q (frames_of rs)))
    one true = omega arith
    one false = omega arith

length_cond : (b : Bool) (f : Frame) (ys : List Frame) → length (cond b (f ∷ ys) ys) ≡ length ys + length (cond b (f ∷ []) [])
length_cond true f ys = omega arith
length_cond false f ys = omega arith

on_err : {A B P : Type 0} (r : Result A B) → P → OnErr r P
on_err (Ok x) p = tt
on_err (Err x) p = p

pub loop-i-init : goal.loop-i-init
loop-i-init c =
    let rs = c.args.rows.now in
    let xs = c.args.served.now.items in
    record {
      within = omega arith;
      way = λ r st. rw (take_all (length rs) rs (omega arith)) st;
      so_far = λ r st. sym (ap (λ (rs : List Row). xs ++ reverse (map made_of (filter (λ (f : Frame). serves c.args.seat f.server) (frames_of rs))))
          (drop_all (length rs) rs (omega arith)) ∙ append-nil xs);
      longer = omega arith;
      room = omega arith;
    }

pub loop-i-preserved : goal.loop-i-preserved
loop-i-preserved c =
    let inv = c.loop-i.invariant in
    let seat = c.args.seat in
    let rs = c.args.rows.now in
    let n = c.loop-i.way.end in
    let i = c.in-Some.i in
    let q = λ (x : Frame). serves seat x.server in
    let xs = c.args.served.now.items in
    let ends = c.in-Some.ensures.end in
    let few : n ≤ length rs = inv.within in
    let f = (get_or rs i no_row).frame in
    record {
      within = omega (arith, few, ends.0, ends.1);
      way = λ r st. rw ends.1 (c.in-Some.ensures.rest (rising_take n rs r) (inv.way r st));
      so_far = λ r st.
          let none = (c.in-Some.ensures.newest (rising_take n rs r) (inv.way r st)).1 in
          let skipped = passed_over q (i + 1) n rs (omega (arith, ends.0))
          (λ k d a b h. no_server seat n rs k d b (none k d (omega (arith, a)) (omega (arith, b, h, length-take n rs)))) in
          let left = ap (λ (zs : List Row). filter q (frames_of zs)) (drop_more rs i no_row (omega (arith, few, ends.0)))
          ∙ ap (λ (zs : List Frame). cond (q f) (f ∷ zs) zs) skipped in
          rw ends.1 (c.in_ok-push_if_served.ensures.served
          ∙ ap (λ (ns : List ℕ). ns ++ map made_of (filter q (f ∷ []))) (inv.so_far r st)
          ∙ served_next q xs (filter q (frames_of (drop n rs))) f
          ∙ sym (ap (λ (zs : List Frame). xs ++ reverse (map made_of zs)) left));
      longer = omega (arith, inv.longer, c.in_ok-push_if_served.ensures.longer);
      room = omega (arith, inv.room, c.in_ok-push_if_served.ensures.capacity);
    }

pub returns-clause-served : goal.returns-clause-served
returns-clause-served c = λ r st.
    let inv = c.loop-i.invariant in
    let seat = c.args.seat in
    let rs = c.args.rows.now in
    let n = c.loop-i.way.end in
    let none = c.in_default.ensures.newest (rising_take n rs r) (inv.way r st) in
    inv.so_far r st
    ∙ ap (λ zs. c.args.served.now.items ++ reverse (map made_of zs)) (sym (passed_over (λ (x : Frame). serves seat x.server) 0 n rs (omega arith)
    (λ k d a b h. no_server seat n rs k d b (none k d (omega (arith, b, h, length-take n rs))))))

pub returns-in_err-push_if_served-clause-grown : goal.returns-in_err-push_if_served-clause-grown
returns-in_err-push_if_served-clause-grown c = λ r st.
    let inv = c.loop-i.invariant in
    let seat = c.args.seat in
    let rs = c.args.rows.now in
    let n = c.loop-i.way.end in
    let i = c.in-Some.i in
    let q = λ (x : Frame). serves seat x.server in
    let xs = c.args.served.now.items in
    let ends = c.in-Some.ensures.end in
    let few : n ≤ length rs = inv.within in
    let f = (get_or rs i no_row).frame in
    let none = (c.in-Some.ensures.newest (rising_take n rs r) (inv.way r st)).1 in
    let skipped = passed_over q (i + 1) n rs (omega (arith, ends.0))
    (λ k d a b h. no_server seat n rs k d b (none k d (omega (arith, a)) (omega (arith, b, h, length-take n rs)))) in
    let ys = filter q (frames_of (drop n rs)) in
    let left : filter q (frames_of (drop i rs)) ≡ cond (q f) (f ∷ ys) ys =
    ap (λ (zs : List Row). filter q (frames_of zs)) (drop_more rs i no_row (omega (arith, few, ends.0)))
    ∙ ap (λ (zs : List Frame). cond (q f) (f ∷ zs) zs) skipped in
    on_err c.from_residual.result (omega (
      arith,
      inv.room,
      c.in_err-push_if_served.ensures.grown,
      few_from q i rs,
      ap length left,
      length_cond (q f) f ys,
      ap length (inv.so_far r st),
      length-append xs (reverse (map made_of ys)),
      length-reverse (map made_of ys),
      length-map ys made_of,
    ))
