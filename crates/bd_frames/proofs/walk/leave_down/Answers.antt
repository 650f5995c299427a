use Rattle.std.proofs.Common.{◌≡◌, ◌≤◌, ◌<◌, ℕ, suc, false, List, inl, inr, take, length, get_or, map, ap, sym, ◌∙◌, arith}
use Rattle.std.proofs.lemmas.Bool.{cases_eq, cases_lt}
use Rattle.std.proofs.lemmas.List.{length-take, length-map, take-take, take-set-le, get_or-take, get_or-map, get_or-set_same, get_or-set_other, get_or_read, ext_get_or}
use Rattle.std.specs.List.{AllWithin}
use Rattle.bd_space.specs.{declared.space.Frame.{Frame}, Frames.{takes_part}}
use Rattle.bd_frames.specs.{declared.frame.Row.{Row}, Words.{left_row}}
use Rattle.bd_frames.proofs.{Alike.{row_other}, Places.{rising_take, no_row}}
use Rattle.bd_frames.proofs.walk.leave_down.Goals as goal

-- two that begin alike
unchanged : (n : ℕ) (xs ys : List Row) → take n xs ≡ take n ys → (k : ℕ) (d : Row) → k < n → get_or xs k d ≡ get_or ys k d
unchanged n xs ys same k d low = sym (get_or-take n xs k d low) ∙ ap (λ (zs : List Row). get_or zs k d) same ∙ get_or-take n ys k d low

-- from an index on the thread takes part in none of the first n
left_from : (seat n from : ℕ) (rs ys : List Row) → take n ys ≡ take n rs
    → AllWithin (λ r. takes_part seat r.frame ≡ false) (take n rs) from (length (take n rs))
    → ((k : ℕ) (d : Row) → n ≤ k → k < length rs → get_or ys k d ≡ left_row seat (get_or rs k d))
    → (k : ℕ) (d : Row) → from ≤ k → k < length rs → get_or ys k d ≡ left_row seat (get_or rs k d)
left_from seat n from rs ys same none so_far k d ge lt = elim (cases_lt k n) [
  | inl low ↦
      let out = ap (λ (r : Row). takes_part seat r.frame) (sym (get_or-take n rs k d low)) ∙ none k d ge (omega (arith, low, lt, length-take n rs)) in
      unchanged n ys rs same k d low ∙ sym (row_other seat (get_or rs k d) out)
  | inr high ↦ so_far k d high lt
]

pub loop-i-preserved : goal.loop-i-preserved
loop-i-preserved c =
    let inv = c.loop-i.invariant in
    let seat = c.args.seat in
    let rs = c.args.rows.now.items in
    let ys = c.loop-i.rows.items in
    let n = c.loop-i.way.end in
    let i = c.in-Some.i in
    let y = c.index-row.result.now in
    let x : Row = record y { frame = c.frame_without.result } in
    let ends = c.in-Some.ensures.end in
    let low = ends.0 in
    let within : i < length ys = omega (arith, low, inv.within, inv.len, c.loop-i.rows.ok) in
    let begun : take n c.deref.result.now ≡ take n rs = ap (take n) c.deref.ensures.value ∙ inv.same in
    let same : take i ys ≡ take i rs = sym (take-take i n ys (omega (arith, low))) ∙ ap (take i) inv.same ∙ take-take i n rs (omega (arith, low)) in
    record {
      within = omega (arith, inv.within, ends.0, ends.1);
      same = rw ends.1 (take-set-le i ys i x (omega arith) ∙ same);
      way = λ r st. rw (ends.1, ← same, ← c.deref.ensures.value) (c.in-Some.ensures.rest (rw begun (rising_take n rs r)) (rw begun (inv.way r st)));
      so_far = λ r st k d ge lt.
          let none = rw begun at (c.in-Some.ensures.newest (rw begun (rising_take n rs r)) (rw begun (inv.way r st))).1 in
          elim (cases_eq k i) [
            | inl is ↦
                rw is (get_or-set_same ys i x d within ∙ ap (λ (f : Frame). record y { frame = f }) c.frame_without.ensures
                ∙ ap (left_row seat) (get_or_read ys i y within c.index-row.ensures d ∙ unchanged n ys rs inv.same i d low))
            | inr other ↦ get_or-set_other ys i k x d other ∙ left_from seat n (suc i) rs ys inv.same none (inv.so_far r st) k d
                (omega (arith, ge, ends.1, other)) lt
          ];
      len = inv.len;
      capacity = inv.capacity;
    }

pub returns-clause-rows : goal.returns-clause-rows
returns-clause-rows c = λ r st.
    let inv = c.loop-i.invariant in
    let rs = c.args.rows.now.items in
    let ys = c.loop-i.rows.items in
    let n = c.loop-i.way.end in
    let left = left_row c.args.seat in
    let begun : take n c.deref.result.now ≡ take n rs = ap (take n) c.deref.ensures.value ∙ inv.same in
    let none = rw begun at (c.in_default.ensures.newest (rw begun (rising_take n rs r)) (rw begun (inv.way r st))) in
    let long : length ys ≡ length rs = omega (arith, inv.len, c.loop-i.rows.ok, c.args.rows.now.ok) in
    ext_get_or no_row ys (map left rs) (long ∙ sym (length-map rs left)) (λ k lt.
    left_from c.args.seat n 0 rs ys inv.same (λ k d ge lt. none k d lt) (inv.so_far r st) k no_row (omega arith) (omega (arith, lt, long))
    ∙ sym (get_or-map left rs k no_row no_row (omega (arith, lt, long))))
