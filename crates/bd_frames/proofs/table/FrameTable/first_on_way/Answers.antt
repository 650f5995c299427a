use Rattle.std.proofs.Common.{◌≡◌, ◌≤◌, ◌<◌, Bool, true, false, cond, None, Some, Option, ℕ, List, [], find, reverse, take, length, get_or, refl, sym, ap, ◌∙◌, arith, rules}
use Rattle.std.proofs.lemmas.List.{length-take, take_all, take-take, get_or-take}
use Rattle.bd_space.specs.{declared.space.Frame.{Frame}, Frames.{ancestry}}
use Rattle.bd_frames.specs.{declared.frame.Row.{Row}, declared.table.FrameTable.{FrameTable}, Stands.{FramesAre}, Places.{frames_of, AreRising, IsAt}}
use Rattle.bd_frames.proofs.{Ways.{way_ended, way_none, way_found}, Places.{rising_take}, Standing.{own_rising}}
use Rattle.bd_frames.proofs.table.FrameTable.first_on_way.Goals as goal

-- what is found on the way from a place, from the newest of the first n rows on
abbrev first : (Frame → Bool) → Option ℕ → ℕ → List Row → Option Frame
first q from n rs = find q (ancestry from (reverse (frames_of (take n rs))))

-- of the table's own rows
ends : (t : FrameTable) (l : List Frame) (q : Frame → Bool) (from : Option ℕ) (o : Option Frame) → FramesAre t l
    → find q (ancestry from (reverse (frames_of t.rows.items))) ≡ o
    → o ≡ find q (ancestry from (reverse l))
ends t l q from o h e = sym e ∙ ap (λ ys. find q (ancestry from (reverse ys))) h.items_are

goes_on : (q : Frame → Bool) (made n i : ℕ) (rs : List Row) (d : Row) → AreRising rs → i < length (take n rs) → IsAt made (take n rs) (Some i)
    → d ≡ get_or rs i d
    → first q (Some made) n rs ≡ cond (q d.frame) (Some d.frame) (first q d.frame.parent i rs)
goes_on q made n i rs d r within at is =
    let low : i < n = omega (arith, within, length-take n rs) in
    ap (find q) (way_found made (take n rs) i d [] (rising_take n rs r) within at)
    ∙ ap (λ (x : Row). cond (q x.frame) (Some x.frame) (find q (ancestry x.frame.parent (reverse (frames_of (take i (take n rs)))))))
    (get_or-take n rs i d low ∙ sym is)
    ∙ ap (λ (zs : List Row). cond (q d.frame) (Some d.frame) (find q (ancestry d.frame.parent (reverse (frames_of zs)))))
    (take-take i n rs (omega (arith, low)))

pub loop-next-init : goal.loop-next-init
loop-next-init g c = record {
  same = refl;
  within = omega (arith, c.len-end.ensures);
  rest = λ q by r.
      let long : length c.args.self.now.rows.items ≤ c.len-end.result = omega (arith, c.len-end.ensures) in
      ap (λ ys. find q (ancestry c.args.from (reverse (frames_of ys)))) (sym (take_all c.len-end.result c.args.self.now.rows.items long));
}

pub loop-next-preserved : goal.loop-next-preserved
loop-next-preserved g c =
    let inv = c.loop-next.invariant in
    let rs = c.args.self.now.rows.items in
    let n = c.loop-next.end in
    let d = c.index.result.now in
    let within = rw c.deref.ensures.value at c.in_ok-i.ensures.within in
    record {
      same = refl;
      within = omega (arith, inv.within, within, length-take n rs);
      rest = λ q by r.
          let fails : q d.frame ≡ false = sym (by d.frame c.f.result c.f.ensures) ∙ c.if-f.false in
          let at = (rw c.deref.ensures.value at c.in_ok-i.ensures.found) (rising_take n rs r) in
          inv.rest q by r ∙ ap (λ (o : Option ℕ). first q o n rs) c.in-Some.is
          ∙ goes_on q c.in-Some.made n c.in_ok-i.i rs d r within at c.index.ensures
          ∙ ap (λ b. cond b (Some d.frame) (first q d.frame.parent c.in_ok-i.i rs)) fails;
    }

pub returns-in_err-i : goal.returns-in_err-i
returns-in_err-i g c = λ q by l h.
    let t = c.args.self.now in
    let rs = t.rows.items in
    let n = c.loop-next.end in
    let r = own_rising t l h in
    let none = (rw c.deref.ensures.value at c.in_err-i.ensures.found) (rising_take n rs r) in
    c.from_residual.ensures
    ∙ ends t l q c.args.from None h (c.loop-next.invariant.rest q by r ∙ ap (λ (o : Option ℕ). first q o n rs) c.in-Some.is
    ∙ ap (find q) (way_none c.in-Some.made (take n rs) [] none))

pub returns-then-f : goal.returns-then-f
returns-then-f g c = λ q by l h.
    let t = c.args.self.now in
    let rs = t.rows.items in
    let n = c.loop-next.end in
    let r = own_rising t l h in
    let d = c.index.result.now in
    let passes : q d.frame ≡ true = sym (by d.frame c.f.result c.f.ensures) ∙ c.if-f.true in
    let at = (rw c.deref.ensures.value at c.in_ok-i.ensures.found) (rising_take n rs r) in
    let within = rw c.deref.ensures.value at c.in_ok-i.ensures.within in
    ends t l q c.args.from (Some d.frame) h (c.loop-next.invariant.rest q by r ∙ ap (λ (o : Option ℕ). first q o n rs) c.in-Some.is
    ∙ goes_on q c.in-Some.made n c.in_ok-i.i rs d r within at c.index.ensures
    ∙ ap (λ b. cond b (Some d.frame) (first q d.frame.parent c.in_ok-i.i rs)) passes)

pub returns : goal.returns
returns g c = λ q by l h.
    let t = c.args.self.now in
    let n = c.loop-next.end in
    let none : c.loop-next.next ≡ None = search rules in
    ends t l q c.args.from None h (c.loop-next.invariant.rest q by (own_rising t l h)
    ∙ ap (λ (o : Option ℕ). first q o n t.rows.items) none ∙ ap (find q) (way_ended (reverse (frames_of (take n t.rows.items)))))
