use Rattle.bd_engine.proofs.{Noting.{agree, differ, seen_all, seen_as, seen_none, seen_other, seen_same, seen_whole}, live.Live.note_ready.Goals.{else-at-noted, then-at-noted+else-noted-at, then-at-noted+then-noted-at}, Words.{All-push, All-same, [], ap, arith, false, get_or, is_ready, length, refl, rules, space_after, subst, take, take_more, ◌++◌, ◌<◌, ◌∙◌, ◌∷◌, ◌≡◌}}
use Rattle.bd_engine.proofs.live.Live.note_ready.Goals as goal

pub loop-i-init : goal.loop-i-init
loop-i-init c = record {
  len = refl;
  room = omega arith;
  inside = search (rules, arith);
  seen = λ h follows y lt. seen_as (space_after h) _ c.args.noted.now _ [] c.args.changed.now.items [] [] y refl c.requires.none refl (seen_none (space_after h) c.args.noted.now y);
}

pub loop-i-preserved : goal.loop-i-preserved
loop-i-preserved c = record {
  len = omega (arith, c.if-at-noted.auto.noted, c.loop-i.invariant.len);
  room = elim c.if-at-noted.branch [
    | then-at-noted+then-noted-at w ↦ search rules
    | then-at-noted+else-noted-at w ↦ search rules
    | else-at-noted w ↦ search rules
  ];
  inside = elim c.if-at-noted.branch [
    | then-at-noted+then-noted-at w ↦
        All-same (λ x. x < length c.args.noted.now) c.if-at-noted.changed.items
        (c.loop-i.changed.items ++ get_or c.args.touched.now c.loop-i.i 0 ∷ [])
        (ap (λ v. v.items) w.changed-is ∙ w.push_reserved.ensures.items)
        (All-push (λ x. x < length c.args.noted.now) c.loop-i.changed.items (get_or c.args.touched.now c.loop-i.i 0)
        c.loop-i.invariant.inside (omega (arith, w.if-at-noted.true, c.loop-i.invariant.len)))
    | then-at-noted+else-noted-at w ↦ search rules
    | else-at-noted w ↦ search rules
  ];
  seen = λ h follows y lt.
      let s = space_after h in
      let x = get_or c.args.touched.now c.loop-i.i 0 in
      let before = c.args.noted.now in
      let done = take c.loop-i.i c.args.touched.now in
      let more = take_more c.args.touched.now c.loop-i.i 0 c.loop-i-test.true in
      let seen = c.loop-i.invariant.seen h follows y lt in
      elim c.if-at-noted.branch [
        | then-at-noted+then-noted-at w ↦
            seen_as s before _ c.if-at-noted.noted _ c.if-at-noted.changed.items _ _ y w.noted-is (ap (λ v. v.items) w.changed-is ∙ w.push_reserved.ensures.items) more
            (seen_other s before c.loop-i.noted c.loop-i.changed.items done x y seen w.is_ready-ready.result w.if-at-noted.true (differ _ _ w.if-noted-at.true) (λ e. w.is_ready-ready.ensures h follows))
        | then-at-noted+else-noted-at w ↦
            seen_as s before _ c.if-at-noted.noted _ c.if-at-noted.changed.items _ _ y w.noted-is (ap (λ v. v.items) w.changed-is) more
            (seen_same s before c.loop-i.noted c.loop-i.changed.items done x y seen
            (λ e. subst (λ v. get_or c.loop-i.noted v false ≡ is_ready s v) e (agree _ _ w.if-noted-at.false ∙ w.is_ready-ready.ensures h follows)))
        | else-at-noted w ↦
            seen_as s before _ c.if-at-noted.noted _ c.if-at-noted.changed.items _ _ y w.noted-is (ap (λ v. v.items) w.changed-is) more
            (seen_same s before c.loop-i.noted c.loop-i.changed.items done x y seen (λ e. absurd (omega (arith, w.if-at-noted.false, c.loop-i.invariant.len, lt, e))))
      ];
}

pub returns-clause-seen : goal.returns-clause-seen
returns-clause-seen c = λ h follows y lt.
    let seen = c.loop-i.invariant.seen h follows y (omega (arith, c.loop-i.invariant.len, lt)) in
    (seen_whole (space_after h) c.args.noted.now c.loop-i.noted c.loop-i.changed.items c.args.touched.now c.loop-i.i y (omega arith) seen).is

pub returns-clause-noted : goal.returns-clause-noted
returns-clause-noted c = λ h follows touched_only y lt.
    let inside : y < length c.args.noted.now = omega (arith, c.loop-i.invariant.len, lt) in
    let seen = c.loop-i.invariant.seen h follows y inside in
    seen_all (space_after h) c.args.noted.now c.loop-i.noted c.loop-i.changed.items c.args.touched.now y
    (seen_whole (space_after h) c.args.noted.now c.loop-i.noted c.loop-i.changed.items c.args.touched.now c.loop-i.i y (omega arith) seen) (touched_only y inside)

pub returns-clause-changed : goal.returns-clause-changed
returns-clause-changed c = λ h follows y lt. (c.loop-i.invariant.seen h follows y lt).listed

pub returns-clause-once : goal.returns-clause-once
returns-clause-once c = λ h follows y lt. (c.loop-i.invariant.seen h follows y lt).once
