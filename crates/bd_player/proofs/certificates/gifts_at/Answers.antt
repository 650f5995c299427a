use Rattle.std.proofs.Common.{rules, arith, ◌≡◌, ◌∙◌, ◌+◌, ℕ, [], ◌∷◌, ◌++◌, All, Some, ap, length, subst, sym}
use Rattle.std.specs.List.{slice_get}
use Rattle.std.proofs.lemmas.List.Elements.{All-nil, All-push}
use Rattle.bd_spelling.specs.Records.{history_in}
use Rattle.bd_audit.proofs.Beginnings.{next_beginning, next_lawful, one_next}
use Rattle.bd_player.specs.Certified.{IsGiftOf}
use Rattle.bd_player.proofs.Gifts.{AreSoFar, all_given, gives, made_there, none_yet, passes, placed, so_many}
use Rattle.bd_player.proofs.certificates.gifts_at.Goals as goal
use Rattle.bd_player.proofs.certificates.gifts_at.Goals.{in-Some+else-is_err, in_default}

pub loop-entry-init : goal.loop-entry-init
loop-entry-init c =
    let none : c.new-gifts.result.items ≡ [] = search rules in
    record {
      engine = c.in_ok-engine.ensures.ok;
      each = subst (All (IsGiftOf (history_in c.args.record.now))) (sym none) (All-nil (IsGiftOf (history_in c.args.record.now)));
      so_far = λ rises. none_yet _ _ _ none rises;
    }

pub gift_made-requires : goal.gift_made-requires
gift_made-requires c =
    next_lawful (history_in c.args.record.now) c.loop-entry.engine c.loop-entry.entry-index c.entry-item.result c.as_slice-entries.result.now c.requires.lawful
    c.loop-entry.invariant.engine (c.as_slice-entries.ensures.value ∙ c.in_ok-copied.ensures.copied) c.loop-entry-test.true c.entry-item.is

pub loop-entry-preserved : goal.loop-entry-preserved
loop-entry-preserved c =
    let h = history_in c.args.record.now in
    let es = c.as_slice-entries.result.now in
    let i = c.loop-entry.entry-index in
    let gs = c.loop-entry.gifts.items in
    let was = c.loop-entry.invariant.engine in
    let same = (c.as_slice-entries.ensures.value ∙ c.in_ok-copied.ensures.copied) in
    let below = c.loop-entry-test.true in
    let found = c.entry-item.is in
    let len = so_many h c.loop-entry.engine i es was same below in
    let asked = c.place_at-asked.result in
    let at : asked ≡ slice_get c.args.places.now (length gs) = search rules in
    record {
      engine = next_beginning h c.loop-entry.engine c.gift_made.new.engine i c.entry-item.result es was same below found c.in_ok-gift.ensures.engine;
      each = elim c.match-branch-4.branch [
        | in-Some+else-is_err w ↦ (
            let g = w.in-Some.gift in
            let pushed : c.match-branch-4.gifts.items ≡ gs ++ g ∷ [] = search rules in
            subst (All (IsGiftOf h)) (sym pushed)
            (All-push (IsGiftOf h) gs g c.loop-entry.invariant.each
            (made_there h c.loop-entry.engine i c.entry-item.result es g was same below found
            (one_next h c.loop-entry.engine i c.entry-item.result es was same below found) (search rules))))
        | in_default w ↦ (
            let stays : c.match-branch-4.gifts.items ≡ gs = search rules in
            subst (All (IsGiftOf h)) (sym stays) c.loop-entry.invariant.each)
      ];
      so_far = λ rises. elim c.match-branch-4.branch [
        | in-Some+else-is_err w ↦ (
            let g = w.in-Some.gift in
            let pushed : c.match-branch-4.gifts.items ≡ gs ++ g ∷ [] = search rules in
            subst (AreSoFar (i + 1) c.args.record.now.entries c.args.places.now) (sym pushed)
            (let here : asked ≡ Some (length c.loop-entry.engine.entries) = search rules in
            gives i _ _ gs g asked at (here ∙ ap (λ (n : ℕ). Some n) len) (placed h c.loop-entry.engine i c.entry-item.result es g was same below (search rules)) (c.loop-entry.invariant.so_far rises)))
        | in_default w ↦ (
            let stays : c.match-branch-4.gifts.items ≡ gs = search rules in
            subst (AreSoFar (i + 1) c.args.record.now.entries c.args.places.now) (sym stays)
            (let other : asked ≡ Some (length c.loop-entry.engine.entries) → ⊥ = search rules in
            passes i _ _ gs asked at (λ is. other (is ∙ ap (λ (n : ℕ). Some n) (sym len))) (c.loop-entry.invariant.so_far rises)))
      ];
    }

pub returns-clause-gifts : goal.returns-clause-gifts
returns-clause-gifts c = λ rises. record {
  places_are = all_given c.loop-entry.entry-index _ _ _ (let done = c.loop-entry-test.false in let same = ap length (c.as_slice-entries.ensures.value ∙ c.in_ok-copied.ensures.copied) in omega (arith, done, same)) (c.loop-entry.invariant.so_far rises);
  each = c.loop-entry.invariant.each;
}
