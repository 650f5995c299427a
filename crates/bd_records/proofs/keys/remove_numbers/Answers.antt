use Rattle.bd_records.proofs.Words.{Identity, None, Some, arith, number_at, refl, subst, sym, value_at, ◌<◌, ◌∙◌, ◌≡◌}
use Rattle.bd_records.proofs.Stepping.{IsBefore, ahead_less, before_more, is_before, not_shown, still_ahead}
use Rattle.bd_records.specs.NameRows.{object_in}
use Rattle.bd_records.proofs.keys.remove_numbers.Goals as goal

pub loop-next-init : goal.loop-next-init
loop-next-init c =
    let rows = c.args.rows.now in
    let p = c.args.p in
    record {
      gone = λ m is x shown. not_shown (value_at rows p m) x (is_before (value_at rows p) 0 c.next-next.result c.next-next.ensures.none c.next-next.ensures.before m (omega arith) is) shown;
      still = λ x e. e;
      rest = λ q x off. refl;
      room = omega arith;
    }

pub loop-next-preserved : goal.loop-next-preserved
loop-next-preserved c =
    let rows = c.args.rows.now in
    let p = c.args.p in
    let n = c.in-Some.n in
    let numbers = c.remove_at.new.numbers in
    record {
      gone = before_more (value_at rows p) (λ m. (x : Identity) → object_in rows p m ≡ Some x → number_at numbers p x ≡ None) (λ m none x shown. not_shown (value_at rows p m) x none shown) n c.next_above-next.result
          (λ m lt x shown. c.remove_at.ensures.still x (c.loop-next.invariant.gone m (subst (λ o. IsBefore o m) (sym c.in-Some.is) lt) x shown))
          c.remove_at.ensures.gone c.next_above-next.ensures.none c.next_above-next.ensures.before;
      still = λ x e. c.remove_at.ensures.still x (c.loop-next.invariant.still x e);
      rest = λ q x off. c.remove_at.ensures.rest q x off ∙ c.loop-next.invariant.rest q x off;
      room = omega (arith, c.loop-next.invariant.room, c.remove_at.ensures.uses);
    }

pub loop-next-smaller : goal.loop-next-smaller
loop-next-smaller c = subst (λ o. still_ahead c.next_above-next.result < still_ahead o) (sym c.in-Some.is) (ahead_less c.in-Some.n c.next_above-next.result (omega arith) c.next_above-next.ensures.from)

pub returns-clause-gone : goal.returns-clause-gone
returns-clause-gone c = λ m x small shown.
    let none : c.loop-next.next ≡ None = grind (arith, c.in_default.not-Some) in
    c.loop-next.invariant.gone m (subst (λ o. IsBefore o m) (sym none) small) x shown
