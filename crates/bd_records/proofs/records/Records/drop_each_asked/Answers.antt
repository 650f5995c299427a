use Rattle.bd_records.proofs.Words.{Identity, None, RecordsAre, Some, arith, false, list_any, named_by, refl, subst, sym, value_at, ◌<◌, ◌∙◌, ◌≡◌}
use Rattle.bd_records.proofs.{AskedFor.{all_unasked, asked_by, nothing_asked_for, now_unasked, others_stay, still_unasked, unnamed}, Forgetting.{asked_to}, Given.{uses_nothing}, Lists.{nothing_goes}, Stepping.{IsBefore, ahead_less, before_more, is_before, not_shown, still_ahead}}
use Rattle.bd_records.proofs.records.Records.drop_each_asked.Goals as goal

pub loop-next-init : goal.loop-next-init
loop-next-init c =
    let rows = c.args.self.now.names.rows in
    let p = c.args.p in
    record {
      going = λ objects before h. (
        before,
        h,
        refl,
        λ m is o shown. not_shown (value_at rows p m) o (is_before (value_at rows p) 0 c.next-next.result c.next-next.ensures.none c.next-next.ensures.before m (omega arith) is) shown,
      );
      settled = λ names s. s;
      uses = record { objects_fit = omega arith; references_fit = omega arith; names_fit = λ q. omega arith };
    }

pub loop-next-preserved : goal.loop-next-preserved
loop-next-preserved c =
    let p = c.args.p in
    let n = c.in-Some.n in
    let t = c.loop-next.self in
    let u = c.drop_asked_at.new.self in
    record {
      going = λ objects before h.
          let g = c.loop-next.invariant.going objects before h in
          let mid = g.0 in
          let left = unnamed p (named_by t.names p n) mid in (
            left,
            c.drop_asked_at.ensures.stands objects mid g.1,
            others_stay p (named_by t.names p n) mid ∙ g.2,
            before_more (value_at u.names.rows p) (λ m. (o : Identity) → named_by u.names p m ≡ Some o → list_any (asked_to p o) left ≡ false)
                (λ m none o shown. not_shown (value_at u.names.rows p m) o none shown) n c.next_above-next.result
                (λ m lt o shown. still_unasked p o (named_by t.names p n) mid (g.3 m (subst (λ k. IsBefore k m) (sym c.in-Some.is) lt) o (sym (c.drop_asked_at.ensures.named p m) ∙ shown)))
                (λ o shown. now_unasked p o (named_by t.names p n) mid (sym (c.drop_asked_at.ensures.named p n) ∙ shown))
                c.next_above-next.ensures.none c.next_above-next.ensures.before,
          );
      settled = λ names s. c.drop_asked_at.ensures.settled names (c.loop-next.invariant.settled names s);
      uses = uses_nothing _ _ _ c.loop-next.invariant.uses c.drop_asked_at.ensures.uses;
    }

pub loop-next-smaller : goal.loop-next-smaller
loop-next-smaller c = subst (λ o. still_ahead c.next_above-next.result < still_ahead o) (sym c.in-Some.is) (ahead_less c.in-Some.n c.next_above-next.result (omega arith) c.next_above-next.ensures.from)

pub returns-clause-stands : goal.returns-clause-stands
returns-clause-stands c = λ objects l h.
    let p = c.args.p in
    let t = c.loop-next.self in
    let g = c.loop-next.invariant.going objects l h in
    let end : c.loop-next.next ≡ None = grind (arith, c.in_default.not-Some) in
    let none = all_unasked p g.0 (nothing_asked_for t objects g.0 p g.1 (λ m small o shown. g.3 m (subst (λ k. IsBefore k m) (sym end) small) o shown)) in
    subst (RecordsAre t objects) (sym (nothing_goes (asked_by p) g.0 none) ∙ g.2) g.1
