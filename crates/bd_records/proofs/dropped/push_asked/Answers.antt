use Rattle.bd_records.proofs.Words.{Identity, None, Some, ap, arith, asks, both_ways, is_among, is_named_at, named_by, same_self, subst, sym, true, value_at, ◌<◌, ◌∙◌, ◌≡◌}
use Rattle.bd_records.proofs.{Dropping.{asks_named}, Stepping.{IsBefore, ahead_less, before_more, is_before, not_shown, still_ahead}}
use Rattle.bd_records.proofs.dropped.push_asked.Goals as goal

pub loop-next-init : goal.loop-next-init
loop-next-init c =
    let rows = c.args.names.now.rows in
    let p = c.args.p in
    record {
      kept = λ x e. e;
      put = λ m is x shown q. not_shown (value_at rows p m) x (is_before (value_at rows p) 0 c.next-next.result c.next-next.ensures.none c.next-next.ensures.before m (omega arith) is) shown;
      only = λ x e. grind (arith, e);
    }

pub loop-next-preserved : goal.loop-next-preserved
loop-next-preserved c =
    let t = c.args.names.now in
    let p = c.args.p in
    let n = c.in-Some.n in
    let e = c.in_ok-push_asked_at.ensures.pushed in
    let inv = c.loop-next.invariant in
    let new = c.push_asked_at.new.touched.items in
    record {
      kept = λ x h. grind (arith, e x, inv.kept x h);
      put = before_more (value_at t.rows p) (λ m. (x : Identity) → named_by t p m ≡ Some x → asks t p x ≡ true → is_among new x ≡ true)
          (λ m none x shown q. not_shown (value_at t.rows p m) x none shown) n c.next_above-next.result
          (λ m lt x shown q. (let k = inv.put m (subst (λ o. IsBefore o m) (sym c.in-Some.is) lt) x shown q in grind (arith, e x, k)))
          (λ x shown q. (let k : is_named_at (named_by t p n) x ≡ true = ap (λ w. is_named_at w x) shown ∙ same_self x in grind (arith, e x, k, q)))
          c.next_above-next.ensures.none c.next_above-next.ensures.before;
      only = λ x h. (let k = inv.only x in grind (arith, e x, h, k));
    }

pub loop-next-smaller : goal.loop-next-smaller
loop-next-smaller c = subst (λ o. still_ahead c.next_above-next.result < still_ahead o) (sym c.in-Some.is) (ahead_less c.in-Some.n c.next_above-next.result (omega arith) c.next_above-next.ensures.from)

pub returns-clause-pushed : goal.returns-clause-pushed
returns-clause-pushed c = λ x.
    let t = c.args.names.now in
    let p = c.args.p in
    let inv = c.loop-next.invariant in
    let end : c.loop-next.next ≡ None = grind (arith, c.in_default.not-Some) in
    let there : asks t p x ≡ true → is_among c.loop-next.touched.items x ≡ true =
    (λ q. (let k = asks_named t p x q in let s = k.2 in inv.put k.0 (subst (λ o. IsBefore o k.0) (sym end) (omega (arith, s))) x k.1 q)) in
    both_ways _ _ (inv.only x) (λ h. (let a = inv.kept x in grind (arith, h, a, there)))
