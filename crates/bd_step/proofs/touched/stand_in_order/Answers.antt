use Rattle.bd_step.proofs.Words.{Bool, Identity, IsAllAdjacentAnswer, List, NotLater, Pairs, answers_always, false, is_earlier, not, refl, rules, sorted_in_order, true, ◌≡◌}
use Rattle.bd_step.proofs.touched.stand_in_order.Goals as goal

unlike : (b : Bool) → true ≡ not b → b ≡ false
unlike true h = absurd (cc)
unlike false h = refl

ordered : (os : List Identity) (r : Bool) → IsAllAdjacentAnswer (λ x y b. b ≡ not (is_earlier y x)) os r → r ≡ true → Pairs NotLater os
ordered os true pairs is = sorted_in_order os (λ k d low lt. unlike _ (pairs k d lt))
ordered os false pairs is = absurd (cc)

pub returns : goal.returns
returns c = ordered c.args.objects.now _ (c.is_sorted_by.ensures.cases (λ x y. not (is_earlier y x)) (answers_always _ _ _ (λ f a r g called. search rules)))
