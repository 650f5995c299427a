use Rattle.bd_deaths.proofs.Words.{DeathNotification, DeathsAre, List, Told, Work, arith, changed, false, get_or, is_some_and, is_told_of_death, length, list_any_more, refl, subst, sym, take, take_all, uses_none, uses_then, ℕ, ◌+◌, ◌<◌, ◌==◌, ◌||◌}
use Rattle.bd_deaths.proofs.Words.{◌∙◌, ◌≡◌}
use Rattle.bd_deaths.proofs.Tests.{none, same_tests, twice}
use Rattle.bd_space.specs.Todo.{death_of}
use Rattle.bd_deaths.proofs.table.DeathTable.read.Goals as goal

pub loop-w-init : goal.loop-w-init
loop-w-init c = record {
  so_far = λ xs h. subst (DeathsAre c.args.self.now) (sym (none (λ (x : DeathNotification). record x { phase = Told }) (λ x. false) xs (λ x. refl))) h;
  uses = uses_none c.args.self.now;
}

-- one more item
read-next : (ws : List Work) (k : ℕ) (d : Work) (xs : List DeathNotification) → k < length ws
    → changed (λ x. is_some_and (death_of (get_or ws k d).kind) (λ n. n == x.made)) (λ x. record x { phase = Told })
    (changed (is_told_of_death (take k ws)) (λ x. record x { phase = Told }) xs)
    ≡ changed (is_told_of_death (take (k + 1) ws)) (λ x. record x { phase = Told }) xs
read-next ws k d xs h =
    let told = λ (x : DeathNotification). record x { phase = Told } in
    let here = λ (x : DeathNotification). is_some_and (death_of (get_or ws k d).kind) (λ n. n == x.made) in
    twice told here (is_told_of_death (take k ws)) xs (λ x. refl) (λ x. refl)
    ∙ same_tests told (λ x. is_told_of_death (take k ws) x || here x) (is_told_of_death (take (k + 1) ws)) xs
    (λ x. sym (list_any_more (λ (w : Work). is_some_and (death_of w.kind) (λ n. n == x.made)) ws k d h))

pub loop-w-preserved : goal.loop-w-preserved
loop-w-preserved c = record {
  so_far = λ xs h.
      subst (DeathsAre c.read_one.new.self) (read-next c.args.taken.now c.loop-w.w-index _ xs c.loop-w-test.true) (c.read_one.ensures.stands _ (c.loop-w.invariant.so_far xs h));
  uses = uses_then c.loop-w.invariant.uses c.read_one.ensures.uses;
}

pub returns-clause-stands : goal.returns-clause-stands
returns-clause-stands c = λ l h.
    subst (λ ws. DeathsAre c.loop-w.self (changed (is_told_of_death ws) (λ x. record x { phase = Told }) l)) (take_all c.loop-w.w-index c.args.taken.now (omega arith)) (c.loop-w.invariant.so_far l h)
