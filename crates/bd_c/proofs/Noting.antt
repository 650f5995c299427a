-- Notes of seats, where some weren't looked at yet.
use Rattle.std.proofs.Common.{◌≡◌, ℕ, zero, suc, ◌<◌, ◌≤◌, Bool, false, cond, List, [], ◌∷◌, ◌++◌, length, get_or, take, replicate, refl, ap, sym, subst, ◌∙◌, arith}
use Rattle.std.specs.Prelude.{◌==◌, All, count_by}
use Rattle.bd_space.specs.Histories.{History, space_after, is_ready}
use Rattle.bd_engine.specs.Readiness.{has_seat, flipped}
use Rattle.bd_c.specs.declared.live.OwnedLive.{OwnedLive}
use Rattle.bd_c.specs.LivePolls.{AreNoted}

all_false : (m k : ℕ) → get_or (replicate m false) k false ≡ false
all_false zero k = refl
all_false (suc m) zero = refl
all_false (suc m) (suc k) = all_false m k

-- a list that is cut to n, or filled up with false, has what it had below n
resized_same : (n m : ℕ) (bs : List Bool) (k : ℕ) → k < n → get_or (take n bs ++ replicate m false) k false ≡ get_or bs k false
resized_same zero m bs k lt = absurd (omega (arith, lt))
resized_same (suc n) m [] k lt = all_false m k
resized_same (suc n) m (b ∷ bs) zero lt = refl
resized_same (suc n) m (b ∷ bs) (suc k) lt = resized_same n m bs k (omega (arith, lt))

-- seats that were noted in such a list
pub polled : (h : History) (x y : OwnedLive) (seats : List ℕ) (mid new : List Bool) (changed : List ℕ) (m : ℕ) → mid ≡ take x.bridge.engine.live.seats x.noted.items ++ replicate m false → x.bridge.engine.live.seats ≡ length mid
    → y.noted.items ≡ new → y.changed.items ≡ changed
    → ((seat : ℕ) → seat < length mid → get_or new seat false ≡ cond (has_seat seats seat) (is_ready (space_after h) seat) (get_or mid seat false))
    → ((seat : ℕ) → seat < length mid → has_seat changed seat ≡ flipped (get_or mid seat false) (get_or new seat false))
    → ((seat : ℕ) → seat < length mid → count_by (λ v. v == seat) changed ≤ 1) → All (λ v. v < length mid) changed → AreNoted h x y seats
polled h x y seats mid new changed m is all new_is changed_is seen listed once inside = record {
  noted = λ seat lt. ap (λ bs. get_or bs seat false) new_is ∙ seen seat (omega (arith, lt, all)) ∙ ap (λ b. cond (has_seat seats seat) (is_ready (space_after h) seat) b) (same seat lt);
  changed = λ seat lt.
      ap (λ ss. has_seat ss seat) changed_is ∙ listed seat (omega (arith, lt, all)) ∙ ap (λ b. flipped b (get_or new seat false)) (same seat lt)
      ∙ ap (λ bs. flipped (get_or x.noted.items seat false) (get_or bs seat false)) (sym new_is);
  once = λ seat lt. subst (λ ss. count_by (λ v. v == seat) ss ≤ 1) (sym changed_is) (once seat (omega (arith, lt, all)));
  inside = subst (λ ss. All (λ v. v < x.bridge.engine.live.seats) ss) (sym changed_is)
      (subst (λ n. All (λ v. v < n) changed) (sym all) inside);
}
  where
    same : (seat : ℕ) → seat < x.bridge.engine.live.seats → get_or mid seat false ≡ get_or x.noted.items seat false
    same seat lt = ap (λ bs. get_or bs seat false) is ∙ resized_same x.bridge.engine.live.seats m x.noted.items seat lt
