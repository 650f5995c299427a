-- Slots that are emptied one after the other, each said to be filled or not.
use Rattle.bd_driver.proofs.Words.{Bool, IsTrue, List, [], arith, false, refl, slice_index_or, slice_set, suc, zero, ℕ, ◌+◌, ◌<◌, ◌∷◌, ◌≡◌, ◌≤◌}

-- once the next one is emptied, those before it and it are empty
pub emptied : (l : List Bool) (at k : ℕ) → k < at + 1 → ((j : ℕ) → j < at → slice_index_or l j false ≡ false) → slice_index_or (slice_set l at false) k false ≡ false
emptied [] at k below before = refl
emptied (x ∷ xs) zero zero below before = refl
emptied (x ∷ xs) zero (suc k) below before = absurd (omega (arith, below))
emptied (x ∷ xs) (suc at) zero below before = before 0 (omega arith)
emptied (x ∷ xs) (suc at) (suc k) below before = emptied xs at k (omega (arith, below)) (λ j lower. before (suc j) (omega (arith, lower)))

-- those after it are as they were
pub left_after : (l : List Bool) (at k : ℕ) → at + 1 ≤ k → IsTrue (slice_index_or l k false) → IsTrue (slice_index_or (slice_set l at false) k false)
left_after [] at k above filled = filled
left_after (x ∷ xs) at zero above filled = absurd (omega (arith, above))
left_after (x ∷ xs) zero (suc k) above filled = filled
left_after (x ∷ xs) (suc at) (suc k) above filled = left_after xs at k (omega (arith, above)) filled
