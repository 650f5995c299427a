-- One object more of a count.
use Rattle.std.proofs.Common.{◌≡◌, ℕ, ◌+◌, ◌*◌, ◌<◌, ◌≤◌, Bool, true, false, List, [], ◌∷◌, length, drop, refl, ap, ◌∙◌, arith}
use Rattle.std.specs.Prelude.{if◌then◌else◌}
use Rattle.std.proofs.lemmas.List.{length-drop}
use Rattle.bd_uapi.specs.Bytes.{long_at}
use Rattle.bd_parcel.specs.Parcels.{offsets_in}
use Rattle.bd_parcel.proofs.Offsets.{offsets_more}
use Rattle.bd_wrapping.specs.Ways.{is_known, known_among}

front : (body offsets : List ℕ) (i o : ℕ) → 8 * i + 8 ≤ length offsets → o ≡ long_at (8 * i) offsets
    → known_among body (offsets_in (drop (8 * i) offsets)) ≡ (if is_known body o then 1 else 0) + known_among body (offsets_in (drop (8 * (i + 1)) offsets))
front body offsets i o le is =
    let next : offsets_in (drop (8 * i) offsets) ≡ o ∷ offsets_in (drop (8 * (i + 1)) offsets) = offsets_more i offsets le ∙ rw (← is) refl in
    ap (λ (os : List ℕ). known_among body os) next

pub one_more : (body offsets : List ℕ) (i o more count total : ℕ) → 8 * i + 8 ≤ length offsets → o ≡ long_at (8 * i) offsets → more ≡ (if is_known body o then 1 else 0)
    → count + known_among body (offsets_in (drop (8 * i) offsets)) ≡ total → count + more + known_among body (offsets_in (drop (8 * (i + 1)) offsets)) ≡ total
one_more body offsets i o more count total le is one so_far =
    let step = front body offsets i o le is in
    omega (arith, step, one, so_far)

-- fewer than eight bytes are no offset
none_short : (body xs : List ℕ) → length xs < 8 → known_among body (offsets_in xs) ≡ 0
none_short body [] lt = refl
none_short body (a ∷ []) lt = refl
none_short body (a ∷ b ∷ []) lt = refl
none_short body (a ∷ b ∷ c ∷ []) lt = refl
none_short body (a ∷ b ∷ c ∷ d ∷ []) lt = refl
none_short body (a ∷ b ∷ c ∷ d ∷ e ∷ []) lt = refl
none_short body (a ∷ b ∷ c ∷ d ∷ e ∷ f ∷ []) lt = refl
none_short body (a ∷ b ∷ c ∷ d ∷ e ∷ f ∷ g ∷ []) lt = refl
none_short body (a ∷ b ∷ c ∷ d ∷ e ∷ f ∷ g ∷ h ∷ xs) lt = absurd (omega arith)

pub none_left : (body offsets : List ℕ) (i count total : ℕ) → length offsets < 8 * i + 8 → count + known_among body (offsets_in (drop (8 * i) offsets)) ≡ total → count ≡ total
none_left body offsets i count total lt so_far =
    let none = none_short body (drop (8 * i) offsets) (omega (arith, length-drop (8 * i) offsets)) in
    omega (arith, none, so_far)

pub at_most_one : (b : Bool) → (if b then 1 else 0) ≤ 1
at_most_one true = omega arith
at_most_one false = omega arith
