-- One object more of a parcel.
use Rattle.std.proofs.Common.{◌≡◌, ℕ, ◌+◌, ◌*◌, ◌<◌, ◌≤◌, List, [], ◌∷◌, length, drop, refl, sym, ap, ◌∙◌, arith}
use Rattle.std.proofs.lemmas.List.{length-drop}
use Rattle.bd_uapi.specs.Bytes.{long_at}
use Rattle.bd_parcel.specs.Parcels.{offsets_in}
use Rattle.bd_parcel.proofs.Offsets.{offsets_more}
use Rattle.bd_sendings.specs.declared.sent.{Sent.{Sent}, Sending.{Sending}}
use Rattle.bd_sendings.specs.Sendings.{sent_at, sent_among}

pub one_more : (s : Sending) (body offsets : List ℕ) (i o : ℕ) (known more total : List Sent) → 8 * i + 8 ≤ length offsets → o ≡ long_at (8 * i) offsets
    → more ≡ sent_at s body o known → sent_among s body (offsets_in (drop (8 * i) offsets)) known ≡ total
    → sent_among s body (offsets_in (drop (8 * (i + 1)) offsets)) more ≡ total
one_more s body offsets i o known more total le is one so_far =
    let next : offsets_in (drop (8 * i) offsets) ≡ o ∷ offsets_in (drop (8 * (i + 1)) offsets) = offsets_more i offsets le ∙ rw (← is) refl in
    ap (sent_among s body (offsets_in (drop (8 * (i + 1)) offsets))) one ∙ ap (λ (os : List ℕ). sent_among s body os known) (sym next) ∙ so_far

-- fewer than eight bytes are no offset
none_short : (xs : List ℕ) → length xs < 8 → offsets_in xs ≡ []
none_short [] lt = refl
none_short (a ∷ []) lt = refl
none_short (a ∷ b ∷ []) lt = refl
none_short (a ∷ b ∷ c ∷ []) lt = refl
none_short (a ∷ b ∷ c ∷ d ∷ []) lt = refl
none_short (a ∷ b ∷ c ∷ d ∷ e ∷ []) lt = refl
none_short (a ∷ b ∷ c ∷ d ∷ e ∷ f ∷ []) lt = refl
none_short (a ∷ b ∷ c ∷ d ∷ e ∷ f ∷ g ∷ []) lt = refl
none_short (a ∷ b ∷ c ∷ d ∷ e ∷ f ∷ g ∷ h ∷ xs) lt = absurd (omega arith)

pub none_left : (s : Sending) (body offsets : List ℕ) (i : ℕ) (known total : List Sent) → length offsets < 8 * i + 8
    → sent_among s body (offsets_in (drop (8 * i) offsets)) known ≡ total → known ≡ total
none_left s body offsets i known total lt so_far =
    let none = none_short (drop (8 * i) offsets) (omega (arith, length-drop (8 * i) offsets)) in
    ap (λ (os : List ℕ). sent_among s body os known) (sym none) ∙ so_far
