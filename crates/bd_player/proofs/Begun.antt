-- What is read into the rest of a slice stands behind what was read before.
use Rattle.std.proofs.Common.{◌≡◌, ℕ, ◌+◌, ◌-◌, ◌≤◌, List, ◌++◌, Option, arith, length, take, slice_range, sym, ap, ◌∙◌, subst, le_refl, drop_at, length-take-le}
use Rattle.std.proofs.lemmas.Slice.{take-put_mid_below}
use Rattle.std.specs.Io.KnownBytes.{Consumes, Keeps}
use Rattle.std.proofs.KnownBytes.{Consumes-trans, Consumes-kept}
use borrow.Rule.Slice.PartMut.{put_mid, post_of}
use lib.Seq.{take-add, take-append-le}

take_split : (a b : ℕ) (old new : List ℕ) → a ≤ b → take a new ≡ take a old → take a old ++ slice_range new a b ≡ take b new
take_split a b old new h front =
    let same : a + (b - a) ≡ b = omega arith in
    ap (λ l. l ++ slice_range new a b) (sym front) ∙ sym (take-add a (b - a) new) ∙ ap (λ n. take n new) same

read_there : (a k n : ℕ) (xs ys : List ℕ) → a ≤ length xs → n ≤ length ys → slice_range (put_mid a k xs ys) a (a + n) ≡ take n ys
read_there a k n xs ys within fits =
    let same : (a + n) - a ≡ n = omega arith in
    let after = post_of a k xs in
    ap (take ((a + n) - a)) (drop_at (take a xs) (ys ++ after) a (length-take-le a xs within)) ∙ ap (λ m. take m (ys ++ after)) same ∙ take-append-le n ys after fits

pub reads_on : (start before now : Option (List ℕ)) (from n at k : ℕ) (xs ys : List ℕ) → from ≤ length xs → n ≤ length ys → at ≡ from + n → Consumes start before (take from xs) → Consumes before now (take n ys)
    → Consumes start now (take at (put_mid from k xs ys))
reads_on start before now from n at k xs ys within fits is first more =
    let joined = take_split from (from + n) xs (put_mid from k xs ys) (omega arith) (take-put_mid_below _ _ _ _ _ (le_refl _) within) in
    subst (λ (i : ℕ). Consumes start now (take i (put_mid from k xs ys))) (sym is)
    (subst (Consumes start now) (ap (λ l. take from xs ++ l) (sym (read_there from k n xs ys within fits)) ∙ joined) (Consumes-trans _ _ _ _ _ first more))

pub reads_nothing : (start before now : Option (List ℕ)) (from at k : ℕ) (xs ys : List ℕ) → from ≤ length xs → at ≡ from → Consumes start before (take from xs) → Keeps before now
    → Consumes start now (take at (put_mid from k xs ys))
reads_nothing start before now from at k xs ys within is first kept =
    subst (λ (i : ℕ). Consumes start now (take i (put_mid from k xs ys))) (sym is)
    (subst (Consumes start now) (sym (take-put_mid_below _ _ _ _ _ (le_refl _) within)) (Consumes-kept _ _ _ _ first kept))
