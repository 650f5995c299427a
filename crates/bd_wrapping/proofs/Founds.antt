-- Trailers that are found again.
use Rattle.std.proofs.Common.{◌≡◌, ℕ, ◌+◌, ◌-◌, ◌*◌, ◌/◌, ◌%◌, ◌^◌, lit<, Bool, true, false, List, [], ◌++◌, length, drop, Option, Some, None, refl, sym, ap, ◌∙◌, length-append, le-leb, arith}
use Rattle.std.specs.Prelude.{nat_le, ◌==◌, ◌&&◌, if◌then◌else◌}
use Rattle.std.proofs.lemmas.List.{drop-drop}
use Rattle.std.proofs.Transfers.{drop-appended}
use Rattle.bd_uapi.specs.Bytes.{word_at, long_at}
use Rattle.bd_uapi.proofs.Pieces.{word_again, long_again}
use Rattle.bd_wrapping.specs.declared.trailer.Trailer.{Trailer}
use Rattle.bd_wrapping.specs.Trailers.{IsTrailer, trailer_bytes, trailer_at, trailer_in, is_clear, mark, TrailersAreFoundAgain, TrailersStandBehindAllObjects}

shift : (i j : ℕ) (bytes : List ℕ) → (word_at (i + j) bytes ≡ word_at j (drop i bytes)) × (long_at (i + j) bytes ≡ long_at j (drop i bytes))
unfolding word_at long_at
shift i j bytes = (rw (drop-drop j i bytes) refl, rw (drop-drop j i bytes) refl)

front_long : (i : ℕ) (bytes : List ℕ) → long_at i bytes ≡ long_at 0 (drop i bytes)
unfolding long_at
front_long i bytes = refl

-- what is told of a trailer at a place, by the bytes from there on
moved : (i : ℕ) (bytes tail : List ℕ) → drop i bytes ≡ tail → trailer_at i bytes ≡ trailer_at 0 tail
moved i bytes tail is =
    rw (front_long i bytes, (shift i 8 bytes).1, (shift i 16 bytes).1, (shift i 24 bytes).0, (shift i 28 bytes).0, (shift i 32 bytes).0, (shift i 36 bytes).0, is) refl

-- whether there is one, by what stands last
told : ℕ → List ℕ → List ℕ → Option Trailer
told n tail offsets = if (long_at 40 tail == mark) && is_clear offsets n then Some (trailer_at 0 tail) else None

chosen : (a b c b' c' : Bool) (x y : Option Trailer) → a ≡ true → b ≡ b' → c ≡ c' → x ≡ y → (if a && b && c then x else None) ≡ (if b' && c' then y else None)
chosen true b c b' c' x y h p q e = rw (p, q, e) refl
chosen false b c b' c' x y h p q e = absurd cc

by_tail : (front tail offsets : List ℕ) → length tail ≡ 48 → trailer_in (front ++ tail) offsets ≡ told (length front) tail offsets
unfolding told long_at
by_tail front tail offsets n =
    let all : length (front ++ tail) ≡ length front + 48 = omega (arith, length-append front tail, n) in
    let at : length (front ++ tail) - 48 ≡ length front = omega (arith, all) in
    let back : drop (length front) (front ++ tail) ≡ tail = drop-appended front (front ++ tail) tail refl in
    let long_enough : nat_le 48 (length (front ++ tail)) ≡ true = le-leb 48 (length (front ++ tail)) (omega (arith, all)) in
    let marked : long_at (length front + 40) (front ++ tail) ≡ long_at 40 tail = (shift (length front) 40 (front ++ tail)).1 ∙ ap (long_at 40) back in
    chosen (nat_le 48 (length (front ++ tail))) (long_at (length (front ++ tail) - 48 + 40) (front ++ tail) == mark) (is_clear offsets (length (front ++ tail) - 48)) (long_at 40 tail == mark)
    (is_clear offsets (length front)) (Some (trailer_at (length (front ++ tail) - 48) (front ++ tail))) (Some (trailer_at 0 tail))
    long_enough (rw (at, marked) refl) (rw at refl) (rw at (ap Some (moved (length front) (front ++ tail) tail back)))

step_again : (n : ℕ) → n % 2 ^ 32 + n / 2 ^ 32 * 2 ^ 32 ≡ n
step_again n = omega arith

trailer_again : (t : Trailer) → IsTrailer t → trailer_at 0 (trailer_bytes t) ≡ t
unfolding word_at long_at
trailer_again t h =
    rw (
      long_again t.body _ h.body,
      long_again t.offsets _ h.offsets,
      long_again t.buffers _ h.buffers,
      word_again (t.step % 2 ^ 32) _ (omega arith),
      word_again t.descriptors _ h.descriptors,
      word_again t.euid _ h.euid,
      word_again (t.step / 2 ^ 32) _ (omega (arith, h.step)),
      step_again t.step,
    ) refl

mark_again : (t : Trailer) → long_at 40 (trailer_bytes t) ≡ mark
unfolding long_at
mark_again t = long_again mark [] (lit< tt)

size_of : (t : Trailer) → length (trailer_bytes t) ≡ 48
size_of t = refl

picked : (b c : Bool) (x y : Option Trailer) → b ≡ true → c ≡ true → x ≡ y → (if b && c then x else None) ≡ y
picked true true x y p q e = e
picked true false x y p q e = absurd cc
picked false c x y p q e = absurd cc

told_again : (t : Trailer) (n : ℕ) (offsets : List ℕ) → IsTrailer t → is_clear offsets n ≡ true → told n (trailer_bytes t) offsets ≡ Some t
unfolding told
told_again t n offsets h clear =
    picked (long_at 40 (trailer_bytes t) == mark) (is_clear offsets n) (Some (trailer_at 0 (trailer_bytes t))) (Some t) (rw (mark_again t) refl) clear (ap Some (trailer_again t h))

pub found_again : TrailersAreFoundAgain
found_again t front offsets h clear = by_tail front (trailer_bytes t) offsets (size_of t) ∙ told_again t (length front) offsets h clear

pub stand_behind : TrailersStandBehindAllObjects
stand_behind before after tail offsets same n =
    by_tail before tail offsets n ∙ ap (λ (m : ℕ). told m tail offsets) same ∙ sym (by_tail after tail offsets n)
