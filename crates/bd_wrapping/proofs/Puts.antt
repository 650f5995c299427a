-- A trailer that was put is found again.
use Rattle.std.proofs.Common.{◌≡◌, ℕ, ◌+◌, ◌-◌, ◌≤◌, Bool, true, false, List, ◌++◌, length, take, drop, replicate, Some, refl, sym, ap, ◌∙◌, length-append, append_assoc, arith}
use Rattle.std.specs.Prelude.{nat_le, ◌&&◌}
use Rattle.std.proofs.lemmas.Bool.{leb-true}
use Rattle.std.proofs.lemmas.List.{length-take-le, length-replicate, take_at, drop_at}
use Rattle.bd_wrapping.specs.declared.trailer.Trailer.{Trailer}
use Rattle.bd_wrapping.specs.Trailers.{is_small, wrapped, wrapped_size, trailer_bytes, PutTrailersAreFoundAgain}
use Rattle.bd_wrapping.proofs.Founds.{found_again as trailer_found}

room : (a b c : Bool) → (a && b && c) ≡ true → (b ≡ true) × (c ≡ true)
room true true true e = (refl, refl)
room true true false e = absurd cc
room true false c e = absurd cc
room false b c e = absurd cc

-- what lies between two places
between : (n m : ℕ) (before tail behind : List ℕ) → length before ≡ n → length tail + n ≡ m → drop n (take m (before ++ (tail ++ behind))) ≡ tail
between n m before tail behind begins ends =
    let all : before ++ (tail ++ behind) ≡ (before ++ tail) ++ behind = sym (append_assoc before tail behind) in
    let here : take m ((before ++ tail) ++ behind) ≡ before ++ tail = take_at (before ++ tail) behind m (omega (arith, length-append before tail, begins, ends)) in
    ap (λ (xs : List ℕ). drop n (take m xs)) all ∙ ap (drop n) here ∙ drop_at before tail n begins

size_of : (t : Trailer) → length (trailer_bytes t) ≡ 48
size_of t = refl

put_there : (laid : ℕ) (t : Trailer) (old : List ℕ) → laid ≤ wrapped_size t → wrapped_size t + 48 ≤ length old
    → drop (wrapped_size t) (take (wrapped_size t + 48) (wrapped laid t old)) ≡ trailer_bytes t
put_there laid t old le fit =
    let n = wrapped_size t in
    let zeros : List ℕ = replicate (n - laid) 0 in
    let size : length zeros ≡ n - laid = length-replicate (n - laid) 0 in
    let front = take laid old ++ zeros in
    let behind = drop (n + 48) old in
    let begins : length front ≡ n = omega (arith, length-append (take laid old) zeros, length-take-le laid old (omega (arith, le, fit)), size, le) in
    let same : wrapped laid t old ≡ front ++ (trailer_bytes t ++ behind) = append_assoc front (trailer_bytes t) behind in
    ap (λ (xs : List ℕ). drop n (take (n + 48) xs)) same ∙ between n (n + 48) front (trailer_bytes t) behind begins (omega (arith, size_of t))

pub found_again : PutTrailersAreFoundAgain
found_again laid n t old new front offsets h put len clear =
    let w = wrapped_size t in
    let fits = room (is_small t) (nat_le laid w) (nat_le (w + 48) (length old)) put.0 in
    let there = put_there laid t old (leb-true laid w fits.0) (leb-true (w + 48) (length old) fits.1) in
    let back : n - 48 ≡ w = omega (arith, put.1) in
    let tail : drop (n - 48) (take n new) ≡ trailer_bytes t = rw (back, put.1, put.2) there in
    rw tail (trailer_found t front offsets h clear)
