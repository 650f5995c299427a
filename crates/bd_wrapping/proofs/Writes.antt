-- A trailer behind zeros.
use Rattle.std.proofs.Common.{◌≡◌, ℕ, ◌+◌, ◌-◌, ◌≤◌, List, ◌++◌, length, take, drop, replicate, sym, ap, subst, ◌∙◌, append_assoc, refl, arith}
use Rattle.std.proofs.lemmas.List.{length-replicate}
use Rattle.bd_parcel.proofs.Writes.{side_by_side}
use Rattle.bd_wrapping.specs.declared.trailer.Trailer.{Trailer}
use Rattle.bd_wrapping.specs.Trailers.{trailer_bytes, wrapped_size, wrapped}

behind : (laid k : ℕ) (old mid new tail : List ℕ) → laid + k ≤ length old → length tail ≡ 48 → mid ≡ take laid old ++ replicate k 0 ++ drop (laid + k) old
    → new ≡ take (laid + k) mid ++ tail ++ drop (laid + k + 48) mid → new ≡ take laid old ++ replicate k 0 ++ tail ++ drop (laid + k + 48) old
behind laid k old mid new tail le n first second =
    let beside = side_by_side laid k 48 old mid new (replicate k 0) tail (length-replicate k 0) n le first second in
    let same : laid + (k + 48) ≡ laid + k + 48 = omega arith in
    beside ∙ rw same (ap (λ (xs : List ℕ). xs ++ drop (laid + k + 48) old) (sym (append_assoc (take laid old) (replicate k 0) tail)))

pub wrapped_by : (laid n : ℕ) (t : Trailer) (old mid new : List ℕ) → n ≡ wrapped_size t → laid ≤ n → n ≤ length old → mid ≡ take laid old ++ replicate (n - laid) 0 ++ drop n old
    → new ≡ take n mid ++ trailer_bytes t ++ drop (n + 48) mid → new ≡ wrapped laid t old
wrapped_by laid n t old mid new is le room first second =
    let back : laid + (n - laid) ≡ n = omega arith in
    let all = subst (λ (m : ℕ). mid ≡ take laid old ++ replicate (n - laid) 0 ++ drop m old → new ≡ take m mid ++ trailer_bytes t ++ drop (m + 48) mid
    → new ≡ take laid old ++ replicate (n - laid) 0 ++ trailer_bytes t ++ drop (m + 48) old) back
    (behind laid (n - laid) old mid new (trailer_bytes t) (omega arith) refl) first second in
    rw is at all
