-- The returns of a stream, read one after the other.
use Rattle.std.proofs.Common.{◌≡◌, ◌≤◌, ◌-◌, ℕ, zero, suc, List, [], ◌∷◌, length, take, drop, length-drop, Result, Ok, Err, refl, sym, ap, ◌∙◌, arith}
use Rattle.std.proofs.lemmas.List.{take_rest}
use Rattle.bd_uapi.specs.declared.command.Return.{Return}
use Rattle.bd_uapi.specs.declared.fault.Fault.{Fault}
use Rattle.bd_uapi.proofs.Pieces.{IsBytes, IsBytes_drop}
use Rattle.bd_codec.specs.Spelling.{return_bytes}
use Rattle.bd_codec.specs.Reading.{return_at}
use Rattle.bd_codec.proofs.ReturnRows.{return_found}
use Rattle.bd_player.specs.Streams.{next_of, returns_to, returns_in}

-- a return's spelling has a byte
has_a_byte : (r : Return) (bytes : List ℕ) (len : ℕ) → take len bytes ≡ return_bytes r → 1 ≤ len
has_a_byte r bytes zero e = absurd (cc)
has_a_byte r bytes (suc n) e = omega arith

-- Two bounds give the same returns of a stream, if they give the same behind whatever is read first.
same_behind : (n m : ℕ) (bytes : List ℕ) (read : Result (Return × ℕ) Fault) → IsBytes bytes → read ≡ return_at bytes
    → ((len : ℕ) → 1 ≤ len → returns_to n (drop len bytes) ≡ returns_to m (drop len bytes))
    → next_of (λ len. returns_to n (drop len bytes)) read ≡ next_of (λ len. returns_to m (drop len bytes)) read
same_behind n m bytes (Ok (r, len)) h e behind = ap (λ (rs : List Return). r ∷ rs) (behind len (has_a_byte r bytes len (return_found bytes (Ok (r, len)) h e).spelled))
same_behind n m bytes (Err f) h e behind = refl

-- where as many are read as there are bytes, it counts for nothing how many more
enough : (n m : ℕ) (bytes : List ℕ) → IsBytes bytes → length bytes ≤ n → length bytes ≤ m → returns_to n bytes ≡ returns_to m bytes
enough zero zero bytes h a b = refl
enough zero (suc m) [] h a b = refl
enough zero (suc m) (x ∷ xs) h a b = absurd (omega (arith, a))
enough (suc n) zero [] h a b = refl
enough (suc n) zero (x ∷ xs) h a b = absurd (omega (arith, b))
enough (suc n) (suc m) bytes h a b =
    same_behind n m bytes (return_at bytes) h refl
    (λ len some. let l = length-drop len bytes in enough n m (drop len bytes) (IsBytes_drop len bytes h) (omega (arith, l, a, some)) (omega (arith, l, b, some)))

-- one is read, and those behind it are left
pub one_read : (bytes : List ℕ) (r : Return) (len : ℕ) → IsBytes bytes → return_at bytes ≡ Ok (r, len)
    → returns_in bytes ≡ r ∷ returns_in (take (length bytes - len) (drop len bytes))
one_read [] r len h e = absurd (cc)
one_read (x ∷ xs) r len h e =
    let bytes : List ℕ = x ∷ xs in
    let l = length-drop len bytes in
    let some = has_a_byte r bytes len (return_found bytes (Ok (r, len)) h (sym e)).spelled in
    ap (next_of (λ k. returns_to (length xs) (drop k bytes))) e
    ∙ (ap (λ (rs : List Return). r ∷ rs) (enough (length xs) (length (drop len bytes)) (drop len bytes) (IsBytes_drop len bytes h) (omega (arith, l, some)) (omega arith))
    ∙ ap (λ (bs : List ℕ). r ∷ returns_in bs) (sym (take_rest bytes len)))

-- A stream whose first return can't be read gives none.
pub none_read : (bytes : List ℕ) (f : Fault) → return_at bytes ≡ Err f → returns_in bytes ≡ []
none_read [] f e = refl
none_read (x ∷ xs) f e = ap (next_of (λ k. returns_to (length xs) (drop k (x ∷ xs)))) e
