-- What stands between two places.
use Rattle.std.proofs.{Common.{List, arith, get_or, length, ℕ, ◌+◌, ◌<◌, ◌≡◌, ◌≤◌}, lemmas.List.{get_or_default, same_lists}, lemmas.List.Edits.{get_or-between, length-between}}
use Rattle.std.specs.List.{between}

-- where bytes are the same at each place between, so are they together
pub same_between : (xs ys : List ℕ) (i j : ℕ) → j ≤ length xs → j ≤ length ys → ((k : ℕ) → i ≤ k → k < j → get_or xs k 0 ≡ get_or ys k 0) → between i j xs ≡ between i j ys
same_between xs ys i j a b same =
    let one = length-between xs i j a in
    let other = length-between ys i j b in
    same_lists (between i j xs) (between i j ys) (omega (arith, one, other)) (λ k d lt. (let at = same (i + k) in grind (arith, get_or-between, get_or_default)))

-- and where they are those of a list, they are that list
pub between_is : (xs bytes : List ℕ) (at : ℕ) → at + length bytes ≤ length xs → ((k : ℕ) → k < length bytes → get_or xs (at + k) 0 ≡ get_or bytes k 0) → between at (at + length bytes) xs ≡ bytes
between_is xs bytes at a here =
    let len = length-between xs at (at + length bytes) a in
    same_lists (between at (at + length bytes) xs) bytes (omega (arith, len)) (λ k d lt. (let there = here k in grind (arith, get_or-between, get_or_default)))
