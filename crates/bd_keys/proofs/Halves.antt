-- Bits of a number's lower half are those of the whole number.
use Rattle.std.proofs.Common.{ℕ, ◌≡◌, ◌≤◌, ◌<◌, ◌+◌, ◌-◌, ◌*◌, ◌/◌, ◌%◌, ◌^◌, ap, sym, ◌∙◌, arith}
use Rattle.std.proofs.Math.Nat.{add-mul-div_left}
use Rattle.std.proofs.Math.Pow.{pow_mono}
use Rattle.std.proofs.lemmas.Nat.{pow-add}

-- a power that is split where the three bits begin, and behind them
split : (bit : ℕ) → bit ≤ 61 → 2 ^ 64 ≡ 2 ^ bit * (8 * 2 ^ (61 - bit))
split bit le =
    let all : bit + (3 + (61 - bit)) ≡ 64 = omega (arith, le) in
    ap (λ n. 2 ^ n) (sym all) ∙ pow-add 2 bit (3 + (61 - bit)) ∙ ap (λ n. 2 ^ bit * n) (pow-add 2 3 (61 - bit))

positive_power : (bit : ℕ) → 0 < 2 ^ bit
positive_power bit =
    let from_none : 0 ≤ bit = omega arith in
    let up : 2 ^ 0 ≤ 2 ^ bit = pow_mono from_none in
    omega (arith, up)

moved : (a b c : ℕ) → a * (b * (8 * c)) ≡ b * (8 * (a * c))
moved a b c = grind arith

pub low_way : (low high bit : ℕ) → bit ≤ 61 → (low + high * 2 ^ 64) / 2 ^ bit % 8 ≡ low / 2 ^ bit % 8
low_way low high bit le =
    let rest = 2 ^ (61 - bit) in
    let whole : high * 2 ^ 64 ≡ 2 ^ bit * (8 * (high * rest)) = ap (λ n. high * n) (split bit le) ∙ moved high (2 ^ bit) rest in
    let parts = ap (λ n. (low + n) / 2 ^ bit) whole ∙ add-mul-div_left low (8 * (high * rest)) {y = 2 ^ bit} (positive_power bit) in
    ap (λ n. n % 8) parts ∙ omega arith
