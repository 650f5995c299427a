-- The page's word, as arithmetic and as bits.
use Rattle.bd_driver.proofs.Words.{and_high_mask, and_mask, arith, bit_and, bit_or, or_add_and, ℕ, ◌%◌, ◌*◌, ◌+◌, ◌/◌, ◌<◌, ◌≡◌}

pub page_parts : (b r l : ℕ) → b < 2 → r < 2147483648
    → ((b + 2 * r + 4294967296 * l) / 4294967296 ≡ l) × ((b + 2 * r + 4294967296 * l) / 2 % 2147483648 ≡ r) × ((b + 2 * r + 4294967296 * l) % 2 ≡ b)
page_parts b r l hb hr = (omega arith, omega arith, omega arith)

-- setting bit 0 adds 1 to an even number and leaves an odd one
pub or_one_even : (n : ℕ) → n % 2 ≡ 0 → bit_or n 1 ≡ n + 1
or_one_even n e = let s = or_add_and n 1 in let m : bit_and n 1 ≡ n % 2 = and_mask n 1 in omega arith

pub or_one_odd : (n : ℕ) → n % 2 ≡ 1 → bit_or n 1 ≡ n
or_one_odd n e = let s = or_add_and n 1 in let m : bit_and n 1 ≡ n % 2 = and_mask n 1 in omega arith

-- clearing bit 0 of an odd number
pub clear_odd : (n m : ℕ) → n < 18446744073709551616 → n ≡ m + 1 → m % 2 ≡ 0 → bit_and n 18446744073709551614 ≡ m
clear_odd n m small e even = let c : bit_and n 18446744073709551614 ≡ n / 2 * 2 = and_high_mask 64 1 (omega arith) n small in omega arith
