-- The sizes that a process's window may have.
use Rattle.bd_step.proofs.Words.{and_parts, arith, eqb-true, is_window, leb-true, nat_le, true, ℕ, ◌%◌, ◌&&◌, ◌==◌, ◌≡◌, ◌≤◌}

-- whole pages, so whole words
pub window_size : (size : ℕ) → is_window size ≡ true → (size % 8 ≡ 0) × (size ≤ 4194304)
window_size size is =
    let parts = and_parts (size % 4096 == 0 && nat_le 4096 size) (nat_le size 4194304) is in
    let pages : size % 4096 ≡ 0 = eqb-true (size % 4096) 0 (and_parts (size % 4096 == 0) (nat_le 4096 size) parts.0).0 in
    (omega (arith, pages), leb-true size 4194304 parts.1)
