-- What is handed out of the descriptors that are on their way.
use Rattle.std.proofs.Common.{◌≡◌, ◌<◌, ◌≤◌, ℕ, true, false, List, length, Option, Some, None, refl, sym, arith}
use Rattle.std.specs.Prelude.{IsSomeAnd, nat_le}
use Rattle.std.proofs.{lemmas.Bool.Decides.{nat_tests}, lemmas.Grind.{common_steps}}
use Rattle.bd_tickets.specs.declared.shelves.Shelves.{Shelves}
use Rattle.bd_c.specs.Parts.{filled}
use Rattle.bd_c.specs.Tickets.{with_parcel, TakesTickets}

no_room : (out ds : List ℕ) → length out < length ds → filled out ds ≡ out
no_room out ds lt = let over : nat_le (length ds) (length out) ≡ false = grind (arith, nat_tests, common_steps, lt) in rw over refl

pub stays : (x : Shelves) (step n before : ℕ) (out : List ℕ) (o : Option (List ℕ)) → with_parcel x step ≡ o → IsSomeAnd o (λ ds. n ≡ length ds) → length out < n
    → TakesTickets x x step out out before n true
stays x step n before out None is there lt = absurd there
stays x step n before out (Some ds) is there lt =
    let over : length out < length ds = omega (arith, lt, there) in
    (ds, is, (there, sym (no_room out ds over)), (λ fits. absurd (omega (arith, fits, over))), (λ _. refl))

pub none_there : (n : ℕ) (o : Option (List ℕ)) → None ≡ o → IsSomeAnd o (λ ds. n ≡ length ds) → ⊥
none_there n None none there = there
none_there n (Some ds) none there = cc
