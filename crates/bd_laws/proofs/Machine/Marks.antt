-- For every law: a step that has a process told of its one-way flooding, or no longer: what its mark leaves of the live
-- processes.
use Rattle.bd_laws.proofs.words.Logic.{arith, ◌≡◌, ℕ, ◌==◌, Bool, cond, List, [], ◌∷◌, refl}
use Rattle.bd_laws.proofs.words.Types.{Process}
use Rattle.bd_laws.proofs.words.Space.{changed, lives_in, detecting}
use Rattle.bd_laws.proofs.words.Laws.{In}
use Rattle.bd_laws.proofs.Lists.{in_changed}

-- the live processes, with the mark set on the one at p
abbrev pub marked : ℕ → Bool → List Process → List Process
marked p on processes = changed (λ (q : Process). q.made == p) (detecting on) processes

mark_made : (on b : Bool) (q : Process) → (cond b (detecting on q) q).made ≡ q.made
mark_made on b q = search arith

-- Each process was there before the mark was set or cleared.
pub marked_in : (p : ℕ) (on : Bool) (processes : List Process) (q : Process) → In q (marked p on processes) → (r : Process) × In r processes × (r.made ≡ q.made)
marked_in p on processes q l = search (arith, in_changed)

-- Setting or clearing a mark leaves the same processes alive.
pub marked_lives : (p : ℕ) (on : Bool) (processes : List Process) (n : ℕ) → lives_in (marked p on processes) n ≡ lives_in processes n
marked_lives p on [] n = refl
marked_lives p on (q ∷ qs) n = search (arith, marked_lives p on qs n)
