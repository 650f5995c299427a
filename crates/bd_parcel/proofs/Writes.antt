-- Writes that lie side by side.
use Rattle.std.proofs.Common.{◌≡◌, ℕ, ◌+◌, ◌≤◌, List, ◌++◌, length, take, drop, ap, ◌∙◌, append_assoc, arith}
use Rattle.std.proofs.lemmas.List.{length-append, length-take-le, drop-drop}
use Rattle.std.proofs.Math.Seq.{take-append_seam, drop-append-add}

pub side_by_side : (at m n : ℕ) (old mid new xs ys : List ℕ) → length xs ≡ m → length ys ≡ n → at + m ≤ length old → mid ≡ take at old ++ xs ++ drop (at + m) old
    → new ≡ take (at + m) mid ++ ys ++ drop (at + m + n) mid → new ≡ take at old ++ (xs ++ ys) ++ drop (at + (m + n)) old
side_by_side at m n old mid new xs ys xs-long ys-long le first second =
    let reach : at + m ≡ length (take at old ++ xs) = omega (arith, length-append (take at old) xs, length-take-le at old (omega arith)) in
    let before : take (at + m) mid ≡ take at old ++ xs = rw (first, reach) (take-append_seam (take at old ++ xs) _) in
    let behind : drop (at + m + n) mid ≡ drop (at + (m + n)) old = rw first (ap (λ (k : ℕ). drop (k + n) ((take at old ++ xs) ++ drop (at + m) old)) reach ∙ drop-append-add (take at old ++ xs) (drop (at + m) old) n ∙ drop-drop n (at + m) old ∙ ap (λ (k : ℕ). drop k old) (omega arith)) in
    second ∙ rw (before, behind) (ap (λ (front : List ℕ). front ++ drop (at + (m + n)) old) (append_assoc (take at old) xs ys))
