-- Reading the entries that are whole one after the other, as a loop does.
use Rattle.std.proofs.Common.{◌≡◌, ℕ, suc, ◌-◌, ◌+◌, ◌≤◌, ◌<◌, List, [], ◌∷◌, ◌++◌, Some, None, refl, sym, ap, ◌∙◌, append_assoc, arith}
use Rattle.std.proofs.lemmas.List.{append-nil}
use Rattle.bd_space.specs.declared.step.Entry.{Entry}
use Rattle.bd_spelling.specs.declared.versions.Version.{Version}
use Rattle.bd_spelling.specs.Reading.{entry_from}
use Rattle.bd_journal.specs.Cut.{behind, whole_from}

module _ (v : Version) (seats : ℕ) (front : List Entry) (count i : ℕ) (bytes : List ℕ) (total : List Entry × List ℕ) where
  pub goes_on : (e : Entry) (after : List ℕ) → i < count → entry_from v seats bytes ≡ Some (e, after)
      → behind front (whole_from v seats (count - i) bytes) ≡ total → behind (front ++ e ∷ []) (whole_from v seats (count - (i + 1)) after) ≡ total
  unfolding whole_from
  goes_on e after lt h so_far =
      let k : count - i ≡ suc (count - (i + 1)) = omega arith in
      let read = whole_from v seats (count - (i + 1)) after in
      let one : behind front (whole_from v seats (count - i) bytes) ≡ (front ++ (e ∷ read.0), read.1) = rw (k, h) refl in
      let two : behind (front ++ e ∷ []) read ≡ (front ++ (e ∷ read.0), read.1) = ap (λ (es : List Entry). (es, read.1)) (append_assoc front (e ∷ []) read.0) in
      two ∙ sym one ∙ so_far

  pub ends : i < count → entry_from v seats bytes ≡ None → behind front (whole_from v seats (count - i) bytes) ≡ total → total ≡ (front, bytes)
  unfolding whole_from
  ends lt h so_far =
      let k : count - i ≡ suc (count - (i + 1)) = omega arith in
      let one : behind front (whole_from v seats (count - i) bytes) ≡ (front, bytes) = rw (k, h) (ap (λ (es : List Entry). (es, bytes)) (append-nil front)) in
      sym so_far ∙ one

  pub is_done : count ≤ i → behind front (whole_from v seats (count - i) bytes) ≡ total → total ≡ (front, bytes)
  unfolding whole_from
  is_done le so_far =
      let k : count - i ≡ 0 = omega arith in
      let one : behind front (whole_from v seats (count - i) bytes) ≡ (front, bytes) = rw k (ap (λ (es : List Entry). (es, bytes)) (append-nil front)) in
      sym so_far ∙ one
