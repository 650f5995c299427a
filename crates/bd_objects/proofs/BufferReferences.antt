-- The references of a buffer, one item after the other.
use Rattle.bd_objects.proofs.Words.{Carried, Identity, Item, List, None, Option, Reference, Some, [], ap, append_assoc, arith, buffer_references, get_or, is_strong_kind, length, length-take-le, reference_of, refl, suc, sym, take, take_more, ℕ, ◌++◌}
use Rattle.bd_objects.proofs.Words.{◌+◌, ◌<◌, ◌∙◌, ◌∷◌, ◌≡◌}

module _ (place q : ℕ) where
  abbrev held : ℕ → List Item → Option Identity → List Reference
  held k items target = buffer_references place q k items target

  abbrev carried : ℕ → Item → Reference
  carried k x = reference_of place k x.object (is_strong_kind x.flat.kind) (Carried place q)

  next : (k n : ℕ) → k + 1 + n ≡ k + suc n
  next k n = omega arith

  same : (k : ℕ) → k ≡ k + 0
  same k = omega arith

  -- the target's comes last
  pub with_target : (items : List Item) (k : ℕ) (target : Option Identity) → held k items target ≡ held k items None ++ held (k + length items) [] target
  with_target [] k None = refl
  with_target [] k (Some o) = ap (λ n. held n [] (Some o)) (same k)
  with_target (x ∷ xs) k target =
      ap (λ rs. carried k x ∷ rs) (with_target xs (k + 1) target ∙ ap (λ n. held (k + 1) xs None ++ held n [] target) (next k (length xs)))

  one_more : (items : List Item) (x : Item) (k : ℕ) → held k (items ++ x ∷ []) None ≡ held k items None ++ held (k + length items) (x ∷ []) None
  one_more [] x k = ap (λ n. held n (x ∷ []) None) (same k)
  one_more (y ∷ ys) x k =
      ap (λ rs. carried k y ∷ rs) (one_more ys x (k + 1) ∙ ap (λ n. held (k + 1) ys None ++ held n (x ∷ []) None) (next k (length ys)))

  pub carried_more : (refs : List Reference) (items : List Item) (i : ℕ) (d : Item) → i < length items
      → (refs ++ held 0 (take i items) None) ++ held i (get_or items i d ∷ []) None ≡ refs ++ held 0 (take (i + 1) items) None
  carried_more refs items i d h =
      let long : 0 + length (take i items) ≡ i = omega (arith, length-take-le i items) in
      append_assoc refs (held 0 (take i items) None) _
      ∙ ap (λ rs. refs ++ rs) (ap (λ n. held 0 (take i items) None ++ held n (get_or items i d ∷ []) None) (sym long)
      ∙ sym (one_more (take i items) (get_or items i d) 0) ∙ ap (λ xs. held 0 xs None) (sym (take_more items i d h)))
