-- A walk along a list shows its values in order.
use Rattle.std.proofs.Common.{◌≡◌, ℕ, zero, suc, ◌≤◌, true, List, [], ◌∷◌, length, Option, Some, None, refl, sym, ap, ◌∙◌, arith}
use Rattle.std.specs.List.{slice_get}
use Rattle.slab.specs.Slab.{slab_len}
use Rattle.bd_chains.specs.{declared.links.Held.{Held}, declared.chains.Chains.{Chains}, Chain.{has, distinct, Linked}}
use Rattle.bd_chains.specs.{Rows.{Row, keys, ring, values_on, on_some, row_at}, Columns.{ends_at, next_at, prev_at, shown, Holds}, Walk.{walk}}
use Rattle.bd_chains.proofs.Rowing.{ring_within}

module _ {T : Type 0} where
  pub first_is : (t : Chains T) (l : ℕ) (rs : List (Row T)) → Holds t rs → (ends_at t l).first ≡ slice_get (ring l rs) 0
  first_is t l rs h = head_is (ring l rs) (h.linked l)
    where
      head_is : (ys : List ℕ) → Linked (next_at t l) (prev_at t l) None ys → (ends_at t l).first ≡ slice_get ys 0
      head_is [] k = k.0
      head_is (y ∷ ys) k = k.0

  -- what the slots of these keys hold, up to the first that holds nothing
  abbrev held_in : (ℕ → Option (ℕ × Held T)) → List ℕ → List T
  held_in S [] = []
  held_in S (y ∷ ys) = elim (S y) [ None ↦ [] | Some v ↦ v.1.value ∷ held_in S ys ]

  walks : (t : Chains T) (l n : ℕ) (p : Option ℕ) (ys : List ℕ) → Linked (next_at t l) (prev_at t l) p ys → length ys ≤ n → walk t.items n (next_at t l p) ≡ held_in (shown t) ys
  walks t l zero p [] along few = refl
  walks t l (suc n) p [] along few = rw along.0 refl
  walks t l zero p (y ∷ ys) along few = absurd (omega arith)
  walks t l (suc n) p (y ∷ ys) along few = rw along.0 (grind (arith, walks t l n (Some y) ys along.2))

  held_are : (S : ℕ → Option (ℕ × Held T)) (l : ℕ) (rs : List (Row T)) → distinct (keys rs) ≡ true → ((k : ℕ) → has k (keys rs) ≡ true → S k ≡ row_at k rs)
      → held_in S (ring l rs) ≡ values_on l rs
  held_are S l [] apart same = refl
  held_are S l (q ∷ rs) apart same = grind (arith, held_are S l rs (grind arith) (λ k on. same k (grind arith) ∙ grind arith), same q.key)

  pub values_walked : (t : Chains T) (l : ℕ) (rs : List (Row T)) → Holds t rs → walk t.items (slab_len t.items) (next_at t l None) ≡ values_on l rs
  values_walked t l rs h =
      walks t l (slab_len t.items) None (ring l rs) (h.linked l) (let few = ring_within l rs in let n = h.len in omega (arith, few, n))
      ∙ held_are (shown t) l rs h.apart (λ k on. h.shown_are k)

  -- of a list that isn't there none are
  pub items_walked : (t : Chains T) (list : Option ℕ) (rs : List (Row T)) → Holds t rs
      → walk t.items (slab_len t.items) (on_some None (λ l rs. slice_get (ring l rs) 0) list rs) ≡ on_some [] values_on list rs
  items_walked t None rs h = nothing (slab_len t.items)
    where
      nothing : (n : ℕ) → walk t.items n None ≡ []
      nothing zero = refl
      nothing (suc n) = refl
  items_walked t (Some l) rs h = ap (walk t.items (slab_len t.items)) (sym (first_is t l rs h)) ∙ values_walked t l rs h
