-- The register, as a work item comes or goes.
use Rattle.std.proofs.Common.{◌≡◌, ◌+◌, ◌-◌, ◌<◌, ◌≤◌, ◌==◌, ℕ, Bool, true, cond, List, [], ◌∷◌, ◌++◌, length, count_by, min, arith}
use Rattle.std.proofs.lemmas.List.Sums.{sum_by_push, count_by-le-length}
use Rattle.bd_space.specs.{declared.space.Work.{Work}, Todo.{is_item}}
use Rattle.bd_todo.specs.{declared.register.Register.{Register}, declared.spots.Sought.{Sought}, declared.finder.Finder.{Finder}}
use Rattle.bd_todo.specs.{Spots.{sought_of, is_sought, is_key}, FoundCounts.{found_at}, Registered.{rank, AreCounted}}

module _ (t : Register) (w : Work) (todo : List Work) (h : AreCounted t todo) (spots : Finder) where
  module _ (few : length todo < 18446744073709551615) (is : w.id.index ≡ count_by (λ v. v.id.place == w.id.place) todo) (rises : Bool)
      (above : rises ≡ true → (t.rises ≡ true) × (rank t.last < rank w.id))
      (counts : (k : Sought) → found_at spots k ≡ cond (is_key k (sought_of w.kind)) (min (found_at t.spots k + 1) 18446744073709551615) (found_at t.spots k)) where
    more : (p : Work → Bool) → count_by p (todo ++ w ∷ []) ≡ count_by p todo + cond (p w) 1 0
    more p = sum_by_push (λ v. cond (p v) 1 0) todo w

    low : (p : Work → Bool) → count_by p todo < 18446744073709551615
    low p = let c = count_by-le-length p todo in omega (arith, c, few)

    counted : (k : Sought) → found_at spots k ≡ count_by (λ v. is_sought k v.kind) (todo ++ w ∷ [])
    counted k = grind (arith, counts k, h.counted k, more (λ v. is_sought k v.kind), low (λ v. is_sought k v.kind))

    -- it came last
    pub newer_came : (count : ℕ) → t.last.place ≤ w.id.place → count ≡ min (w.id.index + 1) 18446744073709551615
        → AreCounted (record { spots = spots; last = w.id; count = count; rises = rises }) (todo ++ w ∷ [])
    newer_came count late counting = record {
      counted = counted;
      at_last = grind (arith, counting, is, more (λ v. v.id.place == w.id.place), low (λ v. v.id.place == w.id.place));
      none_later = λ place l. grind (arith, more (λ v. v.id.place == place), h.none_later place, late, l);
      none_past = λ r d l. grind (arith, more (λ v. is_item v d), h.none_past (above r).0 d, (above r).1, l);
      one_each = λ r d. grind (arith, more (λ v. is_item v d), h.none_past (above r).0 d, h.one_each (above r).0 d, (above r).1);
    }

    pub older_came : w.id.place < t.last.place → AreCounted (record { spots = spots; last = t.last; count = t.count; rises = rises }) (todo ++ w ∷ [])
    older_came early = record {
      counted = counted;
      at_last = grind (arith, more (λ v. v.id.place == t.last.place), h.at_last, early);
      none_later = λ place l. grind (arith, more (λ v. v.id.place == place), h.none_later place l, early, l);
      none_past = λ r d l. absurd (never r);
      one_each = λ r d. absurd (never r);
    }
      where
        never : rises ≡ true → ⊥
        never r = let a = (above r).1 in let l = low (λ v. v.id.place == w.id.place) in omega (arith, a, l, is, early)

  -- of every test one less passes, if it passed
  pub register_went : (left : List Work) (count : ℕ) → ((p : Work → Bool) → count_by p todo ≡ cond (p w) 1 0 + count_by p left)
      → ((k : Sought) → found_at spots k ≡ cond (is_key k (sought_of w.kind)) (found_at t.spots k - 1) (found_at t.spots k))
      → count ≡ cond (w.id.place == t.last.place) (t.count - 1) t.count → AreCounted (record { spots = spots; last = t.last; count = count; rises = t.rises }) left
  register_went left count less counts counting = record {
    counted = λ k. grind (arith, counts k, h.counted k, less (λ v. is_sought k v.kind));
    at_last = grind (arith, counting, h.at_last, less (λ v. v.id.place == t.last.place));
    none_later = λ place l. grind (arith, h.none_later place l, less (λ v. v.id.place == place));
    none_past = λ r d l. grind (arith, h.none_past r d l, less (λ v. is_item v d));
    one_each = λ r d. grind (arith, h.one_each r d, less (λ v. is_item v d));
  }
