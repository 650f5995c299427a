-- Records, and the buffers that they stand for.
use Rattle.bd_buffers.proofs.Words.{All, All-head, All-tail, Bool, Buffer, IsInMemory, IsSized, List, Record, all_standing, ap, arith, between, buffer_in, changed, filter, find, get_or, get_or-map, hand_out, hand_over, is_made_at, is_record_at, length, length-map, made_of_buffer, made_of_record, map, map-append}
use Rattle.bd_buffers.proofs.Words.{not, option_map, record_in, refl, round_up, standing, subst, with_bytes, ℕ, [], ◌++◌, ◌+◌, ◌∷◌, ◌≡◌, ◌≤◌}

module _ {A B : Type 0} (f : A → B) where
  pub found_of : (r : B → Bool) (xs : List A) → find r (map f xs) ≡ option_map f (find (λ y. r (f y)) xs)
  found_of r [] = refl
  found_of r (x ∷ xs) = grind (arith, found_of r xs)

  pub all_of : (P : B → Type 0) (xs : List A) → All P (map f xs) → All (λ x. P (f x)) xs
  all_of P xs all k d lt = subst P (get_or-map f xs k d (f d) lt) (all k (f d) (omega (arith, length-map xs f, lt)))

  pub filtered_of : (r : B → Bool) (xs : List A) → map f (filter (λ y. r (f y)) xs) ≡ filter r (map f xs)
  filtered_of r [] = refl
  filtered_of r (x ∷ xs) = grind (arith, filtered_of r xs)

module _ (m : List ℕ) where
  pub found_standing : (rs : List Record) (n : ℕ) → buffer_in (all_standing m rs) n ≡ option_map (standing m) (record_in rs n)
  found_standing rs n = found_of (standing m) (is_made_at n) rs

  pub handed_standing : (n : ℕ) (rs : List Record) → all_standing m (changed (is_record_at n) hand_over rs) ≡ changed (is_made_at n) hand_out (all_standing m rs)
  handed_standing n [] = refl
  handed_standing n (r ∷ rs) = grind (arith, handed_standing n rs)

  -- those that weren't made at a place
  pub kept_standing : (n : ℕ) (rs : List Record) → all_standing m (filter (λ r. not (is_record_at n r)) rs) ≡ filter (λ b. not (is_made_at n b)) (all_standing m rs)
  kept_standing n rs = filtered_of (standing m) (λ b. not (is_made_at n b)) rs

  pub made_standing : (rs : List Record) → map made_of_buffer (all_standing m rs) ≡ map made_of_record rs
  made_standing [] = refl
  made_standing (r ∷ rs) = ap (λ ms. r.made ∷ ms) (made_standing rs)

  pub pushed_standing : (rs : List Record) (r : Record) → all_standing m (rs ++ r ∷ []) ≡ all_standing m rs ++ standing m r ∷ []
  pushed_standing rs r = map-append (standing m) rs (r ∷ [])

-- ---- where memory changes, and what stands in it doesn't

pub same_standing : (m n : List ℕ) (rs : List Record) → All (λ r. standing n r ≡ standing m r) rs → all_standing n rs ≡ all_standing m rs
same_standing m n [] all = refl
same_standing m n (r ∷ rs) all =
    let head = All-head (λ x. standing n x ≡ standing m x) r rs all in let rest = same_standing m n rs (All-tail (λ x. standing n x ≡ standing m x) r rs all) in cc

pub standing_kept : (m n : List ℕ) (r : Record) → between r.start (r.start + r.data_size) n ≡ between r.start (r.start + r.data_size) m
    → between (r.start + round_up r.data_size) (r.start + round_up r.data_size + r.offsets_size) n ≡ between (r.start + round_up r.data_size) (r.start + round_up r.data_size + r.offsets_size) m → standing n r ≡ standing m r
standing_kept m n r bytes offsets = search arith

-- memory of which all stays that there was
module _ (m n : List ℕ) (kept : (i j : ℕ) → j ≤ length m → between i j n ≡ between i j m) where
  stays : (r : Record) → IsInMemory m r → standing n r ≡ standing m r
  stays r is = search arith

  pub all_stay : (rs : List Record) → All (IsInMemory m) rs → all_standing n rs ≡ all_standing m rs
  all_stay rs all = same_standing m n rs (λ k d lt. stays (get_or rs k d) (all k d lt))

pub in_longer : (m n : List ℕ) (rs : List Record) → length m ≤ length n → All (IsInMemory m) rs → All (IsInMemory n) rs
in_longer m n rs le all k d lt = search arith

-- ---- what is lent from memory, and laid out in it

pub laid_is : (mid new : List ℕ) (r : Record) (b : Buffer) → b ≡ with_bytes r b.bytes b.offsets → IsSized r b.bytes b.offsets
    → between r.start (r.start + length b.bytes) mid ≡ b.bytes → between r.start (r.start + length b.bytes) new ≡ between r.start (r.start + length b.bytes) mid
    → between (r.start + round_up r.data_size) (r.start + round_up r.data_size + length b.offsets) new ≡ b.offsets → standing new r ≡ b
laid_is mid new r b own sized bytes kept offsets = search arith
