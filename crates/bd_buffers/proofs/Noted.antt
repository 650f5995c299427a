-- What a window keeps, through each change.
use Rattle.bd_buffers.proofs.Words.{All, All-filter, All-map, All-push, All_remove, AreNoted, Begins, Bool, Buffer, Ground, IsApart, IsInMemory, IsWithout, Keeps, List, Notes, Ok, Record, Some, Tiles, all_standing, ap, arith, bare, between, changed, false, filter, get_or, get_or_push, hand_out, hand_over, inl}
use Rattle.bd_buffers.proofs.Words.{inr, is_free_unit, is_made_at, is_record_at, length, length_push, needed, not, one_way_from, one_way_share, option_map, record_in, refl, share_from, slice_index, standing, start_for, subst, sym, with_span, without, ℕ, [], ◌++◌, ◌+◌, ◌/◌, ◌<◌, ◌∙◌, ◌∷◌, ◌≡◌, ◌≤◌, ◌⊎◌}
use Rattle.bd_buffers.proofs.{Kept.{is_one_way, starts_noted, sums_handed, sums_pushed, sums_without, total_handed, total_push, total_removed, window_handed, window_push, window_removed}, Made.{All_changed, gone_at}, Places.{IsGiven, given_says}}
use Rattle.bd_buffers.proofs.{Standing.{all_of, all_stay, found_standing, handed_standing, in_longer, kept_standing, pushed_standing, same_standing}, Units.{begins_there, taken_units, tiles_handed, tiles_less, tiles_more}}

-- ---- a buffer is handed out

notes_handed : (p : Buffer → Bool) (bs : List Buffer) (g : Ground) → Notes bs g → Notes (changed p hand_out bs) g
notes_handed p bs g is = let same = total_handed is_one_way (λ b. refl) p bs in search (arith, window_handed, tiles_handed, All_changed, sums_handed)

pub keeps_handed : (n : ℕ) (rs : List Record) (g : Ground) → Keeps rs g → Keeps (changed (is_record_at n) hand_over rs) g
keeps_handed n rs g is = record {
  notes = rw (handed_standing g.memory n rs) (notes_handed (is_made_at n) (all_standing g.memory rs) g is.notes);
  there = All_changed (is_record_at n) hand_over (IsInMemory g.memory) (λ r h. record { inside = h.inside; parts = h.parts }) rs is.there;
}

-- ---- a buffer ends

notes_without : (b : Buffer) (bs new : List Buffer) (g left : Ground) → Notes bs g → IsWithout b bs new → left.size ≡ g.size → left.spans.size ≡ g.spans.size
    → ((free : ℕ → Bool) → Tiles free g.spans → ((u : ℕ) → b.start / 8 ≤ u → u < b.start / 8 + b.size / 8 → free u ≡ false) → Tiles (with_span (b.start / 8) (b.size / 8) free) left.spans)
    → left.starts ≡ g.starts → left.one_way + one_way_share b ≡ g.one_way → ((f : ℕ → ℕ) → AreNoted g.senders (λ m. f m + share_from m b) → AreNoted left.senders f) → Notes new left
notes_without b bs new g left is gone size units spans starts share senders =
    let less = total_removed is_one_way bs gone.index b gone.within in let own = gone.at b in
    let rest = gone.left in
    record {
      window = rw (size, gone.left) (window_removed g.size gone.index bs b is.window gone.within);
      whole = omega (arith, size, units);
      tiles = tiles_less g.size b bs new left.spans is.window gone (spans (is_free_unit bs) is.tiles (λ u from to. taken_units g.size u b bs new is.window gone from to));
      starts = rw (starts, gone.left) (All_remove (λ b. slice_index g.starts.items (b.start / 8) ≡ b.made) bs gone.index gone.within is.starts);
      total = grind arith;
      sums = senders (one_way_from new) (sums_without b bs new g.senders gone is.sums);
    }

-- the buffer of the record that was made there is missing
pub gone_of : (n : ℕ) (r : Record) (rs : List Record) (g : Ground) → Keeps rs g → record_in rs n ≡ Some r
    → IsWithout (standing g.memory r) (all_standing g.memory rs) (filter (λ b. not (is_made_at n b)) (all_standing g.memory rs))
gone_of n r rs g is found =
    gone_at (λ (b : Buffer). b.made) n (all_standing g.memory rs) (standing g.memory r) is.notes.window.in_order (found_standing g.memory rs n ∙ ap (option_map (standing g.memory)) found)

pub keeps_without : (n : ℕ) (r : Record) (rs : List Record) (g left : Ground) → Keeps rs g → record_in rs n ≡ Some r → left.memory ≡ g.memory → left.size ≡ g.size → left.spans.size ≡ g.spans.size
    → ((free : ℕ → Bool) → Tiles free g.spans → ((u : ℕ) → r.start / 8 ≤ u → u < r.start / 8 + r.size / 8 → free u ≡ false) → Tiles (with_span (r.start / 8) (r.size / 8) free) left.spans)
    → left.starts ≡ g.starts → left.one_way + one_way_share (bare r) ≡ g.one_way → ((f : ℕ → ℕ) → AreNoted g.senders (λ m. f m + share_from m (bare r)) → AreNoted left.senders f)
    → Keeps (filter (λ x. not (is_record_at n x)) rs) left
keeps_without n r rs g left is found memory size units spans starts share senders =
    let noted = notes_without _ (all_standing g.memory rs) _ g left is.notes (gone_of n r rs g is found) size units spans starts share senders in
    record { notes = subst (λ k. Notes (all_standing k (filter (λ x. not (is_record_at n x)) rs)) left) (sym memory) (rw (kept_standing g.memory n rs) noted); there = rw memory (All-filter (λ x. not (is_record_at n x)) (IsInMemory g.memory) rs is.there) }

-- ---- memory grows, and room to note what is free

pub keeps_memory : (rs : List Record) (g left : Ground) → Keeps rs g → left.size ≡ g.size → left.one_way ≡ g.one_way → left.senders ≡ g.senders
    → ((j : ℕ) → slice_index left.starts.items j ≡ slice_index g.starts.items j)
    → ((i j : ℕ) → j ≤ length g.memory → between i j left.memory ≡ between i j g.memory) → length g.memory ≤ length left.memory
    → left.spans.size ≡ g.spans.size → ((free : ℕ → Bool) → Tiles free g.spans → Tiles free left.spans) → Keeps rs left
keeps_memory rs g left is size one_way senders starts kept longer units tiles =
    let bs = all_standing g.memory rs in let whole = is.notes.whole in let total = is.notes.total in
    record {
      notes = rw (all_stay g.memory left.memory kept rs is.there) (record {
        window = rw size is.notes.window;
        whole = omega arith;
        tiles = tiles (is_free_unit bs) is.notes.tiles;
        starts = λ k d lt. starts ((get_or bs k d).start / 8) ∙ is.notes.starts k d lt;
        total = omega arith;
        sums = rw senders is.notes.sums;
      });
      there = in_longer g.memory left.memory rs longer is.there;
    }

-- ---- a buffer comes

-- a record that lays a new buffer out beside those that are there
pub record IsNew (r : Record) (rs : List Record) (g : Ground) (m : List ℕ) : Type 0 where
  pub newest : All (λ x. x.made < r.made) rs
  pub sized : r.size ≡ needed (length (standing m r).bytes) (length (standing m r).offsets)
  pub place : start_for g.size (all_standing g.memory rs) r.one_way r.size ≡ Ok r.start
  pub others : (x : Record) → IsInMemory g.memory x → (x.start + x.size ≤ r.start) ⊎ (r.start + r.size ≤ x.start) → standing m x ≡ standing g.memory x

-- where it stands for a buffer that may come
pub is_new : (b : Buffer) (r : Record) (rs : List Record) (g : Ground) (m : List ℕ) → standing m r ≡ b → All (λ x. x.made < b.made) (all_standing g.memory rs) → b.size ≡ needed (length b.bytes) (length b.offsets)
    → start_for g.size (all_standing g.memory rs) b.one_way b.size ≡ Ok b.start
    → ((x : Record) → IsInMemory g.memory x → (x.start + x.size ≤ b.start) ⊎ (b.start + b.size ≤ x.start) → standing m x ≡ standing g.memory x) → IsNew r rs g m
is_new b r rs g m e newest sized place others =
    record { newest = all_of (standing g.memory) (λ x. x.made < r.made) rs (rw (← e) at newest); sized = rw (← e) at sized; place = rw (← e) at place; others = rw (← e) at others }

module _ (r : Record) (rs : List Record) (g left : Ground) (is : Keeps rs g) (comes : IsNew r rs g left.memory) where
  abbrev old : List Buffer
  old = all_standing g.memory rs

  abbrev new : Buffer
  new = standing left.memory r

  pub given : IsGiven g.size old r.one_way r.size r.start
  given = given_says g.size old r.one_way r.size r.start comes.place

  others_stay : all_standing left.memory rs ≡ old
  others_stay =
      let free = all_of (standing g.memory) (IsApart r.start r.size) rs given.least.room.free in
      same_standing g.memory left.memory rs (λ k d lt. comes.others (get_or rs k d) (is.there k d lt) (elim (free k d lt) [ inl x ↦ inr x | inr x ↦ inl x ]))

  pub with_new : all_standing left.memory (rs ++ r ∷ []) ≡ old ++ new ∷ []
  with_new = pushed_standing left.memory rs r ∙ ap (λ xs. xs ++ new ∷ []) others_stay

  -- a hole begins there that has its room, or the tail
  pub begins : Begins g.spans (r.size / 8) (r.start / 8)
  begins =
      begins_there g.size g.spans.size old is.notes.whole is.notes.window.placed g.spans r.size r.start refl is.notes.tiles (omega arith) (omega arith) given.least

  pub keeps_pushed : IsInMemory left.memory r → length left.memory ≡ length g.memory → left.size ≡ g.size → left.spans.size ≡ g.spans.size
      → Tiles (without (r.start / 8) (r.size / 8) (is_free_unit old)) left.spans
      → slice_index left.starts.items (r.start / 8) ≡ r.made → ((j : ℕ) → (j ≡ r.start / 8 → ⊥) → slice_index left.starts.items j ≡ slice_index g.starts.items j)
      → left.one_way ≡ g.one_way + one_way_share (bare r) → AreNoted left.senders (λ m. one_way_from old m + share_from m (bare r)) → Keeps (rs ++ r ∷ []) left
  keeps_pushed inside len size units tiles at others_at share senders =
      let sized = comes.sized in let pushed = total_push is_one_way old new in
      let window = window_push g.size old new is.notes.window (All-map (λ b. b.made < r.made) (standing g.memory) rs comes.newest) sized comes.place in
      let placed = rw (get_or_push old new new (length old) refl) at (window.placed (length old) new (omega (arith, length_push old new))) in
      let whole = is.notes.whole in let total = is.notes.total in
      record {
        notes = rw with_new (record {
          window = rw size window;
          whole = omega arith;
          tiles = tiles_more g.size old new left.spans placed tiles;
          starts = starts_noted g.size old new g.starts.items left.starts.items is.notes.window is.notes.starts given.least.room.aligned (omega arith) given.least.room.free at others_at;
          total = omega arith;
          sums = sums_pushed old new left.senders senders;
        });
        there = All-push (IsInMemory left.memory) rs r (in_longer g.memory left.memory rs (omega arith) is.there) inside;
      }
