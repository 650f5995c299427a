-- What a table of lists says of each slot, and when that is the values in their order.
use Rattle.std.specs.Prelude.{ℕ, ◌≡◌, ◌-◌, Bool, true, List, length, Option, Some, None, is_some, option_map, min}
use Rattle.slab.specs.Slab.{get, slab_len}
use Rattle.bd_chains.specs.{declared.links.Held.{Held}, declared.links.Item.{Item}, declared.links.Ends.{Ends}, declared.chains.Chains.{Chains}}
use Rattle.bd_chains.specs.{Chain.{distinct, Linked}, Rows.{Row, keys, ring, row_at, counted_on}}

-- a list's record: of a list that isn't there it is that of one on which nothing is
abbrev pub ends_of : Option Ends → Ends
ends_of None = record { first = None; last = None; counted = 0 }
ends_of (Some e) = e

module _ {T : Type 0} where
  abbrev pub next_of : Option (Item T) → Option ℕ
  next_of None = None
  next_of (Some i) = i.next

  abbrev pub prev_of : Option (Item T) → Option ℕ
  prev_of None = None
  prev_of (Some i) = i.prev

  abbrev pub ends_at : Chains T → ℕ → Ends
  ends_at t l = ends_of (get t.ends l)

  -- what comes after a key on a list, or first on it
  abbrev pub next_at : Chains T → ℕ → Option ℕ → Option ℕ
  next_at t l None = (ends_at t l).first
  next_at t l (Some y) = next_of (get t.items y)

  -- what comes before a key on a list, or last on it
  abbrev pub prev_at : Chains T → ℕ → Option ℕ → Option ℕ
  prev_at t l None = (ends_at t l).last
  prev_at t l (Some y) = prev_of (get t.items y)

  abbrev pub shown : Chains T → ℕ → Option (ℕ × Held T)
  shown t k = option_map (λ i. (i.list, i.held)) (get t.items k)

  abbrev pub value_at : Chains T → ℕ → Option T
  value_at t k = option_map (λ (p : ℕ × Held T). p.1.value) (shown t k)

  abbrev pub count_at : Chains T → ℕ → ℕ
  count_at t l = (ends_at t l).counted

  abbrev pub is_open : Chains T → ℕ → Bool
  is_open t l = is_some (get t.ends l)

  abbrev pub is_there : Chains T → Option ℕ → Bool
  is_there t None = true
  is_there t (Some x) = is_some (get t.items x)

  -- the table holds these values in this order, each on a list that was opened
  pub record Holds (t : Chains T) (rs : List (Row T)) : Type 0 where
    pub apart : distinct (keys rs) ≡ true
    pub shown_are : (k : ℕ) → shown t k ≡ row_at k rs
    pub linked : (l : ℕ) → Linked (next_at t l) (prev_at t l) None (ring l rs)
    pub counts : (l : ℕ) → count_at t l ≡ counted_on l rs
    pub within : (k l : ℕ) (v : Held T) → shown t k ≡ Some (l, v) → is_open t l ≡ true
    pub len : slab_len t.items ≡ length rs

  -- how many values more take no memory
  abbrev pub item_room : Chains T → ℕ
  item_room t = t.items.capacity - slab_len t.items

  -- how many lists more
  abbrev pub list_room : Chains T → ℕ
  list_room t = t.ends.capacity - slab_len t.ends

  abbrev pub room_of : Chains T → ℕ
  room_of t = min (item_room t) (list_room t)
