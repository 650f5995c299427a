-- Objects by their owners: by pointers, of which no two are alike, and one after the other.
use Rattle.std.specs.{HashMap.{get, spare}, Prelude.{Bool, List, Option, Some, false, map, min, option_map, ℕ, ◌==◌, ◌≡◌, ◌≤◌}}
use Rattle.bd_ways.specs.Words.{Identity, Object, same}
use Rattle.bd_keys.specs.{Keys.{same_word}, Look.{look, word_room}, declared.key.WordKey.{WordKey}}
use Rattle.bd_chains.specs.{Rows.{Row, row_at, values}, declared.links.Held.{Held}}
use Rattle.bd_records.specs.{Maps.{AreDistinct, Finds}, ObjectKeys.{id_key, own_key}, declared.owned.{Owned.{Owned}, Possession.{Possession}, Spot.{Spot}}}
use Rattle.bd_chains.specs.Lists as lists

abbrev pub possession : Object → Possession
possession x = record { owner = x.owner; id = x.id }

abbrev pub owner_of : Possession → ℕ
owner_of v = v.owner

abbrev pub same_owner : ℕ → ℕ → Bool
same_owner p q = p == q

abbrev pub list_of : Owned → ℕ → Option ℕ
list_of t = get same_owner t.lists.numbers.all

abbrev pub Shows : Owned → List (Row Possession) → Type 0
Shows t = lists.Shows owner_of (λ _. false) same_owner (list_of t) t.lists.chains

-- what stands in a slot of the lists
abbrev pub stands_at : ℕ → List (Row Possession) → Option Possession
stands_at k rs = option_map (λ (p : ℕ × Held Possession). p.1.value) (row_at k rs)

-- the identity that is found by owner and pointer
abbrev pub id_at : Owned → WordKey → Option Identity
id_at t k = option_map (λ (s : Spot). s.id) (look t.ptrs k)

pub record OwnedAre (t : Owned) (objects : List Object) : Type 0 where
  pub found : Finds same_word own_key (λ x. x.id) (id_at t) objects
  pub ids : AreDistinct id_key same objects
  pub ptrs : AreDistinct own_key same_word objects
  pub rows : List (Row Possession)
  pub shows : Shows t rows
  pub are : values rows ≡ map possession objects
  -- each spot is that of its object
  pub spots : (k : WordKey) (s : Spot) → look t.ptrs k ≡ Some s → stands_at s.at rows ≡ Some (record { owner = k.process; id = s.id })
  pub not_higher : (k : WordKey) (s : Spot) → look t.ptrs k ≡ Some s → k.word ≤ t.highest

-- how many objects more take no memory
abbrev pub own_room : Owned → ℕ
own_room t = min (word_room t.ptrs) (lists.lists_room t.lists.chains (spare t.lists.numbers.all))
