-- A list walked from a key on.
use Rattle.std.specs.Prelude.{ℕ, zero, suc, List, [], ◌∷◌, Option, Some, None}
use Rattle.slab.specs.Slab.{Slab, get}
use Rattle.bd_chains.specs.declared.links.Item.{Item}

module _ {T : Type 0} where
  -- the values from this key on, at most so many
  abbrev pub walk : Slab (Item T) → ℕ → Option ℕ → List T
  walk s zero at = []
  walk s (suc n) None = []
  walk s (suc n) (Some x) = elim (get s x) [ None ↦ [] | Some i ↦ i.held.value ∷ walk s n i.next ]
