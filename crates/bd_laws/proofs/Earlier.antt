-- SpacesAreTidy: the order in which objects were made.
use Rattle.bd_laws.proofs.words.Logic.{◌≡◌, ◌<◌, ◌≤◌, true, false, List, ◌⊎◌, refl, arith, IsStrictWeakOrder, nat_cmp, is_lt, ordering_then, IsSortedBy, sorted_far, lt-ltb, le-ltb}
use Rattle.bd_laws.proofs.words.Types.{Identity, Object}
use Rattle.bd_laws.proofs.words.Laws.{Pairs, is_earlier, Earlier, NotLater, Differ}
use Rattle.bd_laws.proofs.Lists.{pairs_map, at_pairs}

pub place_earlier : (o i : Identity) → o.place < i.place → is_earlier o i ≡ true
place_earlier o i lt = rw (lt-ltb o.place i.place lt) refl

pub index_earlier : (o i : Identity) → o.place ≡ i.place → o.index < i.index → is_earlier o i ≡ true
index_earlier o i e lt = search arith

-- No object was made before itself.
pub never_earlier : (o : Identity) → is_earlier o o ≡ false
never_earlier o = search (arith, le-ltb)

-- ---- an order

earlier_means : (o i : Identity) → is_earlier o i ≡ true → (o.place < i.place) ⊎ ((o.place ≡ i.place) × (o.index < i.index))
earlier_means o i h = search arith

not_earlier : (o i : Identity) → is_earlier o i ≡ false → (i.place ≤ o.place) × (o.place ≡ i.place → i.index ≤ o.index)
not_earlier o i h = search arith

is_none_earlier : (o i : Identity) → i.place ≤ o.place → (o.place ≡ i.place → i.index ≤ o.index) → is_earlier o i ≡ false
is_none_earlier o i le then_index = search (arith, earlier_means)

pub earlier_order : IsStrictWeakOrder is_earlier
earlier_order = search arith

-- Which of two objects is earlier is told as pairs of numbers compare: by the place, and then by the index.
pub earlier_cmp : (o i : Identity) → is_lt (ordering_then (nat_cmp o.place i.place) (nat_cmp o.index i.index)) ≡ is_earlier o i
earlier_cmp o i = search arith

pub sorted_in_order : (os : List Identity) → IsSortedBy is_earlier os → Pairs NotLater os
sorted_in_order os h = at_pairs NotLater os (λ i j d lt within. sorted_far is_earlier earlier_order os h i j d (omega arith) within)

pub in_order_differ : (xs : List Object) → Pairs Earlier xs → Pairs Differ xs
in_order_differ xs h = search (arith, pairs_map)
