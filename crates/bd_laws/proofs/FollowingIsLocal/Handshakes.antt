-- For FollowingIsLocal, SpacesAreTidy and OwnersHearInOrder: each handshake of a reading is of the object of a Notice that
-- it reads.
use Rattle.bd_laws.proofs.words.Logic.{arith, ◌≡◌, ℕ, ◌+◌, Bool, List, [], ◌∷◌, Some, inl, inr, refl, length, flat_map}
use Rattle.bd_laws.proofs.words.Types.{Identity, Reference, Handshake, Work, WorkKind}
use Rattle.bd_laws.proofs.words.Space.{Space, notice_of, returns_of, handshakes, handshakes_of, handshakes_for, shakes}
use Rattle.bd_laws.specs.Lists.{In}
use Rattle.bd_laws.proofs.Lists.{in_append}

for_both : (place k : ℕ) (o : Identity) (bs : List Bool) (r : Reference) → In r (handshakes_for place k o bs) → (r.object ≡ o) × (r.holder ≡ Handshake)
for_both place k o [] r l = absurd l
for_both place k o (b ∷ bs) r l = search (arith, for_both place (k + 1) o bs r)

pub for_object : (place k : ℕ) (o : Identity) (bs : List Bool) (r : Reference) → In r (handshakes_for place k o bs) → r.object ≡ o
for_object place k o bs r l = (for_both place k o bs r l).0

-- the item whose handshake a reference is, and its object
pub record Shaken (s : Space) (ws : List Work) (r : Reference) : Type 0 where
  pub item : Work
  pub here : In item ws
  pub object : Identity
  pub tells : notice_of item.kind ≡ Some object
  pub number : ℕ
  pub shakes_for : In r (handshakes_for s.steps number object (flat_map shakes (returns_of s item.kind)))

of_item : (s : Space) (k : ℕ) (kind : WorkKind) (r : Reference) → In r (handshakes_of s k kind)
    → (o : Identity) × (notice_of kind ≡ Some o) × In r (handshakes_for s.steps k o (flat_map shakes (returns_of s kind)))
of_item s k kind r l = search arith

pub shaken_by : (s : Space) (ws : List Work) (k : ℕ) (r : Reference) → In r (handshakes s k ws) → Shaken s ws r
shaken_by s [] k r l = absurd l
shaken_by s (w ∷ ws) k r l =
    elim (in_append r (handshakes_of s k w.kind) (handshakes s (k + length (handshakes_of s k w.kind)) ws) l) [
      | inl i ↦ (let x = of_item s k w.kind r i in record { item = w; here = inl refl; object = x.0; tells = x.1; number = k; shakes_for = x.2 })
      | inr i ↦ (
          let x = shaken_by s ws (k + length (handshakes_of s k w.kind)) r i in
          record { item = x.item; here = inr x.here; object = x.object; tells = x.tells; number = x.number; shakes_for = x.shakes_for })
    ]

pub is_a_handshake : (s : Space) (ws : List Work) (k : ℕ) (r : Reference) → In r (handshakes s k ws) → r.holder ≡ Handshake
is_a_handshake s ws k r l = let x = shaken_by s ws k r l in (for_both s.steps x.number x.object (flat_map shakes (returns_of s x.item.kind)) r x.shakes_for).1

pub shaken_object : (s : Space) (ws : List Work) (r : Reference) (x : Shaken s ws r) → r.object ≡ x.object
shaken_object s ws r x = for_object s.steps x.number x.object (flat_map shakes (returns_of s x.item.kind)) r x.shakes_for
