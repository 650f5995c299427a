-- Which objects the references that come in refer to.
use Rattle.bd_objects.proofs.Words.{AreReferred, Asked, Bool, Identity, Item, List, Option, Reference, [], buffer_references, eq-eqb, gives_name_to, is_referred, list_any-append, map, object_of_item, or_left, or_right, reference_of, refl, same}
use Rattle.bd_objects.proofs.Words.{same_self, true, ℕ, ◌&&◌, ◌++◌, ◌+◌, ◌==◌, ◌∙◌, ◌∷◌, ◌≡◌}

abbrev refers : ℕ → Identity → Reference → Bool
refers p o r = same r.object o && gives_name_to p r.holder

at_end : (p : ℕ) (o : Identity) (refs more : List Reference) → is_referred more p o ≡ true → is_referred (refs ++ more) p o ≡ true
at_end p o refs more h = list_any-append (refers p o) refs more ∙ or_right _ _ h

-- a reference that the process asked for
pub referred_asked : (place p : ℕ) (o : Identity) (strong : Bool) (refs : List Reference) → is_referred (refs ++ reference_of place 0 o strong (Asked p) ∷ []) p o ≡ true
referred_asked place p o strong refs = at_end p o refs _ (rw (same_self o, eq-eqb p p refl) refl)

module _ (place q : ℕ) (target : Option Identity) (refs : List Reference) where
  abbrev held : ℕ → List Item → List Reference
  held k items = buffer_references place q k items target

  here : (k : ℕ) (x : Item) (xs : List Item) → is_referred (held k (x ∷ xs)) q x.object ≡ true
  here k x xs = or_left (same x.object x.object && (q == q)) (is_referred (held (k + 1) xs) q x.object) (rw (same_self x.object, eq-eqb q q refl) refl)

  carried : (items : List Item) (k : ℕ) → ((o : Identity) → is_referred (held k items) q o ≡ true → is_referred refs q o ≡ true) → AreReferred refs q (map object_of_item items)
  carried [] k h = tt
  carried (x ∷ xs) k h = (h x.object (here k x xs), carried xs (k + 1) (λ o e. h o (or_right _ _ e)))

-- those by which a buffer holds what its parcel carries
pub referred_carried : (place q : ℕ) (target : Option Identity) (refs : List Reference) (items : List Item) → AreReferred (refs ++ buffer_references place q 0 items target) q (map object_of_item items)
referred_carried place q target refs items = carried place q target (refs ++ buffer_references place q 0 items target) items 0 (λ o e. at_end q o refs _ e)
