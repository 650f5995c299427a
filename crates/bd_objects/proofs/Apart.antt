-- What is said of each object with an identity is said of one.
use Rattle.bd_objects.proofs.Words.{Bool, Identity, List, None, Object, Records, RecordsAre, Reference, Some, [], ap, false, filter, held_in, id_key, if◌then◌else◌, none_stays, not, object_in, refl, same, same_eq, same_self, some_stays, subst, sym}
use Rattle.bd_objects.proofs.Words.{true, ◌||◌, ◌∙◌, ◌∷◌, ◌≡◌}

-- what is found by its identity has it
pub found_same : (objects : List Object) (o : Identity) (x : Object) → object_in objects o ≡ Some x → same x.id o ≡ true
found_same [] o x h = absurd (cc)
found_same (y ∷ ys) o x h = by (same y.id o) refl h (λ k. found_same ys o x k)
  where
    by : (b : Bool) → same y.id o ≡ b → (if b then Some y else object_in ys o) ≡ Some x → (object_in ys o ≡ Some x → same x.id o ≡ true) → same x.id o ≡ true
    by true e h rest = let is : y ≡ x = cc in subst (λ z. same z.id o ≡ true) is e
    by false e h rest = rest h

-- the only object with the identity stays, or it goes
pub apart_some : (t : Records) (objects : List Object) (l : List Reference) (o : Identity) (x : Object) (stays : Object → Bool)
    → RecordsAre t objects l → object_in objects o ≡ Some x
    → filter (λ y. not (same y.id o) || stays y) objects ≡
    (if stays x then objects else filter (λ y. not (same y.id o)) objects)
apart_some t objects l o x stays h e = some_stays id_key same same_eq same_self stays o x objects h.own.ids e

-- where no object has the identity every object stays
pub apart_none : (objects : List Object) (o : Identity) (stays : Object → Bool) → object_in objects o ≡ None
    → filter (λ y. not (same y.id o) || stays y) objects ≡ objects
apart_none objects o stays e = none_stays id_key same stays o objects e

-- an object that was found by its identity, and doesn't stay, is not referred to
left_false : (a b : Bool) → (a || b) ≡ false → a ≡ false
left_false true b h = absurd (cc)
left_false false b h = refl

pub unheld : (objects : List Object) (l : List Reference) (o : Identity) (x : Object) (held rest stays : Bool) → object_in objects o ≡ Some x
    → held ≡ held_in l x.id → stays ≡ (held || rest) → stays ≡ false → held_in l o ≡ false
unheld objects l o x held rest stays found is e none =
    ap (held_in l) (sym (same_eq x.id o (found_same objects o x found))) ∙ sym is ∙ left_false held rest (sym e ∙ none)
