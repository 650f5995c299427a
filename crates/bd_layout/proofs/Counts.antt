-- As many places for numbers as descriptors are taken.
use Rattle.std.proofs.Common.{◌≡◌, ℕ, ◌+◌, ◌≤◌, Bool, true, false, List, [], ◌∷◌, ◌++◌, length, Some, refl, sym, arith}
use Rattle.std.specs.Prelude.{◌==◌, if◌then◌else◌}
use Rattle.std.proofs.lemmas.Bool.{leb-true, eqb-true}
use Rattle.bd_parcel.specs.Parcels.{offsets_in}
use Rattle.bd_layout.specs.declared.fixup.Fixup.{Fixup}
use Rattle.bd_layout.specs.declared.fixup.Fixup.TheVariants.{Pointer, Descriptor, Descriptors}
use Rattle.bd_layout.specs.Plans.{Plan, begun, numbers_at, object, is_whole, plan_of}
use Rattle.bd_layout.specs.Descriptors.{number_count}
use Rattle.bd_layout.proofs.Walks.{planned_by, whole_plan}
use Rattle.bd_layout.proofs.Objects.{by_object, array_count, array_offset, own_offset}

record AreCounted (count : ℕ) (s : Plan) : Type 0 where
  pub places : number_count s.fixups ≡ s.taken
  pub enough : s.taken ≤ count

count_and : (fs gs : List Fixup) → number_count (fs ++ gs) ≡ number_count fs + number_count gs
count_and [] gs = omega arith
count_and (f ∷ fs) gs = omega (arith, count_and fs gs)

count_numbers : (at n : ℕ) → number_count (numbers_at at n) ≡ n
count_numbers at n = by (n == 0) refl
  where
    by : (c : Bool) → (n == 0) ≡ c → number_count (if c then [] else Descriptors at n ∷ []) ≡ n
    by true is = sym (eqb-true n 0 is)
    by false is = omega arith

object_counted : (body room : List ℕ) (count i o : ℕ) (s u : Plan) → AreCounted count s → object body room count i o s ≡ Some u → AreCounted count u
object_counted body room count i o s u so e = by_object body room count i o s (AreCounted count) u e (λ _. record {
  known = λ _. record { places = so.places; enough = so.enough };
  descriptor = λ _ le. record { places = omega (arith, count_and s.fixups (Descriptor (o + 8) ∷ []), so.places); enough = leb-true _ _ le };
  array = λ _ c is. record {
    places = omega (arith, count_and s.fixups (numbers_at (c.place + array_offset body room count i o s) (array_count body room count i o s)), count_numbers (c.place + array_offset body room count i o s) (array_count body room count i o s), so.places);
    enough = leb-true _ _ is.enough;
  };
  orphan = λ _ _. record { places = omega (arith, count_and s.fixups (Pointer (o + 8) (length s.bytes) ∷ []), so.places); enough = so.enough };
  child = λ _ _ c _. record {
    places = omega (
      arith,
      count_and (s.fixups ++ Pointer (o + 8) (length s.bytes) ∷ []) (Pointer (c.place + own_offset body room count i o s) (length s.bytes) ∷ []),
      count_and s.fixups (Pointer (o + 8) (length s.bytes) ∷ []),
      so.places,
    );
    enough = so.enough;
  };
})

pub has_a_place_for_each : (body offsets room : List ℕ) (count : ℕ) (s : Plan) → plan_of body offsets room count ≡ Some s → (number_count s.fixups ≡ s.taken) × (s.taken ≤ count)
has_a_place_for_each body offsets room count s e =
    let all = planned_by (AreCounted count) body room count (λ i o v u so h. object_counted body room count i o v u so h) 0 (offsets_in offsets) (begun body offsets) s
    (record { places = refl; enough = omega arith }) (whole_plan (is_whole offsets room) _ s e) in
    (all.places, all.enough)
