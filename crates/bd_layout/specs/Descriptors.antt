-- Places for the numbers of descriptors.
use Rattle.std.specs.Prelude.{◌≡◌, ◌≤◌, ◌+◌, ℕ, List, [], ◌∷◌, Some}
use Rattle.bd_layout.specs.declared.fixup.Fixup.{Fixup}
use Rattle.bd_layout.specs.declared.fixup.Fixup.TheVariants.{Pointer, Descriptor, Descriptors}
use Rattle.bd_layout.specs.Plans.{Plan, plan_of}

abbrev pub numbers_of : Fixup → ℕ
numbers_of (Pointer at to) = 0
numbers_of (Descriptor at) = 1
numbers_of (Descriptors at count) = count

abbrev pub number_count : List Fixup → ℕ
number_count [] = 0
number_count (f ∷ fs) = numbers_of f + number_count fs

abbrev pub HasAPlaceForEach : Type 0
HasAPlaceForEach = (body offsets room : List ℕ) (count : ℕ) (s : Plan) → plan_of body offsets room count ≡ Some s
    → (number_count s.fixups ≡ s.taken) × (s.taken ≤ count)
