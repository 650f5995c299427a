-- Buffers that lie within so many bytes.
use Rattle.std.proofs.Common.{ℕ, ◌≤◌, ◌++◌, List, [], ◌∷◌, Bool, true, false, arith}
use Rattle.std.specs.Prelude.{◌==◌, if◌then◌else◌}
use Rattle.bd_layout.specs.declared.buffer.OpenBuffer.{OpenBuffer}
use Rattle.bd_layout.specs.Writable.{outward_from, EndWithin}
use Rattle.bd_layout.specs.declared.fixup.Fixup.{Fixup}
use Rattle.bd_layout.specs.declared.fixup.Fixup.TheVariants.{Pointer, Descriptor, Descriptors}
use Rattle.bd_layout.specs.Plans.{LiesWithin, AllWithin}

pub end_within_more : (n m : ℕ) (bs : List OpenBuffer) → n ≤ m → EndWithin n bs → EndWithin m bs
end_within_more n m [] le w = tt
end_within_more n m (b ∷ bs) le w = (omega (arith, le, w.0), end_within_more n m bs le w.1)

either : (c : Bool) (n : ℕ) (xs ys : List OpenBuffer) → EndWithin n xs → EndWithin n ys → EndWithin n (if c then xs else ys)
either true n xs ys a b = a
either false n xs ys a b = b

pub within_outward : (n i : ℕ) (bs : List OpenBuffer) → EndWithin n bs → EndWithin n (outward_from i bs)
within_outward n i [] w = tt
within_outward n i (b ∷ bs) w = either (b.index == i) n (b ∷ bs) (outward_from i bs) w (within_outward n i bs w.1)

lies_within_more : (n m : ℕ) (f : Fixup) → n ≤ m → LiesWithin n f → LiesWithin m f
lies_within_more n m (Pointer at to) le w = (omega (arith, le, w.0), omega (arith, le, w.1))
lies_within_more n m (Descriptor at) le w = omega (arith, le, w)
lies_within_more n m (Descriptors at count) le w = omega (arith, le, w)

pub all_within_more : (n m : ℕ) (fs : List Fixup) → n ≤ m → AllWithin n fs → AllWithin m fs
all_within_more n m [] le w = tt
all_within_more n m (f ∷ fs) le w = (lies_within_more n m f le w.0, all_within_more n m fs le w.1)

pub all_within_and : (n : ℕ) (fs : List Fixup) (f : Fixup) → AllWithin n fs → LiesWithin n f → AllWithin n (fs ++ f ∷ [])
all_within_and n [] f all one = (one, tt)
all_within_and n (g ∷ fs) f all one = (all.0, all_within_and n fs f all.1 one)
