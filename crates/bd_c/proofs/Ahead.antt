-- What a walk has still to come to.
use Rattle.std.proofs.Common.{◌≡◌, ℕ, suc, zero, ◌+◌, ◌%◌, Bool, true, false, cond, eqb, List, [], ◌∷◌, length, drop, Option, Some, None, refl, ap, ◌∙◌, arith}
use Rattle.std.specs.Prelude.{Err, slice_get}
use Rattle.bd_parcel.specs.declared.fault.WalkFault.{WalkFault}
use Rattle.bd_parcel.specs.declared.fault.WalkFault.TheVariants.{Size, Bad, Unsupported}
use Rattle.bd_parcel.specs.Parcels.{offsets_in, fault_at, fault_from}
use Rattle.bd_c.specs.declared.walks.WalkInC.{WalkInC}
use Rattle.bd_c.specs.declared.walks.FlatObjectInC.{FlatObjectInC}
use Rattle.bd_c.specs.Walks.{judged, judged_at, next_object, fault_ahead, TellsNext, Ahead}

split_at : (os : List ℕ) (k o : ℕ) → slice_get os k ≡ Some o → drop k os ≡ o ∷ drop (suc k) os
split_at [] k o at = absurd cc
split_at (a ∷ os) zero o at = let is : a ≡ o = cc in rw is refl
split_at (a ∷ os) (suc k) o at = split_at os k o at

past : (os : List ℕ) (k : ℕ) → slice_get os k ≡ None → drop k os ≡ []
past [] zero at = refl
past [] (suc k) at = refl
past (a ∷ os) zero at = absurd cc
past (a ∷ os) (suc k) at = past os k at

ahead_judged : (bytes os : List ℕ) (w v : WalkInC) (o : ℕ) (f : Option WalkFault) (a b : FlatObjectInC) (told : Bool) → fault_at bytes w.end w.index o ≡ f → drop w.index os ≡ o ∷ drop (w.index + 1) os
    → TellsNext (judged bytes f o) w v a b told → Ahead (judged bytes f o) (fault_from bytes w.end w.index (drop w.index os)) (fault_from bytes v.end v.index (drop v.index os))
ahead_judged bytes os w v o None a b told is split tells = rw (tells.1, split, is) refl
ahead_judged bytes os w v o (Some Size) a b told is split tells = tt
ahead_judged bytes os w v o (Some (Bad i)) a b told is split tells = rw (split, is) refl
ahead_judged bytes os w v o (Some (Unsupported i)) a b told is split tells = rw (split, is) refl

ahead_at : (bytes os : List ℕ) (w v : WalkInC) (at : Option ℕ) (a b : FlatObjectInC) (told : Bool) → slice_get os w.index ≡ at → TellsNext (judged_at bytes w at) w v a b told
    → Ahead (judged_at bytes w at) (fault_from bytes w.end w.index (drop w.index os)) (fault_from bytes v.end v.index (drop v.index os))
ahead_at bytes os w v None a b told is tells = rw (past os w.index is) refl
ahead_at bytes os w v (Some o) a b told is tells =
    let next : suc w.index ≡ w.index + 1 = omega arith in
    ahead_judged bytes os w v o (fault_at bytes w.end w.index o) a b told refl (split_at os w.index o is ∙ ap (λ (k : ℕ). o ∷ drop k os) next) tells

ahead_whole : (bytes os : List ℕ) (w v : WalkInC) (whole : Bool) (a b : FlatObjectInC) (told : Bool) → TellsNext (cond whole (judged_at bytes w (slice_get os w.index)) (Err Size)) w v a b told
    → Ahead (cond whole (judged_at bytes w (slice_get os w.index)) (Err Size)) (fault_from bytes w.end w.index (drop w.index os)) (fault_from bytes v.end v.index (drop v.index os))
ahead_whole bytes os w v true a b told tells = ahead_at bytes os w v (slice_get os w.index) a b told refl tells
ahead_whole bytes os w v false a b told tells = tt

pub ahead : (bytes offsets : List ℕ) (w v : WalkInC) (a b : FlatObjectInC) (told : Bool) → TellsNext (next_object bytes offsets w) w v a b told
    → Ahead (next_object bytes offsets w) (fault_ahead bytes offsets w) (fault_ahead bytes offsets v)
ahead bytes offsets w v a b told tells = ahead_whole bytes (offsets_in offsets) w v (eqb (length offsets % 8) 0) a b told tells
