-- What an object that is taken leaves behind it: to show something of all that comes of an object, it is enough to show it of five plans.
use Rattle.std.proofs.Common.{◌≡◌, ℕ, ◌+◌, ◌*◌, ◌%◌, Bool, true, false, List, [], ◌∷◌, ◌++◌, length, Option, Some, None, refl, subst}
use Rattle.std.specs.Prelude.{◌==◌, ◌&&◌, ◌||◌, nat_le, if◌then◌else◌}
use Rattle.bd_uapi.specs.Bytes.{word_at, long_at}
use Rattle.bd_parcel.specs.Parcels.{is_placed}
use Rattle.bd_layout.specs.declared.buffer.OpenBuffer.{OpenBuffer}
use Rattle.bd_layout.specs.declared.fixup.Fixup.{Fixup}
use Rattle.bd_layout.specs.declared.fixup.Fixup.TheVariants.{Pointer, Descriptor}
use Rattle.bd_layout.specs.Writable.{Claim, claimed}
use Rattle.bd_layout.specs.Plans.{Plan, with_buffer, with_fixup, with_claim, pointed, then_writable, pointer, descriptor, numbers_at, array, object_of_type, object}

pub both : (a b : Bool) → (a && b) ≡ true → (a ≡ true) × (b ≡ true)
both true true e = (refl, refl)
both true false e = absurd cc
both false b e = absurd cc

if_some : (c : Bool) (m : Option Plan) (u : Plan) → (if c then m else None) ≡ Some u → (c ≡ true) × (m ≡ Some u)
if_some true m u e = (refl, e)
if_some false m u e = absurd cc

some_is : (v u : Plan) → Some v ≡ Some u → v ≡ u
some_is v u e = cc

-- ---- claims

by_claim : (P : Plan → Type 0) (x : Option Claim) (f : ℕ → List Fixup) (s u : Plan) → with_claim x f s ≡ Some u
    → ((c : Claim) → x ≡ Some c → P (record s { writable = c.writable; fixups = s.fixups ++ f c.place })) → P u
by_claim P None f s u e at = absurd cc
by_claim P (Some c) f s u e at = subst P (some_is (record s { writable = c.writable; fixups = s.fixups ++ f c.place }) u e) (at c refl)

-- ---- PTR objects

-- what is so of a buffer with a parent
pub record IsIn (parent offset : ℕ) (writable : List OpenBuffer) (c : Claim) : Type 0 where
  pub whole : (offset % 4 == 0) ≡ true
  pub claim : claimed parent offset 8 writable ≡ Some c

by_pointed : (P : Plan → Type 0) (has_parent : Bool) (parent offset to : ℕ) (s u : Plan) → pointed has_parent parent offset to s ≡ Some u
    → (has_parent ≡ false → P (record s { writable = [] }))
    → ((c : Claim) → has_parent ≡ true → IsIn parent offset s.writable c → P (record s { writable = c.writable; fixups = s.fixups ++ Pointer (c.place + offset) to ∷ [] }))
    → P u
by_pointed P false parent offset to s u e alone inside = subst P (some_is (record s { writable = [] }) u e) (alone refl)
by_pointed P true parent offset to s u e alone inside =
    let inner = if_some (offset % 4 == 0) (with_claim (claimed parent offset 8 s.writable) (λ place. Pointer (place + offset) to ∷ []) s) u e in
    by_claim P (claimed parent offset 8 s.writable) (λ place. Pointer (place + offset) to ∷ []) s u inner.1 (λ c is. inside c refl (record { whole = inner.0; claim = is }))

-- what may be written to with the buffer of an object at place o
abbrev pub and_buffer : ℕ → OpenBuffer → List OpenBuffer → List OpenBuffer
and_buffer o b bs = if o == 0 then [] else b ∷ bs

by_writable : (P : Plan → Type 0) (o : ℕ) (b : OpenBuffer) (m : Option Plan) (u : Plan) → then_writable o b m ≡ Some u
    → ((v : Plan) → m ≡ Some v → P (record v { writable = and_buffer o b v.writable })) → P u
by_writable P o b None u e at = absurd cc
by_writable P o b (Some v) u e at = subst P (some_is (record v { writable = and_buffer o b v.writable }) u e) (at v refl)

module _ (body room : List ℕ) (count i o : ℕ) (s : Plan) where
  -- an object of the engine's
  abbrev pub as_known : Plan
  as_known = record s { reach = o + 24; known = s.known ++ o ∷ [] }

  -- an FD object
  abbrev pub as_descriptor : Plan
  as_descriptor = record s { reach = o + 24; taken = s.taken + 1; fixups = s.fixups ++ Descriptor (o + 8) ∷ [] }

  -- an FDA object
  abbrev pub array_count : ℕ
  array_count = long_at (o + 8) body

  abbrev pub array_offset : ℕ
  array_offset = long_at (o + 24) body

  abbrev pub as_array : Claim → Plan
  as_array c = record s { reach = o + 32; taken = s.taken + array_count; writable = c.writable; fixups = s.fixups ++ numbers_at (c.place + array_offset) array_count }

  -- a PTR object
  abbrev pub own_length : ℕ
  own_length = long_at (o + 16) body

  abbrev pub own_parent : ℕ
  own_parent = long_at (o + 24) body

  abbrev pub own_offset : ℕ
  own_offset = long_at (o + 32) body

  abbrev pub own_buffer : OpenBuffer
  own_buffer = record { index = i; place = length s.bytes; length = own_length; least = 0 }

  abbrev pub with_own : Plan
  with_own = with_fixup (Pointer (o + 8) (length s.bytes)) (with_buffer own_length room (record s { reach = o + 40 }))

  abbrev pub as_orphan : Plan
  as_orphan = record with_own { writable = and_buffer o own_buffer [] }

  abbrev pub as_child : Claim → Plan
  as_child c = record with_own { writable = and_buffer o own_buffer c.writable; fixups = with_own.fixups ++ Pointer (c.place + own_offset) (length s.bytes) ∷ [] }

  pub record IsArray (c : Claim) : Type 0 where
    pub whole : nat_le (o + 32) (length body) ≡ true
    pub enough : nat_le (s.taken + array_count) count ≡ true
    pub even : (array_count == 0 || array_offset % 4 == 0) ≡ true
    pub claim : claimed (long_at (o + 16) body) array_offset (4 * array_count) s.writable ≡ Some c

  pub record IsPointer : Type 0 where
    pub whole : nat_le (o + 40) (length body) ≡ true
    pub fits : nat_le (s.used + own_length) (length room) ≡ true

  -- what has to be shown of each
  pub record Shows (P : Plan → Type 0) : Type 0 where
    pub known : (word_at o body == 0x70742a85) ≡ false → P as_known
    pub descriptor : (word_at o body == 0x70742a85) ≡ false → nat_le (s.taken + 1) count ≡ true → P as_descriptor
    pub array : (word_at o body == 0x70742a85) ≡ false → (c : Claim) → IsArray c → P (as_array c)
    pub orphan : (word_at o body == 0x70742a85) ≡ true → IsPointer → P as_orphan
    pub child : (word_at o body == 0x70742a85) ≡ true → IsPointer → (c : Claim) → IsIn own_parent own_offset s.writable c → P (as_child c)

  by_descriptor : (P : Plan → Type 0) (u : Plan) → descriptor count o (record s { reach = o + 24 }) ≡ Some u → (nat_le (s.taken + 1) count ≡ true → P as_descriptor) → P u
  by_descriptor P u e at =
      let inner = if_some (nat_le (s.taken + 1) count) (Some as_descriptor) u e in
      subst P (some_is as_descriptor u inner.1) (at inner.0)

  by_array : (P : Plan → Type 0) (u : Plan)
      → (if nat_le (o + 32) (length body) then array array_count (long_at (o + 16) body) array_offset count (record s { reach = o + 32 }) else None) ≡ Some u
      → ((c : Claim) → IsArray c → P (as_array c)) → P u
  by_array P u e at =
      let whole = if_some (nat_le (o + 32) (length body)) (array array_count (long_at (o + 16) body) array_offset count (record s { reach = o + 32 })) u e in
      let t : Plan = record s { reach = o + 32; taken = s.taken + array_count } in
      let x = claimed (long_at (o + 16) body) array_offset (4 * array_count) s.writable in
      let inner = if_some (nat_le (s.taken + array_count) count && (array_count == 0 || array_offset % 4 == 0)) (with_claim x (λ place. numbers_at (place + array_offset) array_count) t) u whole.1 in
      let two = both (nat_le (s.taken + array_count) count) (array_count == 0 || array_offset % 4 == 0) inner.0 in
      by_claim P x (λ place. numbers_at (place + array_offset) array_count) t u inner.1 (λ c is. at c (record { whole = whole.0; enough = two.0; even = two.1; claim = is }))

  by_pointer : (P : Plan → Type 0) (u : Plan)
      → (if nat_le (o + 40) (length body) then pointer body room i o (record s { reach = o + 40 }) else None) ≡ Some u
      → (IsPointer → P as_orphan) → (IsPointer → (c : Claim) → IsIn own_parent own_offset s.writable c → P (as_child c)) → P u
  by_pointer P u e orphan child =
      let whole = if_some (nat_le (o + 40) (length body)) (pointer body room i o (record s { reach = o + 40 })) u e in
      let has_parent = word_at (o + 4) body % 2 == 1 in
      let m = pointed has_parent own_parent own_offset (length s.bytes) with_own in
      let inner = if_some (nat_le (s.used + own_length) (length room)) (then_writable o own_buffer m) u whole.1 in
      let is : IsPointer = record { whole = whole.0; fits = inner.0 } in
      by_writable P o own_buffer m u inner.1
      (λ v e'. by_pointed (λ (w : Plan). P (record w { writable = and_buffer o own_buffer w.writable })) has_parent own_parent own_offset (length s.bytes) with_own v e'
      (λ _. orphan is) (λ c _ within. child is c within))

  by_type : (P : Plan → Type 0) (a b c : Bool) (w x y z : Option Plan) (u : Plan)
      → (a ≡ true → w ≡ Some u → P u) → (a ≡ false → x ≡ Some u → P u) → (a ≡ false → y ≡ Some u → P u) → (a ≡ false → z ≡ Some u → P u)
      → (if a then w else if b then x else if c then y else z) ≡ Some u → P u
  by_type P true b c w x y z u fw fx fy fz e = fw refl e
  by_type P false true c w x y z u fw fx fy fz e = fx refl e
  by_type P false false true w x y z u fw fx fy fz e = fy refl e
  by_type P false false false w x y z u fw fx fy fz e = fz refl e

  pub by_object : (P : Plan → Type 0) (u : Plan) → object body room count i o s ≡ Some u → (is_placed body s.reach o ≡ true → Shows P) → P u
  by_object P u e shows =
      let t = word_at o body in
      let placed = if_some (is_placed body s.reach o) (object_of_type t body room count i o s) u e in
      let all = shows placed.0 in
      by_type P (t == 0x70742a85) (t == 0x66646185) (t == 0x66642a85)
      (if nat_le (o + 40) (length body) then pointer body room i o (record s { reach = o + 40 }) else None)
      (if nat_le (o + 32) (length body) then array array_count (long_at (o + 16) body) array_offset count (record s { reach = o + 32 }) else None)
      (descriptor count o (record s { reach = o + 24 }))
      (Some as_known)
      u
      (λ is h. by_pointer P u h (all.orphan is) (all.child is))
      (λ is h. by_array P u h (all.array is))
      (λ is h. by_descriptor P u h (all.descriptor is))
      (λ is h. subst P (some_is as_known u h) (all.known is))
      placed.1
