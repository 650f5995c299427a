-- The check that Linux's driver makes of PTR, FD and FDA objects, in its own variables (binder.c: binder_transaction, binder_validate_fixup,
-- binder_fixup_parent, binder_translate_fd_array).
use Rattle.std.specs.Prelude.{◌≡◌, ◌+◌, ◌*◌, ◌%◌, ℕ, List, [], ◌∷◌, length, Option, Some, None, Bool, false, nat_le, is_some, ◌==◌, ◌&&◌, ◌||◌, if◌then◌else◌}
use Rattle.bd_uapi.specs.Bytes.{word_at, long_at}
use Rattle.bd_parcel.specs.Parcels.{offsets_in, is_placed}
use Rattle.bd_layout.specs.Plans.{padding, is_whole, plan_of}

-- a PTR object that was gone through
pub record Seen : Type 0 where
  pub index : ℕ
  pub length : ℕ
  pub has_parent : Bool
  pub parent : ℕ
  pub offset : ℕ

pub record Driver : Type 0 where
  -- off_min; how much of the buffers' room was used; how many descriptors
  pub reach : ℕ
  pub used : ℕ
  pub taken : ℕ
  -- all PTR objects so far, the newest first
  pub seen : List Seen
  -- last_fixup_obj_off, here by the object's index, where an offset of 0 is none; last_fixup_min_off
  pub last : Option ℕ
  pub least : ℕ

-- what the climb comes to: the parent itself, and from where on something may be put into it
pub record Level : Type 0 where
  pub index : ℕ
  pub length : ℕ
  pub least : ℕ

-- binder_validate_fixup: from the last buffer up to its parents, until that which is meant. A parent is older, so it stands behind.
abbrev pub climb : List Seen → ℕ → ℕ → ℕ → Option Level
climb [] last least meant = None
climb (x ∷ xs) last least meant =
    if x.index == last then
    (if last == meant then Some (record { index = last; length = x.length; least = least }) else if x.has_parent then climb xs x.parent (x.offset + 8) meant else None)
    else climb xs last least meant

abbrev pub climb_from : List Seen → Option ℕ → ℕ → ℕ → Option Level
climb_from seen None least meant = None
climb_from seen (Some last) least meant = climb seen last least meant

-- so many bytes may be put there
abbrev pub may_take : ℕ → ℕ → Option Level → Bool
may_take offset size None = false
may_take offset size (Some l) = nat_le l.least offset && (size == 0 || nat_le (offset + size) l.length)

abbrev pub may_fix : ℕ → ℕ → ℕ → Driver → Bool
may_fix parent offset size d = may_take offset size (climb_from d.seen d.last d.least parent)

abbrev pub after_pointer : ℕ → ℕ → ℕ → Bool → ℕ → ℕ → Driver → Driver
after_pointer i o n has_parent parent offset d = record {
  reach = o + 40;
  used = d.used + n + padding n;
  taken = d.taken;
  seen = (record { index = i; length = n; has_parent = has_parent; parent = parent; offset = offset }) ∷ d.seen;
  last = if o == 0 then None else Some i;
  least = 0;
}

abbrev pub sees_pointer : ℕ → ℕ → ℕ → Bool → ℕ → ℕ → List ℕ → Driver → Option Driver
sees_pointer i o n has_parent parent offset room d =
    if nat_le (d.used + n) (length room) then
    (if has_parent then (if offset % 4 == 0 then (if may_fix parent offset 8 d then Some (after_pointer i o n has_parent parent offset d) else None) else None)
    else Some (after_pointer i o n has_parent parent offset d))
    else None

abbrev pub sees_array : ℕ → ℕ → ℕ → ℕ → ℕ → Driver → Option Driver
sees_array o n parent offset count d =
    if nat_le (d.taken + n) count && (n == 0 || offset % 4 == 0) then
    (if may_fix parent offset (4 * n) d then Some (record d { reach = o + 32; taken = d.taken + n; last = Some parent; least = offset + 4 * n }) else None)
    else None

abbrev pub sees_type : ℕ → List ℕ → List ℕ → ℕ → ℕ → ℕ → Driver → Option Driver
sees_type t body room count i o d =
    if t == 0x70742a85 then
    (if nat_le (o + 40) (length body) then sees_pointer i o (long_at (o + 16) body) (word_at (o + 4) body % 2 == 1) (long_at (o + 24) body) (long_at (o + 32) body) room d else None)
    else if t == 0x66646185 then
    (if nat_le (o + 32) (length body) then sees_array o (long_at (o + 8) body) (long_at (o + 16) body) (long_at (o + 24) body) count d else None)
    else if t == 0x66642a85 then (if nat_le (d.taken + 1) count then Some (record d { reach = o + 24; taken = d.taken + 1 }) else None)
    else Some (record d { reach = o + 24 })

abbrev pub sees : List ℕ → List ℕ → ℕ → ℕ → ℕ → Driver → Option Driver
sees body room count i o d = if is_placed body d.reach o then sees_type (word_at o body) body room count i o d else None

abbrev pub then_sees : List ℕ → List ℕ → ℕ → ℕ → ℕ → Option Driver → Option Driver
then_sees body room count i o None = None
then_sees body room count i o (Some d) = sees body room count i o d

abbrev pub sees_all : List ℕ → List ℕ → ℕ → ℕ → List ℕ → Option Driver → Option Driver
sees_all body room count i [] d = d
sees_all body room count i (o ∷ os) d = sees_all body room count (i + 1) os (then_sees body room count i o d)

abbrev pub driver_takes : List ℕ → List ℕ → List ℕ → ℕ → Bool
driver_takes body offsets room count =
    is_whole offsets room && is_some (sees_all body room count 0 (offsets_in offsets) (Some (record { reach = 0; used = 0; taken = 0; seen = []; last = None; least = 0 })))

-- those parcels have a plan that the driver takes
abbrev pub DriverTakesTheSame : Type 0
DriverTakesTheSame = (body offsets room : List ℕ) (count : ℕ) → is_some (plan_of body offsets room count) ≡ driver_takes body offsets room count
