-- What the kind of an object says.
use Rattle.std.specs.Prelude.{Bool, true, false}
use Rattle.bd_uapi.specs.declared.object.ObjectKind.{ObjectKind}
use Rattle.bd_uapi.specs.declared.object.ObjectKind.TheVariants.{Binder, WeakBinder, Handle, WeakHandle}

-- the sender's own object
abbrev pub is_own : ObjectKind → Bool
is_own Binder = true
is_own WeakBinder = true
is_own Handle = false
is_own WeakHandle = false

abbrev pub is_strong_kind : ObjectKind → Bool
is_strong_kind Binder = true
is_strong_kind WeakBinder = false
is_strong_kind Handle = true
is_strong_kind WeakHandle = false
