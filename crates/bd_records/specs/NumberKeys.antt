-- The keys of names by object, and what the map says of one.
use Rattle.std.specs.{HashMap.{HashMap, get_by}, Prelude.{Bool, Option, ℕ, ◌&&◌, ◌==◌}}
use Rattle.bd_ways.specs.Words.{Identity, same}
use Rattle.bd_records.specs.declared.number_key.ObjectKey.{ObjectKey}

abbrev pub is_object_key : ℕ → Identity → ObjectKey → Bool
is_object_key p o k = (p == k.process) && same o k.object

abbrev pub number_at : {S : Type 0} → HashMap ObjectKey ℕ S → ℕ → Identity → Option ℕ
number_at numbers p o = get_by (is_object_key p o) numbers
