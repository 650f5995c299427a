-- The objects that a parcel makes, and room for more of them.
use Rattle.std.specs.Prelude.{ℕ, ◌+◌, ◌-◌, List, min, vec_len, vec_capacity}
use Rattle.bd_ways.specs.Words.{Object}
use Rattle.bd_keys.specs.Look.{word_room}
use Rattle.bd_objects.specs.Later.{few}
use Rattle.bd_objects.specs.declared.made.Made.{Made}

abbrev pub made_items : Made → List Object
made_items m = m.objects.items

-- how many more objects may come without memory
unfoldable pub made_room : Made → ℕ
made_room m = min (vec_capacity m.objects - vec_len m.objects) ((few - vec_len m.objects) + word_room m.later)
