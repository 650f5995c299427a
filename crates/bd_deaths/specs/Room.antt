-- How many notifications a table may still take without memory, how many it has, and what a change takes of that.
use Rattle.std.specs.{Prelude.{ℕ, ◌-◌, min}, HashMap.{spare}}
use Rattle.slab.specs.Slab.{slab_len}
use Rattle.bd_keys.specs.Tables as tables
use Rattle.bd_keys.specs.Look.{word_room}
use Rattle.bd_chains.specs.Lists.{lists_room}
use Rattle.bd_deaths.specs.declared.table.DeathTable.{DeathTable}

unfoldable pub death_room : DeathTable → ℕ
death_room t =
    min (min (t.slots.capacity - slab_len t.slots) (18446744073709551615 - t.next))
    (min (min (lists_room t.objects.chains (spare t.objects.numbers.all)) (lists_room t.processes.chains (spare t.processes.numbers.all)))
    (min (spare t.places) (min (spare t.names) (word_room t.cookies))))

unfoldable pub death_count : DeathTable → ℕ
death_count t = slab_len t.slots

abbrev pub Uses : DeathTable → DeathTable → ℕ → Type 0
Uses = tables.Uses death_room death_count
