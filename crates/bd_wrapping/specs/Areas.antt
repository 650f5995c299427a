-- Where a parcel lies in a client's memory, and where it goes.
use Rattle.std.specs.Prelude.{◌≡◌, ◌+◌, ◌*◌, ◌%◌, ◌≤◌, ℕ, Option, Some, None, Bool, nat_le, ◌==◌, ◌&&◌, if◌then◌else◌}
use Rattle.bd_wrapping.specs.Trailers.{round_8}
use Rattle.bd_wrapping.specs.declared.parts.{Asked.{Asked}, Parts.{Parts}}

abbrev pub is_inside : ℕ → ℕ → ℕ → Bool
is_inside place size area = nat_le (place + size) area

abbrev pub buffers_from : Asked → ℕ
buffers_from a = round_8 (a.offsets + a.offsets_size)

abbrev pub buffers_to : Asked → ℕ
buffers_to a = round_8 a.body_size + round_8 a.offsets_size

abbrev pub are_inside : Asked → ℕ → Bool
are_inside a area =
    is_inside a.body a.body_size area && is_inside a.offsets a.offsets_size area && is_inside (buffers_from a) a.buffers_size area && nat_le (buffers_to a + a.buffers_size) area

abbrev pub the_parts : Asked → Parts
the_parts a = record {
  body = record { from = a.body; to = 0; size = a.body_size };
  offsets = record { from = a.offsets; to = round_8 a.body_size; size = a.offsets_size };
  buffers = record { from = buffers_from a; to = buffers_to a; size = a.buffers_size };
}

abbrev pub parts_of : Asked → ℕ → ℕ → Option Parts
parts_of a area objects =
    if nat_le a.offsets_size (8 * objects) && (a.buffers_size % 8 == 0) && are_inside a area then Some (the_parts a) else None

-- ---- a law

-- each lies within the area, and goes to its own bytes of as much memory, behind the one before
pub record IsCopied (area : ℕ) (p : Parts) : Type 0 where
  pub body : p.body.from + p.body.size ≤ area
  pub offsets : p.offsets.from + p.offsets.size ≤ area
  pub buffers : p.buffers.from + p.buffers.size ≤ area
  pub first : p.body.to + p.body.size ≤ p.offsets.to
  pub second : p.offsets.to + p.offsets.size ≤ p.buffers.to
  pub third : p.buffers.to + p.buffers.size ≤ area

abbrev pub PartsAreCopied : Type 0
PartsAreCopied = (a : Asked) (area objects : ℕ) (p : Parts) → parts_of a area objects ≡ Some p → IsCopied area p
