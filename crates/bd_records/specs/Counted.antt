-- Each counter in the records of objects (O) and of names (N) is a count of these references: all to an object, its owner's handshakes,
-- the context manager's, and by name those that a process asked for and those that its buffers carry.
use Rattle.std.specs.{List.{count_by}, Prelude.{Bool, List, Option, false, true, ℕ, ◌≡◌, ◌≤◌}}
use Rattle.bd_ways.specs.Words.{Identity, Object, Reference}
use Rattle.bd_space.specs.References.{is_asking, is_shaking, owned_in}
use Rattle.bd_records.specs.{Count.{of_strength}, Counting.{asked_of, carried_of, is_carrying, is_managing, is_to, managed_of, owed_of, total_of}, declared.row.{NameRow.{NameRow}, ObjectRow.{ObjectRow}}}

pub record CountsAre (O : Identity → Option ObjectRow) (N : ℕ → Identity → Option NameRow) (objects : List Object) (l : List Reference) : Type 0 where
  pub totals : (o : Identity) (s : Bool) → of_strength s (total_of (O o)) ≡ count_by (is_to o s) l
  pub owed : (o : Identity) (s : Bool) → of_strength s (owed_of (O o)) ≡ count_by (is_shaking o s) l
  pub managed : (o : Identity) (s : Bool) → of_strength s (managed_of (O o)) ≡ count_by (is_managing o s) l
  pub asked : (p : ℕ) (o : Identity) (s : Bool) → of_strength s (asked_of (N p o)) ≡ count_by (is_asking p o s) l
  -- nobody asks for its own
  pub unasked : (p : ℕ) (o : Identity) (s : Bool) → owned_in objects p o ≡ true → count_by (is_asking p o s) l ≡ 0
  pub carried : (p : ℕ) (o : Identity) (s : Bool) → owned_in objects p o ≡ false → of_strength s (carried_of (N p o)) ≡ count_by (is_carrying p o s) l
  -- for the owner's own names too, so that nothing counts once no reference is left
  pub carried_few : (p : ℕ) (o : Identity) (s : Bool) → of_strength s (carried_of (N p o)) ≤ count_by (is_carrying p o s) l
