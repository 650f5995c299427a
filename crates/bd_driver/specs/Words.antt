-- The page's word.
use Rattle.std.specs.Prelude.{ℕ, ◌+◌, ◌*◌, List, length}
use Rattle.bd_space.specs.declared.step.Entry.{Entry}
use Rattle.bd_driver.specs.Views.{ready_of}

-- the taken bit, the ready bits from bit 1 on, and the stamp from bit 32 on
abbrev pub page_word : ℕ → ℕ → List Entry → ℕ
page_word seats taken entries = taken + 2 * ready_of seats entries + 4294967296 * length entries
