-- A parcel at its place in a window.
use Rattle.std.specs.Prelude.{◌+◌, ◌*◌, ℕ, List, [], ◌∷◌, ◌++◌, take, drop, replicate}
use Rattle.bd_uapi.specs.Bytes.{long}
use Rattle.bd_layout.specs.declared.fixup.Fixup.{Fixup}
use Rattle.bd_layout.specs.declared.fixup.Fixup.TheVariants.{Pointer, Descriptor, Descriptors}

-- one thing put right, where the parcel's first byte is at `base` for its receiver. Until a descriptor has its number there, the number is -1
abbrev pub put_at : ℕ → Fixup → List ℕ → List ℕ
put_at base (Pointer at to) bytes = take at bytes ++ long (base + to) ++ drop (at + 8) bytes
put_at base (Descriptor at) bytes = take at bytes ++ long 0xffffffff ++ drop (at + 8) bytes
put_at base (Descriptors at count) bytes = take at bytes ++ replicate (4 * count) 255 ++ drop (at + 4 * count) bytes

abbrev pub landed : ℕ → List Fixup → List ℕ → List ℕ
landed base [] bytes = bytes
landed base (f ∷ fs) bytes = landed base fs (put_at base f bytes)
