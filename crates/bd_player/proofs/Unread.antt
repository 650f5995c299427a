-- A reader whose first bytes don't begin a journal has none.
use Rattle.std.proofs.Common.{◌≡◌, ℕ, ◌<◌, ◌≤◌, inl, inr, List, [], ◌++◌, Option, Some, None, IfSome, arith, length, take, sym, ap, ◌∙◌, refl}
use Rattle.std.specs.List.{flat_map}
use Rattle.std.proofs.lemmas.List.{append_assoc, append-nil, take_all}
use Rattle.std.proofs.lemmas.Bool.{cases_lt}
use Rattle.std.proofs.lemmas.Option.{none-some}
use Rattle.std.specs.Io.KnownBytes.{Consumes, IsAtEnd}
use Rattle.bd_uapi.specs.Bytes.{word}
use Rattle.bd_spelling.specs.declared.versions.Version.{Version}
use Rattle.bd_spelling.specs.declared.versions.Version.TheVariants.{One, Two, Three}
use Rattle.bd_journal.specs.Cut.{HasHeading}
use Rattle.bd_spelling.specs.Spelling.{entry_bytes}
use Rattle.bd_journal.specs.Spelling.{magic, count_bytes}
use Rattle.bd_journal.specs.Reading.{behind_magic, version_from}

begins : (v : Version) (rest : List ℕ) → behind_magic (magic v ++ rest) ≡ Some rest
unfolding behind_magic version_from
begins One rest = refl
begins Two rest = refl
begins Three rest = refl

first : (v : Version) (rest : List ℕ) → take 8 (magic v ++ rest) ≡ magic v
first One rest = refl
first Two rest = refl
first Three rest = refl

-- none of these begins so, in whichever version
abbrev pub HasNoMagic : List ℕ → Type 0
HasNoMagic xs = (v : Version) (rest : List ℕ) → xs ≡ magic v ++ rest → ⊥

none_is : (o : Option (List ℕ)) (x : List ℕ) → o ≡ None → o ≡ Some x → ⊥
none_is o x none some = none-some x (sym none ∙ some)

no_magic : (old new : Option (List ℕ)) (front : List ℕ) (n : ℕ) → length front ≡ 8 → n ≤ length front → Consumes old new (take n front) → (n < length front → IsAtEnd new)
    → behind_magic (take n front) ≡ None → IfSome old HasNoMagic
no_magic None new front n long fits parts end none = tt
no_magic (Some xs) None front n long fits parts end none = absurd parts
no_magic (Some xs) (Some ys) front n long fits parts end none = λ v rest begun. elim (cases_lt n (length front)) [
  | inl short ↦ (
      let all : take n front ≡ magic v ++ rest = sym (append-nil (take n front)) ∙ ap (λ (zs : List ℕ). take n front ++ zs) (sym (end short)) ∙ sym parts ∙ begun in
      none_is (behind_magic (take n front)) rest none (ap behind_magic all ∙ begins v rest))
  | inr full ↦ (
      let whole : take n front ≡ front = take_all n front full in
      let same : front ≡ take 8 xs = search (arith) in
      let is : take n front ≡ magic v ++ [] = whole ∙ same ∙ ap (take 8) begun ∙ first v rest ∙ sym (append-nil (magic v)) in
      none_is (behind_magic (take n front)) [] none (ap behind_magic is ∙ begins v []))
]

-- what begins with none has no heading, and is no journal
without_heading : (xs : List ℕ) → HasNoMagic xs → HasHeading xs → ⊥
without_heading xs none h =
    let r = h.0 in
    let v = h.2.0 in
    let spelled = flat_map entry_bytes r.entries in
    let counted = count_bytes v h.2.1 ++ (spelled ++ h.1) in
    none v (word r.seats ++ counted) (
    h.2.2.parts
    ∙ append_assoc (magic v ++ word r.seats ++ count_bytes v h.2.1) spelled h.1
    ∙ append_assoc (magic v ++ word r.seats) (count_bytes v h.2.1) (spelled ++ h.1)
    ∙ append_assoc (magic v) (word r.seats) counted
    )

none_known : (known : Option (List ℕ)) → IfSome known HasNoMagic → IfSome known (λ bytes. HasHeading bytes → ⊥)
none_known None none = tt
none_known (Some xs) none = without_heading xs none

pub no_heading : (old new : Option (List ℕ)) (front : List ℕ) (n : ℕ) → length front ≡ 8 → n ≤ length front → Consumes old new (take n front) → (n < length front → IsAtEnd new)
    → behind_magic (take n front) ≡ None → IfSome old (λ bytes. HasHeading bytes → ⊥)
no_heading old new front n long fits parts end none = none_known old (no_magic old new front n long fits parts end none)

-- what was read first, and then all that is left, is all that there was
pub front_on : (old new : Option (List ℕ)) (front bytes : List ℕ) → Consumes old new front → IfSome new (λ rest. bytes ≡ front ++ rest) → IfSome old (λ all. bytes ≡ all)
front_on None new front bytes parts on = tt
front_on (Some xs) None front bytes parts on = absurd parts
front_on (Some xs) (Some ys) front bytes parts on = on ∙ sym parts
