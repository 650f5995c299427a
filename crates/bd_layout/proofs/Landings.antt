-- One thing more put put.
use Rattle.std.proofs.Common.{◌≡◌, ℕ, ◌+◌, ◌<◌, ◌≤◌, List, ◌∷◌, length, drop, get_or, sym, ap, ◌∙◌}
use Rattle.std.proofs.lemmas.List.{drop_more, drop_all}
use Rattle.bd_layout.specs.declared.fixup.Fixup.{Fixup}
use Rattle.bd_layout.specs.Plans.{LiesWithin, AllWithin}
use Rattle.bd_layout.specs.Landed.{put_at, landed}

pub more_landed : (base : ℕ) (bytes new : List ℕ) (total : List ℕ) (fs : List Fixup) (k : ℕ) (d : Fixup) → k < length fs → new ≡ put_at base (get_or fs k d) bytes
    → landed base (drop k fs) bytes ≡ total → landed base (drop (k + 1) fs) new ≡ total
more_landed base bytes new total fs k d lt put so_far =
    ap (λ (ys : List ℕ). landed base (drop (k + 1) fs) ys) put ∙ sym (ap (λ (gs : List Fixup). landed base gs bytes) (drop_more fs k d lt)) ∙ so_far

pub none_left : (base : ℕ) (bytes total : List ℕ) (fs : List Fixup) (k : ℕ) → length fs ≤ k → landed base (drop k fs) bytes ≡ total → bytes ≡ total
none_left base bytes total fs k le so_far = sym (ap (λ (gs : List Fixup). landed base gs bytes) (drop_all k fs le)) ∙ so_far

fit_front : (n : ℕ) (f : Fixup) (fs gs : List Fixup) → gs ≡ f ∷ fs → AllWithin n gs → LiesWithin n f × AllWithin n fs
fit_front n f fs gs is all = rw is at all

pub first_fits : (n : ℕ) (fs : List Fixup) (k : ℕ) (d : Fixup) → k < length fs → AllWithin n (drop k fs) → LiesWithin n (get_or fs k d)
first_fits n fs k d lt all = (fit_front n (get_or fs k d) (drop (k + 1) fs) (drop k fs) (drop_more fs k d lt) all).0

pub more_fit : (n m : ℕ) (fs : List Fixup) (k : ℕ) (d : Fixup) → k < length fs → n ≡ m → AllWithin n (drop k fs) → AllWithin m (drop (k + 1) fs)
more_fit n m fs k d lt same all = rw (← same) ((fit_front n (get_or fs k d) (drop (k + 1) fs) (drop k fs) (drop_more fs k d lt) all).1)
