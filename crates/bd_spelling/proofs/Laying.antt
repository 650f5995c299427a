-- One spelling behind another.
use Rattle.std.proofs.Common.{◌≡◌, ℕ, ◌+◌, ◌≤◌, List, ◌++◌, length, take, drop, sym, ap, subst, ◌∙◌, arith}
use Rattle.std.proofs.lemmas.Bool.{le-leb}
use Rattle.std.proofs.lemmas.List.{append_assoc, append-nil, length-append, drop-drop, drop_all, take_all, take-append-drop}
use Rattle.bd_spelling.specs.Laid.{IsLaid, IsLaidIfRoom}

pub laid_then : (at e f : ℕ) (xs ys old mid new : List ℕ) → IsLaid at xs old mid e → IsLaid e ys mid new f → IsLaid at (xs ++ ys) old new f
laid_then at e f xs ys old mid new a b =
    let k = length ys in
    let more : f ≡ e + k = b.ends in
    record {
      ends = omega (arith, a.ends, b.ends, length-append xs ys);
      front = b.front ∙ ap (λ (t : List ℕ). t ++ ys) a.front ∙ append_assoc (take at old) xs ys;
      rest = b.rest ∙ ap (λ (i : ℕ). drop i mid) more ∙ sym (drop-drop k e mid) ∙ ap (drop k) a.rest ∙ drop-drop k e old ∙ ap (λ (i : ℕ). drop i old) (sym more);
      same = b.same ∙ a.same;
    }

pub laid_as : (at e : ℕ) (xs ys old new : List ℕ) → xs ≡ ys → IsLaid at xs old new e → IsLaid at ys old new e
laid_as at e xs ys old new same a = subst (λ (t : List ℕ). IsLaid at t old new e) same a

pub laid_whole : (e : ℕ) (bytes old new : List ℕ) → IsLaid 0 bytes old new e → length bytes ≤ length old → IsLaidIfRoom bytes old new
laid_whole e bytes old new a fits =
    let end : e ≡ length bytes = a.ends ∙ omega arith in
    rw (le-leb (length bytes) (length old) fits)
    (sym (take-append-drop e new) ∙ ap (λ (t : List ℕ). t ++ drop e new) a.front ∙ ap (λ (t : List ℕ). bytes ++ t) (a.rest ∙ ap (λ (i : ℕ). drop i old) end))

-- a vector's bytes that were all lent, and are as many as before, are those that came back
pub written_back : (n : ℕ) (bytes out : List ℕ) → n ≡ length bytes → length out ≡ length bytes → take n (out ++ drop (length out) bytes) ≡ out
written_back n bytes out all same =
    ap (λ (t : List ℕ). take n (out ++ t)) (drop_all (length out) bytes (omega (arith, same))) ∙ ap (take n) (append-nil out) ∙ take_all n out (omega (arith, same, all))
