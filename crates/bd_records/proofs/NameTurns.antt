-- The record under a number is changed where it stands, if it is of an object: each name is still found, and no other record is changed.
use Rattle.bd_records.proofs.Words.{Bool, Identity, NameRow, None, Option, Some, ap, arith, cond, eqb-true, false, is_at, is_there_and, object_of, on_slot, option_map, refl, same, same_eq, same_self, subst, sym, true, ℕ, ◌&&◌, ◌==◌, ◌∙◌, ◌≡◌}
use Rattle.bd_records.proofs.{Keyed.{AreFound, Lead, set_at, set_found, set_leads}, Naming.{by_process, own_process, same_slots}}

abbrev is_of : Identity → NameRow → Bool
is_of o w = same o w.object

of_object : (o : Identity) (v : Option NameRow) → is_there_and (is_of o) v ≡ true → option_map object_of v ≡ Some o
of_object o None e = absurd cc
of_object o (Some w) e = ap Some (sym (same_eq o w.object e))

is_meant : (o : Identity) (v : Option NameRow) → option_map object_of v ≡ Some o → is_there_and (is_of o) v ≡ true
is_meant o None e = absurd cc
is_meant o (Some w) e = let is : w.object ≡ o = cc in ap (same o) is ∙ same_self o

-- rows, rows': by process and number, before and after; numbers: by process and object; meant: whether the record was of the object
module _ (rows rows' : ℕ → ℕ → Option NameRow) (numbers : ℕ → Identity → Option ℕ) (p k : ℕ) (o : Identity) (meant : Bool)
    (found : (q : ℕ) → AreFound (λ j. option_map object_of (rows q j)) (numbers q))
    (leads : (q : ℕ) → Lead (λ j. option_map object_of (rows q j)) (numbers q))
    (is : meant ≡ is_there_and (is_of o) (rows p k))
    (f : NameRow → NameRow) (keeps : (w : NameRow) → w.object ≡ o → (f w).object ≡ o)
    (writes : (q j : ℕ) → rows' q j ≡ cond ((p == q) && (meant && (k == j))) (option_map f (rows q j)) (rows q j)) where
  here : meant ≡ true → numbers p o ≡ Some k
  here e = found p o k (of_object o (rows p k) (sym is ∙ e))

  own_writes : meant ≡ true → (j : ℕ) → rows' p j ≡ cond (k == j) (option_map f (rows p j)) (rows p j)
  own_writes e j = grind (arith, writes p j, own_process p, e)

  same_rows : meant ≡ false → (q j : ℕ) → rows' q j ≡ rows q j
  same_rows e q j = case (p == q) refl
    where
      case : (b : Bool) → (p == q) ≡ b → rows' q j ≡ rows q j
      case true b = grind (arith, writes q j, b, e)
      case false b = grind (arith, writes q j, b)

  pub turned_found : (q : ℕ) → AreFound (λ j. option_map object_of (rows' q j)) (numbers q)
  turned_found = case meant refl
    where
      case : (b : Bool) → meant ≡ b → (q : ℕ) → AreFound (λ j. option_map object_of (rows' q j)) (numbers q)
      case false b = λ q x j e. found q x j (sym (ap (option_map object_of) (same_rows b q j)) ∙ e)
      case true b = by_process (λ q. AreFound (λ j. option_map object_of (rows' q j)) (numbers q)) p
          (set_found object_of (rows p) (rows' p) (numbers p) (numbers p) o k (found p) (leads p) (here b) f keeps (own_writes b))
          (λ q off x j e. found q x j (grind (arith, e, writes q j, off)))

  pub turned_leads : (q : ℕ) → Lead (λ j. option_map object_of (rows' q j)) (numbers q)
  turned_leads = case meant refl
    where
      case : (b : Bool) → meant ≡ b → (q : ℕ) → Lead (λ j. option_map object_of (rows' q j)) (numbers q)
      case false b = λ q x j e. ap (option_map object_of) (same_rows b q j) ∙ leads q x j e
      case true b = by_process (λ q. Lead (λ j. option_map object_of (rows' q j)) (numbers q)) p
          (set_leads object_of (rows p) (rows' p) (numbers p) (numbers p) o k (found p) (leads p) (here b) f keeps (own_writes b))
          (λ q off x j e. grind (arith, leads q x j e, writes q j, off))

  left : meant ≡ false → (q : ℕ) (x : Identity) (d : Bool) → (p == q) ≡ d → on_slot None (rows' q) (numbers q x)
      ≡ cond ((p == q) && (meant && same o x)) (option_map f (on_slot None (rows q) (numbers q x))) (on_slot None (rows q) (numbers q x))
  left b q x true d = grind (arith, b, d, same_slots (rows q) (rows' q) (numbers q x) (same_rows b q))
  left b q x false d = grind (arith, b, d, same_slots (rows q) (rows' q) (numbers q x) (same_rows b q))

  pub turned_at : (q : ℕ) (x : Identity) → on_slot None (rows' q) (numbers q x)
      ≡ cond ((p == q) && (meant && same o x)) (option_map f (on_slot None (rows q) (numbers q x))) (on_slot None (rows q) (numbers q x))
  turned_at = case meant refl
    where
      case : (b : Bool) → meant ≡ b → (q : ℕ) (x : Identity) → on_slot None (rows' q) (numbers q x)
          ≡ cond ((p == q) && (meant && same o x)) (option_map f (on_slot None (rows q) (numbers q x))) (on_slot None (rows q) (numbers q x))
      case false b = λ q x. left b q x (p == q) refl
      case true b = by_process (λ q. (x : Identity) → on_slot None (rows' q) (numbers q x)
          ≡ cond ((p == q) && (meant && same o x)) (option_map f (on_slot None (rows q) (numbers q x))) (on_slot None (rows q) (numbers q x))) p
          (λ x. grind (
            arith,
            own_process p,
            b,
            set_at object_of (rows p) (rows' p) (numbers p) (numbers p) o k (found p) (leads p) (here b) f keeps (own_writes b) x,
          ))
          (λ q off x. grind (arith, off, same_slots (rows q) (rows' q) (numbers q x) (λ j. grind (arith, off, writes q j))))

  -- it was of the object just if that has the number
  pub meant_is : meant ≡ is_at k (numbers p o)
  meant_is = case meant refl (numbers p o) refl
    where
      case : (b : Bool) → meant ≡ b → (n : Option ℕ) → numbers p o ≡ n → meant ≡ is_at k n
      case true b n e = subst (λ m. meant ≡ is_at k m) (sym (here b) ∙ e) (grind (arith, b))
      case false b None e = b
      case false b (Some j) e = other (j == k) refl
        where
          other : (d : Bool) → (j == k) ≡ d → meant ≡ is_at k (Some j)
          other false d = grind (arith, b, d)
          other true d =
              let led : option_map object_of (rows p k) ≡ Some o = subst (λ i. option_map object_of (rows p i) ≡ Some o) (eqb-true j k d) (leads p o j e) in
              let there = is_meant o (rows p k) led in
              absurd (grind (arith, sym b ∙ is ∙ there))
