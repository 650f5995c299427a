-- Pieces that are written one after the other.
use Rattle.std.proofs.Common.{◌≡◌, ℕ, ◌+◌, ◌-◌, ◌<◌, arith, length, get_or, take, drop, List, [], ◌∷◌, ◌++◌, Option, Result, Ok, Err, IsErr, OnOk, OnErr, refl, sym, ap, ◌∙◌, subst, append_assoc}
use Rattle.std.specs.List.{flat_map}
use Rattle.std.proofs.Math.Seq.{take-add}
use Rattle.std.proofs.lemmas.List.{append-nil, take-append-drop, take_all, length-drop, drop_more}
use Rattle.std.proofs.lemmas.Grind.{flat_map-append}
use Rattle.std.proofs.KnownBytes.{Appends-trans}
use Rattle.std.specs.Io.KnownBytes.{Appends}
use Rattle.bd_uapi.specs.Bytes.{word}
use Rattle.bd_uapi.specs.declared.command.Command.{Command}
use Rattle.bd_codec.specs.Spelling.{command_bytes}
use Rattle.bd_space.specs.declared.step.Parcel.{Parcel}
use Rattle.bd_space.specs.declared.step.Step.TheVariants as step
use Rattle.bd_space.specs.declared.step.Entry.{Entry}
use Rattle.bd_spelling.specs.Spelling.{block, parcel_bytes, step_bytes, answer_bytes, entry_bytes}
use Rattle.bd_spelling.specs.Writing.{Begins, Sends}

pub begins_part : (a b : Option (List ℕ)) (n : ℕ) (x : List ℕ) → Appends a b (take n x) → Begins a b x
begins_part a b n x s = (take n x, drop n x, sym (take-append-drop n x), s)

-- the rest of a slice, and as much of it as was taken
pub sent_more : (a b c : Option (List ℕ)) (n m : ℕ) (x : List ℕ) → Appends a b (take n x) → Appends b c (take m (take (length x - n) (drop n x))) → Appends a c (take (n + m) x)
sent_more a b c n m x s t =
    let rest : take (length x - n) (drop n x) ≡ drop n x = take_all (length x - n) (drop n x) (omega (arith, length-drop n x)) in
    let more : Appends b c (take m (drop n x)) = subst (λ (l : List ℕ). Appends b c (take m l)) rest t in
    subst (Appends a c) (sym (take-add n m x)) (Appends-trans a b c (take n x) (take m (drop n x)) s more)

-- a beginning of what comes first
pub begins_first : (a b : Option (List ℕ)) (x y : List ℕ) → Begins a b x → Begins a b (x ++ y)
begins_first a b x y s = (s.0, s.1 ++ y, ap (λ (l : List ℕ). l ++ y) s.2 ∙ append_assoc s.0 s.1 y, s.3)

-- what comes first, and a beginning of the rest
pub begins_then : (a b c : Option (List ℕ)) (x y : List ℕ) → Appends a b x → Begins b c y → Begins a c (x ++ y)
begins_then a b c x y s t = (x ++ t.0, t.1, ap (λ (l : List ℕ). x ++ l) t.2 ∙ sym (append_assoc x t.0 t.1), Appends-trans a b c x t.0 s t.3)

pub sends_then : {T E : Type 0} (r : Result T E) (a b c : Option (List ℕ)) (x y : List ℕ) → Appends a b x → Sends b c r y → Sends a c r (x ++ y)
sends_then (Ok u) a b c x y s t = Appends-trans a b c x y s t
sends_then (Err e) a b c x y s t = begins_then a b c x y s t

-- what a `?` hands on
pub sends_err : {T E : Type 0} (r : Result T E) (a b : Option (List ℕ)) (x : List ℕ) → IsErr r → Begins a b x → Sends a b r x
sends_err (Ok u) a b x e s = absurd cc
sends_err (Err u) a b x e s = s

pub on_err : {T E : Type 0} (r : Result T E) (P : Type 0) → IsErr r → P → OnErr r P
on_err (Ok u) P e p = absurd cc
on_err (Err u) P e p = p

pub ok_of_sends : {T E : Type 0} (r : Result T E) (a b : Option (List ℕ)) (x : List ℕ) → Sends a b r x → OnOk r (Appends a b x)
ok_of_sends (Ok u) a b x s = s
ok_of_sends (Err u) a b x s = tt

pub err_of_sends : {T E : Type 0} (r : Result T E) (a b : Option (List ℕ)) (x : List ℕ) → Sends a b r x → OnErr r (Begins a b x)
err_of_sends (Ok u) a b x s = tt
err_of_sends (Err u) a b x s = s

-- What was sent may be told by equal bytes.
pub sends_same : {T E : Type 0} (r : Result T E) (a b : Option (List ℕ)) (x y : List ℕ) → x ≡ y → Sends a b r x → Sends a b r y
sends_same r a b x y e s = subst (Sends a b r) e s

-- what a `?` hands on, and all of two parts, where the bytes are said in another way
pub sends_part : {T E : Type 0} (r : Result T E) (a b : Option (List ℕ)) (x y : List ℕ) → x ≡ y → IsErr r → Begins a b x → Sends a b r y
sends_part r a b x y e is s = sends_err r a b y is (subst (Begins a b) e s)

pub sends_both : {T E : Type 0} (r : Result T E) (a b c : Option (List ℕ)) (x y z : List ℕ) → x ++ y ≡ z → Appends a b x → Sends b c r y → Sends a c r z
sends_both r a b c x y z e s t = sends_same r a c (x ++ y) z e (sends_then r a b c x y s t)

-- the pieces before, and a beginning of the next
pub begins_next : {X : Type 0} (f : X → List ℕ) (xs : List X) (i : ℕ) (d : X) (a b c : Option (List ℕ)) → i < length xs → Appends a b (flat_map f (take i xs)) → Begins b c (f (get_or xs i d)) → Begins a c (flat_map f xs)
begins_next {X} f xs i d a b c lt s t =
    let at = get_or xs i d in
    let after = flat_map f (drop (i + 1) xs) in
    let parts : flat_map f (take i xs) ++ (f at ++ after) ≡ flat_map f xs =
    sym (flat_map-append f (take i xs) (at ∷ drop (i + 1) xs)) ∙ ap (flat_map f) (ap (λ (l : List X). take i xs ++ l) (sym (drop_more xs i d lt)) ∙ take-append-drop i xs) in
    subst (Begins a c) parts (begins_then a b c (flat_map f (take i xs)) (f at ++ after) s (begins_first b c (f at) after t))

-- how pieces make up a step and an entry
pub open_parts : (pid euid window : ℕ) (a b c : List ℕ) → a ≡ word pid → b ≡ word euid → c ≡ word window → (0 ∷ []) ++ (a ++ (b ++ (c ++ []))) ≡ step_bytes (step.Open pid euid window)
open_parts pid euid window a b c p q r = rw (p, q, r) refl

tagged_block : (tag : ℕ) (len text rest : List ℕ) → len ≡ word (length text) → ((tag ∷ []) ++ (len ++ (text ++ []))) ++ rest ≡ tag ∷ block text ++ rest
tagged_block tag len text rest is = rw (is, append-nil text) refl

pub command_parts : (c : Command) (p : Option Parcel) (l spelled : List ℕ) → l ≡ word (length spelled) → spelled ≡ command_bytes c → ((3 ∷ []) ++ (l ++ (spelled ++ []))) ++ parcel_bytes p ≡ step_bytes (step.Command c p)
command_parts c p l spelled len is = tagged_block 3 l spelled (parcel_bytes p) len ∙ ap (λ (text : List ℕ). 3 ∷ block text ++ parcel_bytes p) is

pub entry_parts : (e : Entry) (a b c : List ℕ) → a ≡ word e.seat → b ≡ word (length (step_bytes e.step)) → c ≡ word (length (answer_bytes e.answer))
    → (a ++ (b ++ [])) ++ (step_bytes e.step ++ (c ++ answer_bytes e.answer)) ≡ entry_bytes e
entry_parts e a b c p q r = rw (p, q, r) refl
