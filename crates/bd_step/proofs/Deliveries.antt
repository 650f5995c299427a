-- How tables go on standing through the parts of a delivery.
use Rattle.bd_step.proofs.Words.{Actor, All, Before, Bool, Buffer, CanSend, Delivery, FlatObject, Identity, IfSome, IsCopy, IsDelivered, IsInside, Item, List, None, Object, ObjectTable, OfThread, OnlyWorks, Option, Some, Space, StandsAt, Tables, TransactionData, Work, add_buffer, add_notice, ap, arith, assign_numbers, buffer_of, cond, drop, filter, fold, fold_more, get_or, has_number_past_limit}
use Rattle.bd_step.proofs.{Words.{is_notice, is_own, is_some_and, is_strong_kind, length, make_objects, map, names_go, needed, not, object_bytes, object_in, object_of_item, overwritten, own_notices, refer, refl, subst, sym, take, take_all, translated, translation, true, with_carried, with_notice, withdraw_notice, ℕ, ◌&&◌, ◌++◌, ◌+◌, ◌<◌, ◌∙◌, ◌≡◌, ◌≤◌}, Changing.{with_objects}}
use Rattle.bd_objects.specs.Stands as objects

-- ---- notices

abbrev takes_notice : List Object → Item → Bool
takes_notice objects x = is_own x.flat.kind && is_strong_kind x.flat.kind && is_some_and (object_in objects x.object) (λ o. not o.told_strong)

pub withdrawn : (objects : List Object) (todo : List Work) (x : Item) (b : Bool) → b ≡ takes_notice objects x
    → cond b (filter (λ w. not (is_notice x.object w.kind)) todo) todo ≡ withdraw_notice objects todo x
withdrawn objects todo x b e = ap (λ (v : Bool). cond v (filter (λ w. not (is_notice x.object w.kind)) todo) todo) e

-- the object whose Notice is wanted
pub wanted_object : (f : Option Object) (w : Object → Bool) → is_some_and f w ≡ true → (x : Object) × (f ≡ Some x) × (w x ≡ true)
wanted_object None w e = absurd (cc)
wanted_object (Some x) w e = (x, refl, e)

pub notice_added : (s : Space) (seat : ℕ) (todo : List Work) (x : Item) (o : Object) → is_own x.flat.kind ≡ true → object_in s.objects x.object ≡ Some o
    → with_notice s.steps s.processes s.references (OfThread seat) todo o ≡ add_notice s seat todo x
notice_added s seat todo x o own found = rw (own, found) refl

-- one item more
pub todo_more : (n : ℕ) (t : Tables) (s : Space) (f : List Work → Item → List Work) (items : List Item) (k : ℕ) (d : Item) → k < length items
    → StandsAt n t (record s { todo = f (fold f s.todo (take k items)) (get_or items k d) }) → StandsAt n t (record s { todo = fold f s.todo (take (k + 1) items) })
todo_more n t s f items k d lt h = subst (λ (todo : List Work). StandsAt n t (record s { todo = todo })) (sym (fold_more f s.todo items k d lt)) h

-- ---- the translation

abbrev written : Space → ℕ → List ℕ → Item → List ℕ
written s q bytes x = overwritten bytes x.at (object_bytes (translated s.objects s.names q x))

pub translated_more : (s : Space) (q : ℕ) (base bytes new : List ℕ) (items : List Item) (k : ℕ) (d : Item) (flat : FlatObject) → k < length items
    → new ≡ take (get_or items k d).at bytes ++ object_bytes flat ++ drop ((get_or items k d).at + 24) bytes
    → flat ≡ translated s.objects s.names q (get_or items k d)
    → bytes ≡ fold (written s q) base (take k items)
    → new ≡ fold (written s q) base (take (k + 1) items)
translated_more s q base bytes new items k d flat lt e is so_far =
    let x = get_or items k d in
    e ∙ ap (λ (y : FlatObject). take x.at bytes ++ object_bytes y ++ drop (x.at + 24) bytes) is
    ∙ ap (λ (bs : List ℕ). written s q bs x) so_far
    ∙ sym (fold_more (written s q) base items k d lt)

-- ---- objects, references and names

abbrev delivered : Space → ℕ → List Object → List Item → Option Identity → Space
delivered s q made items target = assign_numbers (refer (make_objects s made) q items target) q (map object_of_item items)

known_is : (s : Space) (v : Delivery) (q : ℕ) (made : List Object) (items : List Item) (target : Option Identity)
    → q ≡ v.receiver.made → made ≡ v.sending.made → items ≡ v.sending.items → target ≡ v.target → delivered s q made items target ≡ with_carried s v
unfolding with_carried
known_is s v q made items target a b c e =
    ap (λ (x : ℕ). delivered s x made items target) a ∙ ap (λ (x : List Object). delivered s v.receiver.made x items target) b
    ∙ ap (λ (x : List Item). delivered s v.receiver.made v.sending.made x target) c ∙ ap (delivered s v.receiver.made v.sending.made v.sending.items) e

pub known_delivers : (s : Space) (v : Delivery) (place : ℕ) (managed : Option Identity) (made : List Object) (items : List Item) (target : Option Identity)
    → made ≡ v.sending.made → items ≡ v.sending.items → target ≡ v.target → s.steps ≡ place → s.manager ≡ managed → CanSend v s → IsDelivered place managed made items target s
known_delivers s v place managed made items target m i t at manages sends =
    let all : IsDelivered place managed v.sending.made v.sending.items v.target s = record { makes = record { at = at; manages = manages; new = sends.new }; carried = sends.carried; aimed = sends.aimed } in
    subst (λ os. IsDelivered place managed os items target s) (sym m)
    (subst (λ xs. IsDelivered place managed v.sending.made xs target s) (sym i)
    (subst (λ o. IsDelivered place managed v.sending.made v.sending.items o s) (sym t) all))

pub known_stands : (t : Tables) (os : ObjectTable) (s : Space) (v : Delivery) (q : ℕ) (made : List Object) (items : List Item) (target : Option Identity)
    → q ≡ v.receiver.made → made ≡ v.sending.made → items ≡ v.sending.items → target ≡ v.target
    → Before t s → objects.StandsFor os (delivered s q made items target) → Before (record t { objects = os }) (with_carried s v)
unfolding assign_numbers refer make_objects
known_stands t os s v q made items target a b c e h k =
    let P : Space → Type 0 = λ z. Before (record t { objects = os }) z in
    subst P (known_is s v q made items target a b c e) (with_objects s.steps t s os _ _ _ s.deaths h k)

pub known_full : (s : Space) (v : Delivery) (q : ℕ) (made : List Object) (items : List Item) (target : Option Identity)
    → q ≡ v.receiver.made → made ≡ v.sending.made → items ≡ v.sending.items → target ≡ v.target
    → has_number_past_limit (names_go (delivered s q made items target)).names ≡ true → has_number_past_limit (names_go (with_carried s v)).names ≡ true
known_full s v q made items target a b c e full =
    ap (λ (z : Space). has_number_past_limit (names_go z).names) (sym (known_is s v q made items target a b c e)) ∙ full

-- ---- ends of loops over items

pub fold_all : {A : Type 0} (f : A → Item → A) (a : A) (items : List Item) (k : ℕ) → length items ≤ k → fold f a (take k items) ≡ fold f a items
fold_all f a items k le = ap (fold f a) (take_all k items le)

pub todo_all : (n : ℕ) (t : Tables) (s : Space) (f : List Work → Item → List Work) (items : List Item) (k : ℕ) → length items ≤ k
    → StandsAt n t (record s { todo = fold f s.todo (take k items) }) → StandsAt n t (record s { todo = fold f s.todo items })
todo_all n t s f items k le h = subst (λ (todo : List Work). StandsAt n t (record s { todo = todo })) (fold_all f s.todo items k le) h

pub only_works : (a b c : Tables) (m n k : ℕ) → OnlyWorks a b m → OnlyWorks b c n → m + n ≡ k → OnlyWorks a c k
only_works a b c m n k h i e = search arith

-- ---- the buffer

pub buffer_is : (s : Space) (a : Actor) (d : TransactionData) (v w : Delivery) (made size : ℕ) (bytes offsets : List ℕ) → w ≡ v
    → s.steps ≡ made → size ≡ needed d.data_size d.offsets_size → bytes ≡ translation s w.receiver.made w.sending.bytes w.sending.items → offsets ≡ w.sending.offsets
    → (let b : Buffer = record (buffer_of s a d w) { made = made; size = size; bytes = bytes; offsets = offsets } in b) ≡ buffer_of s a d v
buffer_is s a d v w made size bytes offsets is m z b o =
    (λ i. record (buffer_of s a d w) { made = sym m i; size = z i; bytes = b i; offsets = o i }) ∙ ap (buffer_of s a d) is

-- the notices and the buffer in either order
pub filled_is : (s : Space) (a : Actor) (d : TransactionData) (v : Delivery) (seat : ℕ) (items : List Item) (b : Buffer) → items ≡ v.sending.items → b ≡ buffer_of (own_notices s seat items) a d v
    → add_buffer (own_notices s seat items) b ≡ own_notices (add_buffer s (buffer_of s a d v)) seat v.sending.items
unfolding own_notices add_buffer translation
filled_is s a d v seat items b i e =
    ap (add_buffer (own_notices s seat items)) e ∙ ap (λ (xs : List Item). add_buffer (own_notices s seat xs) (buffer_of (own_notices s seat xs) a d v)) i

-- objects that lie in the data lie in its copy
pub copy_inside : (copy : Option (List ℕ)) (bytes : List ℕ) (items : List Item) → IsCopy copy bytes items → All (IsInside bytes) items → IfSome copy (λ xs. All (IsInside xs) items)
copy_inside None bytes items is all = tt
copy_inside (Some xs) bytes items is all = subst (λ ys. All (IsInside ys) items) (sym is) all
