-- For SpacesAreTidy and the laws of calls and replies: small facts on frames, callers and servers.
use Rattle.bd_laws.proofs.words.Logic.{arith, ◌≡◌, ℕ, ◌==◌, true, false, cond, List, [], ◌∷◌, reverse, find, Option, Some, None, option_map, refl, eqb-true}
use Rattle.bd_laws.proofs.words.Types.{Frame, Work, Server, Serving, TodoList, OfThread, OfProcess}
use Rattle.bd_laws.proofs.words.Space.{Space, serves, innermost_in, served_innermost, is_item, unread_server, gone_caller, gone_server, goes_to, ancestry, waits_in, list_of_caller, made_of}
use Rattle.bd_laws.proofs.words.Laws.{In}
use Rattle.bd_laws.proofs.Lists.{find_in}

pub is_serving : (seat : ℕ) (v : Server) → serves seat v ≡ true → v ≡ Serving seat
is_serving seat v e = search (arith, eqb-true)

pub served_is : (s : Space) (seat : ℕ) (f : Frame) → served_innermost s seat ≡ Some f → (innermost_in s.frames seat ≡ Some f) × (f.server ≡ Serving seat)
unfolding served_innermost
served_is s seat f h = search (arith, is_serving)

pub same_item : (v w : Work) → v ≡ w → is_item v w ≡ true
same_item v w e = search arith

-- of this thread is told what it is when it is gone, of another one what it was
other_stays : {A : Type 0} (of : ℕ → A) (gone : A) (seat u t : ℕ) → (gone ≡ of t → ⊥) → (of u ≡ of t → u ≡ t) → cond (u == seat) gone (of u) ≡ of t → (of u ≡ of t) × ((t == seat) ≡ false)
other_stays of gone seat u t never same h = search arith

pub caller_stays : (seat : ℕ) (c : Option ℕ) (t : ℕ) → gone_caller seat c ≡ Some t → (c ≡ Some t) × ((t == seat) ≡ false)
caller_stays seat c t h = search (arith, other_stays)

pub unread_serving : (todo : List Work) (list : TodoList) (n : ℕ) (v : Server) (t : ℕ) → unread_server todo list n v ≡ Serving t → v ≡ Serving t
unread_serving todo list n v t h = search arith

pub server_stays : (seat : ℕ) (v : Server) (t : ℕ) → gone_server seat v ≡ Serving t → (v ≡ Serving t) × ((t == seat) ≡ false)
server_stays seat v t h = search (arith, other_stays)

-- a call that goes to a thread goes to the caller of a frame that its own innermost frame is inside of
pub goes_to_waiting : (s : Space) (seat p t : ℕ) → goes_to s seat p ≡ OfThread t
    → (f : Frame) × (innermost_in s.frames seat ≡ Some f) × ((g : Frame) × In g (ancestry (Some f.made) (reverse s.frames)) × (g.caller ≡ Some t) × (waits_in s.threads p g ≡ true))
unfolding goes_to
goes_to_waiting s seat p t h = at (innermost_in s.frames seat) refl h
  where
    on : (c : Option ℕ) → (elim c as (λ (x : Option ℕ). TodoList) [ None ↦ OfProcess p | Some u ↦ OfThread u ]) ≡ OfThread t → c ≡ Some t
    on c k = search arith

    found : (xs : List Frame) (g : Option Frame) → find (waits_in s.threads p) xs ≡ g → list_of_caller p g ≡ OfThread t → (f : Frame) × In f xs × (f.caller ≡ Some t) × (waits_in s.threads p f ≡ true)
    found xs None k q = absurd (cc)
    found xs (Some f) k q = let l = find_in (waits_in s.threads p) f xs k in (f, l.0, on f.caller q, l.1)

    nothing : (xs : List Frame) → list_of_caller p (find (waits_in s.threads p) (ancestry None xs)) ≡ OfThread t → ⊥
    nothing [] k = absurd (cc)
    nothing (x ∷ xs) k = nothing xs k

    at : (o : Option Frame) → innermost_in s.frames seat ≡ o → list_of_caller p (find (waits_in s.threads p) (ancestry (option_map made_of o) (reverse s.frames))) ≡ OfThread t
        → (f : Frame) × (innermost_in s.frames seat ≡ Some f) × ((g : Frame) × In g (ancestry (Some f.made) (reverse s.frames)) × (g.caller ≡ Some t) × (waits_in s.threads p g ≡ true))
    at None e k = absurd (nothing (reverse s.frames) k)
    at (Some f) e k = (f, e, found (ancestry (Some f.made) (reverse s.frames)) (find (waits_in s.threads p) (ancestry (Some f.made) (reverse s.frames))) refl k)
