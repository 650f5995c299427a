-- What holds of each thread that waits, and of all threads of a process.
use Rattle.std.proofs.Common.{◌≡◌, ◌+◌, ◌⊎◌, inl, inr, ℕ, Bool, true, false, List, [], ◌∷◌, refl, ap, ◌∙◌, arith}
use Rattle.std.proofs.lemmas.Bool.{eqb-true}
use Rattle.std.specs.Prelude.{not, ◌==◌, ◌&&◌, ◌||◌, if◌then◌else◌}
use Rattle.bd_reader.specs.declared.facts.{Facts.{Facts}}
use Rattle.bd_waiting.specs.declared.waits.{Waits.{Waits}, Place.{Place}}
use Rattle.bd_waiting.specs.declared.waits.Place.TheVariants as place
use Rattle.bd_waiting.specs.declared.requests.Begin.TheVariants as begin
use Rattle.bd_waiting.specs.declared.requests.End.TheVariants as end
use Rattle.bd_waiting.specs.Waits.{waits_on, is_apart, is_concerned, place_of, placed, reads_for, has_bell_for, wanted_of, is_known, planned, told_of}
use Rattle.bd_waiting.specs.Requests.{is_unread}
use Rattle.bd_waiting.specs.Laws.{is_told_of, WhoWaitsIsToldOf, Idle, behind, count_told, OneTellsForAll, WhoHasNoBellNeedNotBeAsked, WhoIsAwayIsNotToldOf, ItTellsWhatIsWanted, AReadThatMayNotWaitIsAnswered}

-- ---- who is told of

apart : (s p : Bool) → s ≡ true → p ≡ false → (s && not p) ≡ true
apart true false e g = refl
apart true true e g = absurd cc
apart false p e g = absurd cc

-- a: apart, b: its read waits, r: with room, q: a doorbell, c: concerned
one_of : (a b r q c : Bool) → a ≡ true → b ≡ true → (((a && q && c) || (a && b && not (a && b && r))) || (a && b && r)) ≡ true
one_of true true true true true e g = refl
one_of true true true true false e g = refl
one_of true true true false true e g = refl
one_of true true true false false e g = refl
one_of true true false true true e g = refl
one_of true true false true false e g = refl
one_of true true false false true e g = refl
one_of true true false false false e g = refl
one_of true false r q c e g = absurd cc
one_of false b r q c e g = absurd cc

pub who_waits : WhoWaitsIsToldOf
who_waits f calling own w seat on pool =
    one_of (is_apart w) (waits_on w) f.has_room w.polls (is_concerned f calling own) (apart w.has_seat (w.is_idle && not w.is_herald) seat pool) on

quiet : (a b r q c : Bool) → a ≡ false → (((a && q && c) || (a && b && not (a && b && r))) || (a && b && r)) ≡ false
quiet false b r q c e = refl
quiet true b r q c e = absurd cc

off : (s : Bool) → (s && not (true && not false)) ≡ false
off true = refl
off false = refl

if_one : (b : Bool) → b ≡ true → ◌≡◌ {A = ℕ} (if b then 1 else 0) 1
if_one true e = refl
if_one false e = absurd cc

if_none : (b : Bool) → b ≡ false → ◌≡◌ {A = ℕ} (if b then 1 else 0) 0
if_none true e = absurd cc
if_none false e = refl

no_more : (n m : ℕ) → n ≡ 0 → m ≡ 0 → n + m ≡ 0
no_more n m e g = search arith

one_more : (n m : ℕ) → n ≡ 1 → m ≡ 0 → n + m ≡ 1
one_more n m e g = search arith

none_behind : (is : List Idle) → count_told (behind is) ≡ 0
none_behind [] = refl
none_behind (i ∷ is) =
    let w : Waits = record (i.0) { is_idle = true; is_herald = false } in
    no_more _ _
    (if_none (is_told_of (wanted_of (i.1) 0 (i.2) w)) (quiet (is_apart w) (waits_on w) (i.1).has_room w.polls (is_concerned (i.1) 0 (i.2)) (off w.has_seat)))
    (none_behind is)

pub one_tells : OneTellsForAll
one_tells i is seat on =
    let w : Waits = record (i.0) { is_idle = true; is_herald = true } in
    one_more _ _
    (if_one (is_told_of (wanted_of (i.1) 0 (i.2) w)) (who_waits (i.1) 0 (i.2) w seat on refl))
    (none_behind is)

-- ---- of whom it need not be asked

same_poll : (p a b : Bool) → p ≡ false → (p && not a) ≡ (p && not b)
same_poll false a b e = refl
same_poll true a b e = absurd cc

same_place : (idle a b : Bool) (w : Waits) → w.polls ≡ false → place_of idle a w ≡ place_of idle b w
same_place idle a b w e =
    ap (λ z. if not w.has_seat || not idle then place.Nowhere else if waits_on w then place.First else if z then place.Last else place.Nowhere)
    (same_poll w.polls a b e)

polls_still : (p : Place) (alone : Bool) (w : Waits) → w.polls ≡ false → (placed p alone w).polls ≡ false
polls_still place.Nowhere alone w e = e
polls_still place.First alone w e = e
polls_still place.Last alone w e = e

same_bell : (t p a b : Bool) → p ≡ false → (t && p && a) ≡ (t && p && b)
same_bell true false a b e = refl
same_bell false false a b e = refl
same_bell t true a b e = absurd cc

same_told : (f : Facts) (calling : ℕ) (a b : Bool) (w : Waits) → w.polls ≡ false → told_of f calling a w ≡ told_of f calling b w
same_told f calling a b w e =
    ap (λ z. planned (record (wanted_of f calling a w) { has_bell = z || (is_apart w && waits_on w && not (reads_for f w)) }) w)
    (same_bell (is_apart w) w.polls (is_concerned f calling a) (is_concerned f calling b) e)

pub need_not : WhoHasNoBellNeedNotBeAsked
need_not f calling a b alone ending w e =
    ap (λ p. told_of f calling a (placed p alone w)) (same_place (f.is_idle && not ending) a b w e)
    ∙ same_told f calling a b (placed (place_of (f.is_idle && not ending) b w) alone w) (polls_still (place_of (f.is_idle && not ending) b w) alone w e)

-- ---- of whom there is nothing to be told

nowhere : (a r k p o : Bool) → r ≡ false → p ≡ false
    → (if a then place.Nowhere else if r && not k then place.First else if p && not o then place.Last else place.Nowhere) ≡ place.Nowhere
nowhere true r k p o e g = refl
nowhere false false k false o e g = refl
nowhere false false k true o e g = absurd cc
nowhere false true k p o e g = absurd cc

no_bell : (a p c r k x : Bool) → p ≡ false → r ≡ false → ((a && p && c) || (a && (r && not k) && not x)) ≡ false
no_bell true false c false k x e g = refl
no_bell false p c r k x e g = refl
no_bell true true c r k x e g = absurd cc
no_bell true false c true k x e g = absurd cc

no_read : (a r k m : Bool) → r ≡ false → (a && (r && not k) && m) ≡ false
no_read true false k m e = refl
no_read false r k m e = refl
no_read true true k m e = absurd cc

no_calls : (b r w x l d : Bool) → b ≡ false → r ≡ false → w ≡ false → x ≡ false
    → ((b && not w) || ((r && not (b && not w)) && not x) || (w && not b) || (x && not ((r && not (b && not w)) && l && d))) ≡ false
no_calls false false false false l d e1 e2 e3 e4 = refl
no_calls true r w x l d e1 e2 e3 e4 = absurd cc
no_calls false true w x l d e1 e2 e3 e4 = absurd cc
no_calls false false true x l d e1 e2 e3 e4 = absurd cc
no_calls false false false true l d e1 e2 e3 e4 = absurd cc

pub away : WhoIsAwayIsNotToldOf
away = record {
  place = λ idle own w e g. nowhere (not w.has_seat || not idle) w.is_reading w.is_woken w.polls own e g;
  calls = λ f calling own w e g b r. no_calls w.told.has_bell w.told.reads (has_bell_for f calling own w) (reads_for f w)
      (w.told.limit == f.limit) (w.told.defers == (if f.defers then 2 else 0)) b r
      (no_bell (is_apart w) w.polls (is_concerned f calling own) w.is_reading w.is_woken (reads_for f w) g e)
      (no_read (is_apart w) w.is_reading w.is_woken f.has_room e);
}

-- ---- how it is told

bell_of : (t w : Bool) → ((t && not (t && not w)) || (w && not t)) ≡ w
bell_of true true = refl
bell_of true false = refl
bell_of false true = refl
bell_of false false = refl

-- t: it was told to read, s: that stops with all, l, d: with the same limit, and deferral
reads_of : (t s w l d : Bool) → ((t && not s && not ((t && not s) && not w)) || (w && not ((t && not s) && l && d))) ≡ w
reads_of true true true true true = refl
reads_of true true true true false = refl
reads_of true true true false true = refl
reads_of true true true false false = refl
reads_of true true false true true = refl
reads_of true true false true false = refl
reads_of true true false false true = refl
reads_of true true false false false = refl
reads_of true false true true true = refl
reads_of true false true true false = refl
reads_of true false true false true = refl
reads_of true false true false false = refl
reads_of true false false true true = refl
reads_of true false false true false = refl
reads_of true false false false true = refl
reads_of true false false false false = refl
reads_of false true true true true = refl
reads_of false true true true false = refl
reads_of false true true false true = refl
reads_of false true true false false = refl
reads_of false true false true true = refl
reads_of false true false true false = refl
reads_of false true false false true = refl
reads_of false true false false false = refl
reads_of false false true true true = refl
reads_of false false true true false = refl
reads_of false false true false true = refl
reads_of false false true false false = refl
reads_of false false false true true = refl
reads_of false false false true false = refl
reads_of false false false false true = refl
reads_of false false false false false = refl

kept_limit : (r k e d : Bool) (a b : ℕ) → (e ≡ true → a ≡ b) → r ≡ true → (if r && not (k && e && d) then b else a) ≡ b
kept_limit true true true true a b h p = h refl
kept_limit true true true false a b h p = refl
kept_limit true true false d a b h p = refl
kept_limit true false e d a b h p = refl
kept_limit false k e d a b h p = absurd cc

kept_defers : (r k l e : Bool) (a b : ℕ) → (e ≡ true → a ≡ b) → r ≡ true → (if r && not (k && l && e) then b else a) ≡ b
kept_defers true true true true a b h p = h refl
kept_defers true true true false a b h p = refl
kept_defers true true false e a b h p = refl
kept_defers true false l e a b h p = refl
kept_defers false k l e a b h p = absurd cc

one_stop : (s t w : Bool) → (s && ((t && not s) && not w)) ≡ false
one_stop true true true = refl
one_stop true true false = refl
one_stop true false true = refl
one_stop true false false = refl
one_stop false true true = refl
one_stop false true false = refl
one_stop false false true = refl
one_stop false false false = refl

pub tells : ItTellsWhatIsWanted
tells = record {
  bell = λ t w. bell_of t.has_bell w.has_bell;
  reads = λ t w. reads_of t.reads (t.has_bell && not w.has_bell) w.reads (t.limit == w.limit) (t.defers == w.defers);
  limit = λ t w p. kept_limit w.reads (is_known t w) (t.limit == w.limit) (t.defers == w.defers) t.limit w.limit (eqb-true t.limit w.limit) p;
  defers = λ t w p. kept_defers w.reads (is_known t w) (t.limit == w.limit) (t.defers == w.defers) t.defers w.defers (eqb-true t.defers w.defers) p;
  one_stops = λ t w. one_stop (t.has_bell && not w.has_bell) t.reads w.reads;
}

-- ---- requests

comes : (u : Bool) → ((if u then begin.Fetches else begin.ComesBack) ≡ begin.Fetches) ⊎ ((if u then begin.Fetches else begin.ComesBack) ≡ begin.ComesBack)
comes true = inl refl
comes false = inr refl

not_waits : (p r i h a x m : Bool) → m ≡ false
    → (if p then end.GoesOn else if not r then end.Tells else if not i then end.Rests else if h then end.Fails else if not a then end.Rests
    else if x then end.Answers else if m then end.Waits else end.WouldBlock) ≡ end.Waits → ⊥
not_waits true r i h a x m e g = absurd cc
not_waits false false i h a x m e g = absurd cc
not_waits false true false h a x m e g = absurd cc
not_waits false true true true a x m e g = absurd cc
not_waits false true true false false x m e g = absurd cc
not_waits false true true false true true m e g = absurd cc
not_waits false true true false true false true e g = absurd cc
not_waits false true true false true false false e g = absurd cc

answered : (p r i h a x t m : Bool) → p ≡ false → r ≡ true → i ≡ true → h ≡ false → a ≡ true → x ≡ true
    → (if p then end.GoesOn else if not r then end.Tells else if not i then end.Rests else if h then end.Fails else if not a then end.Rests
    else if x || t then end.Answers else if m then end.Waits else end.WouldBlock) ≡ end.Answers
answered false true true false true true t m e1 e2 e3 e4 e5 e6 = refl
answered true r i h a x t m e1 e2 e3 e4 e5 e6 = absurd cc
answered false false i h a x t m e1 e2 e3 e4 e5 e6 = absurd cc
answered false true false h a x t m e1 e2 e3 e4 e5 e6 = absurd cc
answered false true true true a x t m e1 e2 e3 e4 e5 e6 = absurd cc
answered false true true false false x t m e1 e2 e3 e4 e5 e6 = absurd cc
answered false true true false true false t m e1 e2 e3 e4 e5 e6 = absurd cc

pub is_answered : AReadThatMayNotWaitIsAnswered
is_answered = record {
  begins = λ size there return s. comes (is_unread size s);
  no_wait = λ e m g. not_waits e.is_put_off e.reads e.is_reading e.has_failed e.is_at_once (e.is_there || e.is_to_return) e.may_wait m g;
  there = λ e p r i h a x. answered e.is_put_off e.reads e.is_reading e.has_failed e.is_at_once e.is_there e.is_to_return e.may_wait p r i h a x;
  interrupted = refl;
}
