-- Seats after lines: each is still there, so that the history is whole.
use Rattle.std.proofs.Common.{◌≡◌, ◌≢◌, ◌⊎◌, inl, inr, ⊎_elim, ℕ, zero, suc, ◌+◌, ◌<◌, ◌≤◌, Bool, true, false, List, [], ◌∷◌, ◌++◌, length, get_or, set, take, drop, Option, IfSome, Ok, refl, sym, ◌∙◌, ap, subst, arith}
use mathlib.Core.Option.{some, some-ne-none, some-injective}
use mathlib.Core.Logic.{dite}
use native.Mathlib.Decide.{ℕ_discrete}
use lib.ListN.{get_elem?}
use Rattle.std.specs.List.{FoldsTo}
use Rattle.std.proofs.lemmas.List.{drop_all, take_all, append-nil}
use Rattle.atomic_table.specs.Seated.{TableId}
use Rattle.bd_space.specs.declared.step.Request.{Request}
use Rattle.bd_spelling.specs.declared.record.Record.{Record}
use Rattle.bd_space.specs.Histories.{IsHistory}
use Rattle.bd_spelling.specs.Records.{history_in}
use Rattle.bd_driver.specs.States.{SeatState}
use Rattle.bd_driver.specs.Together.{AllSeats, IsFinal, new_seats}
use Rattle.bd_driver.specs.Handing.{Collects, Withdraws}
use Rattle.bd_driver.specs.declared.view.View.{View}
use Rattle.bd_driver.specs.declared.outcome.Outcome.{Outcome}
use Rattle.bd_driver.specs.declared.outcome.Outcome.TheVariants as outcome
use Rattle.bd_driver.specs.declared.outcome.Why.TheVariants as why
use Rattle.bd_script.specs.Scripts.{Read, script_of}
use Rattle.bd_script.specs.declared.script.Line.{Line}
use Rattle.bd_script.specs.declared.script.Verb.{Verb}
use Rattle.bd_script.specs.declared.script.Verb.TheVariants as verb
use Rattle.bd_player.specs.declared.said.Said.{Said}
use Rattle.bd_player.specs.declared.said.Said.TheVariants as said
use Rattle.bd_player.specs.Workers.{Acts, SaysCall, SaysAwait, idles}
use Rattle.bd_player.specs.Playing.{Play, Does, Runs, RunsLine, Plays, IsPlayed, playing}
use Rattle.bd_driver.specs.Rest.{is_waiting}

abbrev pub whos : List SeatState → List ℕ
whos [] = []
whos (s ∷ ss) = s.view.who ∷ whos ss

call_same : (v w : View) (r : Request) (turns : ℕ) (s : Said) → SaysCall v w r turns s → w.who ≡ v.who
call_same v w r turns (said.Done answer start end) h = h.4.who.1 ∙ h.3.who.1
call_same v w r turns (said.Back reason) h = h.5.1.who.1 ∙ h.3.who.1
call_same v w r turns said.Handed h = absurd h
call_same v w r turns (said.Served served) h = absurd h
call_same v w r turns (said.Page page) h = absurd h
call_same v w r turns said.Passed h = absurd h
call_same v w r turns said.Turns h = h.who.1
call_same v w r turns said.Idle h = absurd h

await_same : (v w : View) (stamp turns : ℕ) (s : Said) → SaysAwait v w stamp turns s → w.who ≡ v.who
await_same v w stamp turns (said.Done answer start end) h = absurd h
await_same v w stamp turns (said.Back reason) h = absurd h
await_same v w stamp turns said.Handed h = absurd h
await_same v w stamp turns (said.Served served) h = absurd h
await_same v w stamp turns (said.Page page) h = absurd h
await_same v w stamp turns said.Passed h = ap (λ (x : View). x.who) h.5.only ∙ ap (λ (x : View). x.who) h.4.only
await_same v w stamp turns said.Turns h = ap (λ (x : View). x.who) h.only
await_same v w stamp turns said.Idle h = absurd h

collect_same : (v w : View) (o : Outcome) → Collects v w o → w.who ≡ v.who
collect_same v w outcome.Handed h = ap (λ (x : View). x.who) h.0
collect_same v w (outcome.Done answer start end) h = ap (λ (x : View). x.who) h.only
collect_same v w (outcome.Back r reason) h = ap (λ (x : View). x.who) h.only

withdraw_same : (v w : View) (o : Outcome) → Withdraws v w o → w.who ≡ v.who
withdraw_same v w (outcome.Back r why.Withdrawn) h = ap (λ (x : View). x.who) h.0
withdraw_same v w (outcome.Back r why.Taken) h = absurd h
withdraw_same v w (outcome.Back r why.NoMemory) h = absurd h
withdraw_same v w (outcome.Back r why.HistoryFull) h = absurd h
withdraw_same v w outcome.Handed h = ap (λ (x : View). x.who) h.0
withdraw_same v w (outcome.Done answer start end) h = absurd h

acts_same : (seats turns : ℕ) (v w : View) (b : Verb) (s : Said) → Acts seats v w b turns s → w.who ≡ v.who
acts_same seats turns v w (verb.Call request) s h = call_same v w request turns s h
acts_same seats turns v w (verb.Post request) s h = ap (λ (x : View). x.who) h.0
acts_same seats turns v w verb.Look s h = ap (λ (x : View). x.who) h.1.only
acts_same seats turns v w (verb.Await stamp) s h = await_same v w stamp turns s h
acts_same seats turns v w verb.Serve s h = h.1.who.1
acts_same seats turns v w verb.Collect s h = collect_same v w h.0 h.1
acts_same seats turns v w verb.Withdraw s h = withdraw_same v w h.0 h.1

either : (b : Bool) → (b ≡ true) ⊎ (b ≡ false)
either true = inl refl
either false = inr refl

does_same : (seats turns : ℕ) (v w : View) (b : Verb) (s : Said) → Does seats turns v w b s → w.who ≡ v.who
does_same seats turns v w b s h =
    ⊎_elim
    (λ (e : idles b (is_waiting v.handover) ≡ true). ap (λ (x : View). x.who) (h.0 e).1)
    (λ (e : idles b (is_waiting v.handover) ≡ false). acts_same seats turns v w b s (h.1 e))
    (either (idles b (is_waiting v.handover)))

whos_set : (xs : List SeatState) (i : ℕ) (old new : SeatState) → i < length xs → get_or xs i old ≡ old → new.view.who ≡ old.view.who → whos (set xs i new) ≡ whos xs
whos_set [] i old new inside is same = absurd (omega (arith, inside))
whos_set (x ∷ xs) zero old new inside is same = ap (λ (n : ℕ). n ∷ whos xs) (same ∙ ap (λ (s : SeatState). s.view.who) (sym is))
whos_set (x ∷ xs) (suc i) old new inside is same = ap (λ (l : List ℕ). x.view.who ∷ l) (whos_set xs i old new (omega (arith, inside)) is same)

line_same : {S : Type 0} (seats turns : ℕ) (takes : S → ℕ → Said → S → Type 0) (full : S → Bool) (p : Play S) (line : Line) (q : Play S) → Runs seats turns takes full p line q → whos q.seats ≡ whos p.seats
line_same {S} seats turns takes full p line q h =
    ⊎_elim
    (λ (e : (length p.seats ≤ line.seat) × (q ≡ p)). ap (λ (x : Play S). whos x.seats) e.1)
    (λ (r : RunsLine seats turns takes p line q). ap whos r.seats_are ∙ whos_set p.seats line.seat r.old r.new r.inside r.before (does_same seats turns r.old.view r.new.view line.verb r.says r.does))
    h.1

lines_same : {S : Type 0} (seats turns : ℕ) (takes : S → ℕ → Said → S → Type 0) (full : S → Bool) (lines : List Line) (p q : Play S) → FoldsTo (Runs seats turns takes full) p lines q → whos q.seats ≡ whos p.seats
lines_same {S} seats turns takes full [] p q h = ap (λ (x : Play S). whos x.seats) (sym h)
lines_same seats turns takes full (line ∷ lines) p q h = lines_same seats turns takes full lines h.0 q h.2 ∙ line_same seats turns takes full p line h.0 h.1

abbrev IsNil : List ℕ → Type 0
IsNil [] = Unit {0}
IsNil (n ∷ ns) = ⊥

same_who : (xs ys : List SeatState) (i : ℕ) (s : SeatState) → whos ys ≡ whos xs → get_elem? xs i ≡ some s → (t : SeatState) × (get_elem? ys i ≡ some t) × (t.view.who ≡ s.view.who)
same_who [] ys i s e at = absurd (some-ne-none s (sym at))
same_who (x ∷ xs) [] i s e at = absurd (subst IsNil e tt)
same_who (x ∷ xs) (y ∷ ys) zero s e at = (y, refl, ap (λ (l : List ℕ). get_or l 0 0) e ∙ ap (λ (t : SeatState). t.view.who) (some-injective x s at))
same_who (x ∷ xs) (y ∷ ys) (suc i) s e at = same_who xs ys i s (ap (λ (l : List ℕ). drop 1 l) e) at

new_from : (t : TableId) (n start k who : ℕ) → start ≤ who → who < start + k → (i : ℕ) × (s : SeatState) × (get_elem? (new_seats t n start k) i ≡ some s) × (s.view.who ≡ who)
new_from t n start zero who from below = absurd (omega (arith, from, below))
new_from t n start (suc k) who from below =
    dite (ℕ_discrete who start)
    (λ (e : who ≡ start). (0, _, refl, sym e))
    (λ (ne : who ≢ start). let h = new_from t n (start + 1) k who (omega (arith, from, ne)) (omega (arith, below)) in (suc h.0, h.1, h.2, h.3))

all_kept : (t : TableId) (n : ℕ) (old new : List SeatState) → old ≡ new_seats t n 0 n → whos new ≡ whos old → AllSeats n new
all_kept t n old new dealt same = λ who below.
    let h = new_from t n 0 n who (omega arith) (omega (arith, below)) in
    let k = same_who (new_seats t n 0 n) new h.0 h.1 (same ∙ ap whos dealt) h.2 in
    (h.0, k.0, k.1, k.2 ∙ h.3)

-- what finish says of the seats that lines were run with
finished : {S : Type 0} (seats turns : ℕ) (takes : S → ℕ → Said → S → Type 0) (full : S → Bool) (lines : List Line) (lent old new : List SeatState) (s u : S) (t : TableId) (len : ℕ) (r : Record)
    → Plays seats turns takes full lines lent s new u → lent ≡ old → old ≡ new_seats t seats 0 seats → length new ≡ length old → len ≡ length old
    → (AllSeats seats (take len (new ++ drop (length new) old)) → IsFinal seats (take len (new ++ drop (length new) old)) r.seats r.entries)
    → IsFinal seats new r.seats r.entries
finished seats turns takes full lines lent old new s u t len r plays is dealt same count final =
    let nothing : drop (length new) old ≡ [] = drop_all (length new) old (omega (arith, same)) in
    let joined : new ++ drop (length new) old ≡ new = ap (λ (ys : List SeatState). new ++ ys) nothing ∙ append-nil new in
    let back : take len (new ++ drop (length new) old) ≡ new = ap (take len) joined ∙ take_all len new (omega (arith, same, count)) in
    let all : AllSeats seats new = all_kept t seats old new dealt (lines_same seats turns takes full plays.run (playing lent [] s) (playing new plays.told u) plays.runs ∙ ap whos is) in
    subst (λ (ys : List SeatState). IsFinal seats ys r.seats r.entries) back (final (subst (AllSeats seats) (sym back) all))

pub lawful : (seats : ℕ) (states : List SeatState) (r : Record) → IsFinal seats states r.seats r.entries → IsHistory (history_in r)
lawful seats states r ends = subst (λ (n : ℕ). IsHistory (record { seats = n; entries = r.entries })) (sym ends.seats_are) ends.lawful

-- a script's lines that were played, and what finish says of the seats
pub played : {S : Type 0} (known : Option (List ℕ)) (script : Read) (turns : ℕ) (takes : S → ℕ → Said → S → Type 0) (full : S → Bool) (lent old new : List SeatState) (s u : S) (t : TableId) (len n : ℕ) (r : Record)
    → IfSome known (λ bytes. script_of bytes ≡ Ok script) → n ≡ script.seats
    → Plays n turns takes full script.lines lent s new u → lent ≡ old → old ≡ new_seats t n 0 n → length new ≡ length old → len ≡ length old
    → (AllSeats n (take len (new ++ drop (length new) old)) → IsFinal n (take len (new ++ drop (length new) old)) r.seats r.entries)
    → IsPlayed known turns takes full s u r
played {S} known script turns takes full lent old new s u t len n r says many plays is dealt same count final =
    let ends : IsFinal n new r.seats r.entries = finished n turns takes full script.lines lent old new s u t len r plays is dealt same count final in
    let from : Plays n turns takes full script.lines (new_seats t n 0 n) s new u = subst (λ (xs : List SeatState). Plays n turns takes full script.lines xs s new u) (is ∙ dealt) plays in
    record {
      script = script;
      table = t;
      seats = new;
      says = says;
      plays = subst (λ (k : ℕ). Plays k turns takes full script.lines (new_seats t k 0 k) s new u) many from;
      final = subst (λ (k : ℕ). IsFinal k new r.seats r.entries) many ends;
    }

pub played_lawful : {S : Type 0} (known : Option (List ℕ)) (turns : ℕ) (takes : S → ℕ → Said → S → Type 0) (full : S → Bool) (s u : S) (r : Record) → IsPlayed known turns takes full s u r → IsHistory (history_in r)
played_lawful known turns takes full s u r h = lawful h.script.seats h.seats r h.final
