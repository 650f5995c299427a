-- Lines whose sink is one thing, as lines whose sink is what is known of it.
use Rattle.std.proofs.Common.{◌≡◌, ◌≤◌, inl, inr, ⊎_elim, ℕ, Bool, false, List, [], ◌∷◌, Option, Some, None, Result, Ok, Err, IfOk, IfSome, MatchResult, refl, sym, ◌∙◌, ap, subst, length}
use Rattle.std.specs.List.{FoldsTo}
use Rattle.bd_driver.specs.States.{SeatState}
use Rattle.bd_spelling.specs.declared.record.Record.{Record}
use Rattle.bd_script.specs.declared.script.Line.{Line}
use Rattle.bd_player.specs.declared.said.Said.{Said}
use Rattle.bd_player.specs.declared.faults.ProgramFault.{ProgramFault}
use Rattle.bd_player.specs.Workers.{fault_status}
use Rattle.bd_player.specs.Printing.{IsPrinted, PrintsLine, takes_status}
use Rattle.bd_player.specs.Playing.{Play, IsPlayed, Runs, RunsLine, Plays, playing}

module _ {S T : Type 0} (f : S → T) (turns : ℕ) (takes : S → ℕ → Said → S → Type 0) (full : S → Bool) (to_takes : T → ℕ → Said → T → Type 0) (to_full : T → Bool)
    (kept : (s : S) (n : ℕ) (said : Said) (t : S) → takes s n said t → to_takes (f s) n said (f t)) (room : (s : S) → to_full (f s) ≡ full s) where
  abbrev seen : Play S → Play T
  seen p = playing p.seats p.told (f p.sink)

  line_seen : (seats : ℕ) (p : Play S) (line : Line) (q : Play S) → Runs seats turns takes full p line q → Runs seats turns to_takes to_full (seen p) line (seen q)
  line_seen seats p line q h = (
    (h.0.0, room p.sink ∙ h.0.1),
    ⊎_elim
        (λ (e : (length p.seats ≤ line.seat) × (q ≡ p)). inl (e.0, ap seen e.1))
        (λ (r : RunsLine seats turns takes p line q). inr (record {
          old = r.old;
          new = r.new;
          says = r.says;
          inside = r.inside;
          before = r.before;
          table = r.table;
          does = r.does;
          seats_are = r.seats_are;
          told = r.told;
          taken = kept p.sink line.number r.says q.sink r.taken;
        }))
        h.1,
  )

  lines_seen : (seats : ℕ) (p : Play S) (lines : List Line) (q : Play S) → FoldsTo (Runs seats turns takes full) p lines q → FoldsTo (Runs seats turns to_takes to_full) (seen p) lines (seen q)
  lines_seen seats p [] q h = ap seen h
  lines_seen seats p (line ∷ lines) q h = (seen h.0, line_seen seats p line h.0 h.1, lines_seen seats h.0 lines q h.2)

  plays_seen : (seats : ℕ) (lines : List Line) (old : List SeatState) (s : S) (new : List SeatState) (t : S) → Plays seats turns takes full lines old s new t → Plays seats turns to_takes to_full lines old (f s) new (f t)
  plays_seen seats lines old s new t h = record {
    told = h.told;
    run = h.run;
    rest = h.rest;
    all = h.all;
    runs = lines_seen seats (playing old [] s) h.run (playing new h.told t) h.runs;
    ends = λ g. h.ends (g.0, sym (room t) ∙ g.1);
  }

  pub played_seen : (known : Option (List ℕ)) (s t : S) (r : Record) → IsPlayed known turns takes full s t r → IsPlayed known turns to_takes to_full (f s) (f t) r
  played_seen known s t r h = record {
    script = h.script;
    table = h.table;
    seats = h.seats;
    says = h.says;
    plays = plays_seen h.script.seats h.script.lines _ s h.seats t h.plays;
    final = h.final;
  }

-- what was played into a printer, as it is handed on with the printer's status
pub printed : {S : Type 0} (status_of : S → ℕ) (known : Option (List ℕ)) (turns : ℕ) (ran : Result Record ProgramFault) (status : ℕ) (history : Option Record) (p q : S) (last : ℕ)
    → IfOk ran (IsPlayed known turns (λ s number said t. PrintsLine (status_of s) (status_of t) said) (λ _. false) p q) → status_of p ≡ 0 → last ≡ status_of q
    → MatchResult ran (λ r. (status ≡ last) × (history ≡ Some r)) (λ fault. (status ≡ fault_status fault) × (history ≡ None))
    → IfSome history (IsPrinted known turns status)
printed {S} status_of known turns (Ok r) status history p q last h zero is ended =
    let seen_all : IsPlayed known turns takes_status (λ (n : ℕ). false) (status_of p) (status_of q) r =
    played_seen status_of turns (λ (s : S) (number : ℕ) (said : Said) (t : S). PrintsLine (status_of s) (status_of t) said) (λ (s : S). false) takes_status (λ (n : ℕ). false) (λ s n said t h. h) (λ s. refl) known p q r h in
    let from : IsPlayed known turns takes_status (λ (n : ℕ). false) 0 (status_of q) r = subst (λ (n : ℕ). IsPlayed known turns takes_status (λ (m : ℕ). false) n (status_of q) r) zero seen_all in
    let all : IsPrinted known turns status r = subst (λ (n : ℕ). IsPlayed known turns takes_status (λ (m : ℕ). false) 0 n r) (sym (ended.0 ∙ is)) from in
    subst (λ (o : Option Record). IfSome o (IsPrinted known turns status)) (sym ended.1) all
printed {S} status_of known turns (Err fault) status history p q last h zero is ended = subst (λ (o : Option Record). IfSome o (IsPrinted known turns status)) (sym ended.1) tt
