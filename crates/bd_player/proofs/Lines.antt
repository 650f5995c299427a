-- Lines played one after another.
use Rattle.std.proofs.Common.{◌≡◌, inl, inr, ℕ, suc, ◌+◌, ◌<◌, ◌≤◌, Bool, true, false, not, arith, List, [], ◌∷◌, ◌++◌, length, get_or, set, refl, sym, ◌∙◌, ap, append_assoc, true≢false}
use Rattle.std.specs.List.{FoldsTo}
use Rattle.std.proofs.lemmas.Fn.{FoldsTo-push}
use Rattle.bd_driver.specs.States.{SeatState}
use Rattle.bd_script.specs.declared.script.Line.{Line}
use Rattle.bd_player.specs.declared.said.Said.{Said}
use Rattle.bd_player.specs.Workers.{said_status}
use Rattle.bd_player.specs.Playing.{playing, EachDone, GoesOn, Does, Runs, RunsLine, RunsOn, Plays}

done_more : (told : List (ℕ × Said)) (n : ℕ) (s : Said) → EachDone told → said_status s ≡ 0 → EachDone (told ++ (n, s) ∷ [])
done_more [] n s h i = (i, tt)
done_more (x ∷ xs) n s h i = (h.0, done_more xs n s h.1 i)

last_done : (told : List (ℕ × Said)) (n : ℕ) (s : Said) → EachDone (told ++ (n, s) ∷ []) → said_status s ≡ 0
last_done [] n s h = h.0
last_done (x ∷ xs) n s h = last_done xs n s h.1

-- A line of a seat that isn't there is passed over.
pub passed : {S : Type 0} (seats turns : ℕ) (takes : S → ℕ → Said → S → Type 0) (full : S → Bool) (line : Line) (old : List SeatState) (s : S)
    → length old ≤ line.seat → RunsOn seats turns takes full line old s old s true
passed seats turns takes full line old s out = λ told on. (told, (on, inl (out, refl)), (λ h. refl), (λ h. on))

-- A line of a seat that is there is run.
pub ran : {S : Type 0} (seats turns : ℕ) (takes : S → ℕ → Said → S → Type 0) (full : S → Bool) (line : Line) (old : List SeatState) (s t : S) (before after : SeatState) (says : Said) (goes_on : Bool)
    → line.seat < length old → get_or old line.seat before ≡ before → after.table ≡ before.table
    → Does seats turns before.view after.view line.verb says → takes s line.number says t
    → (full t ≡ false → said_status says ≡ 0 → goes_on ≡ true) → (goes_on ≡ true → (full t ≡ false) × (said_status says ≡ 0))
    → RunsOn seats turns takes full line old s (set old line.seat after) t goes_on
ran seats turns takes full line old s t before after says goes_on inside is table does taken goes stays = λ told on.
    let line_run : RunsLine seats turns takes (playing old told s) line (playing (set old line.seat after) (told ++ (line.number, says) ∷ []) t) = record {
      old = before;
      new = after;
      says = says;
      inside = inside;
      before = is;
      table = table;
      does = does;
      seats_are = refl;
      told = refl;
      taken = taken;
    } in (
      told ++ (line.number, says) ∷ [],
      (on, inr line_run),
      (λ h. goes h.1 (last_done told line.number says h.0)),
      (λ e. (done_more told line.number says on.0 (stays e).1, (stays e).0)),
    )

-- the lines before these are run, and a further one may be
abbrev pub SoFar : {S : Type 0} → ℕ → ℕ → (S → ℕ → Said → S → Type 0) → (S → Bool) → List Line → List Line → List SeatState → S → List SeatState → S → Type 0
SoFar seats turns takes full lines rest old s new t =
    (run : List Line) × (told : List (ℕ × Said)) × (lines ≡ run ++ rest)
    × FoldsTo (Runs seats turns takes full) (playing old [] s) run (playing new told t)
    × GoesOn full (playing new told t)

moved_on : (lines run before rest : List Line) (line : Line) → lines ≡ run ++ before → before ≡ line ∷ rest → lines ≡ (run ++ line ∷ []) ++ rest
moved_on lines run before rest line h e = h ∙ (ap (λ (x : List Line). run ++ x) e ∙ sym (append_assoc run (line ∷ []) rest))

pub starts : {S : Type 0} (seats turns : ℕ) (takes : S → ℕ → Said → S → Type 0) (full : S → Bool) (lines : List Line) (old : List SeatState) (s : S)
    → full s ≡ false → SoFar seats turns takes full lines lines old s old s
starts seats turns takes full lines old s room = ([], [], refl, refl, (tt, room))

pub goes_further : {S : Type 0} (seats turns : ℕ) (takes : S → ℕ → Said → S → Type 0) (full : S → Bool) (lines before rest : List Line) (line : Line) (old now new : List SeatState) (s t u : S) (goes_on : Bool)
    → SoFar seats turns takes full lines before old s now t → before ≡ line ∷ rest → RunsOn seats turns takes full line now t new u goes_on → goes_on ≡ true
    → SoFar seats turns takes full lines rest old s new u
goes_further seats turns takes full lines before rest line old now new s t u goes_on far is on goes =
    let run = far.0 in
    let told = far.1 in
    let step = on told far.4 in (
      run ++ line ∷ [],
      step.0,
      moved_on lines run before rest line far.2 is,
      FoldsTo-push (Runs seats turns takes full) (playing old [] s) run (playing now told t) line (playing new step.0 u) far.3 step.1,
      step.3 goes,
    )

pub stops : {S : Type 0} (seats turns : ℕ) (takes : S → ℕ → Said → S → Type 0) (full : S → Bool) (lines before rest : List Line) (line : Line) (old now new : List SeatState) (s t u : S) (goes_on : Bool)
    → SoFar seats turns takes full lines before old s now t → before ≡ line ∷ rest → RunsOn seats turns takes full line now t new u goes_on → goes_on ≡ false
    → Plays seats turns takes full lines old s new u
stops seats turns takes full lines before rest line old now new s t u goes_on far is on halts =
    let run = far.0 in
    let told = far.1 in
    let step = on told far.4 in record {
      told = step.0;
      run = run ++ line ∷ [];
      rest = rest;
      all = moved_on lines run before rest line far.2 is;
      runs = FoldsTo-push (Runs seats turns takes full) (playing old [] s) run (playing now told t) line (playing new step.0 u) far.3 step.1;
      ends = λ h. absurd (true≢false (sym (step.2 h) ∙ halts));
    }

pub ends_all : {S : Type 0} (seats turns : ℕ) (takes : S → ℕ → Said → S → Type 0) (full : S → Bool) (lines rest : List Line) (old new : List SeatState) (s t : S)
    → SoFar seats turns takes full lines rest old s new t → rest ≡ [] → Plays seats turns takes full lines old s new t
ends_all seats turns takes full lines rest old new s t far none = record {
  told = far.1;
  run = far.0;
  rest = rest;
  all = far.2;
  runs = far.3;
  ends = λ h. none;
}

pub shorter : (n m : ℕ) (xs ys : List Line) (x : Line) → n ≡ length xs → xs ≡ x ∷ ys → m + 1 ≡ n → m ≡ length ys
shorter n m xs ys x count is less = let e : length xs ≡ suc (length ys) = ap length is in omega (arith, count, less, e)

-- what has room isn't full
pub room_left : (full room : Bool) → room ≡ not full → room ≡ true → full ≡ false
room_left true room is on = absurd (true≢false (sym on ∙ is))
room_left false room is on = refl

pub has_room : (full room : Bool) → room ≡ not full → full ≡ false → room ≡ true
has_room full room is on = is ∙ ap not on
