-- What a judge has seen of a journal, as its entries are read.
use Rattle.std.proofs.Common.{◌≡◌, ◌+◌, ℕ, List, [], ◌∷◌, ◌++◌, length, Option, Some, None, refl, sym, ap, ◌∙◌, subst, append_assoc, arith, option_map}
use Rattle.std.proofs.lemmas.List.{append-nil, length-append}
use Rattle.std.proofs.lemmas.Option.{none-some}
use Rattle.bd_space.specs.Histories.{History, history_of}
use Rattle.bd_space.specs.declared.step.Entry.{Entry}
use Rattle.bd_spelling.specs.declared.record.Record.{Record}
use Rattle.bd_spelling.specs.declared.fault.ReadError.{ReadError}
use Rattle.bd_spelling.specs.declared.fault.ReadError.TheVariants.{Malformed, Memory}
use Rattle.bd_journal.specs.declared.steps.JournalReader.{JournalReader}
use Rattle.bd_spelling.specs.Reading.{Fails}
use Rattle.bd_journal.specs.Cut.{HasHeading, IsCut, IsUncut, IsUnread, behind}
use Rattle.bd_journal.specs.Spelling.{Tells}
use Rattle.bd_journal.specs.Steps.{bytes_left, cut_left, entries_left, record_left, record_of, seats_of, whole_left, with_next, with_whole}
use Rattle.bd_audit.specs.declared.{judge.Judge.{Judge}, journals.Judgment.{Judgment}}
use Rattle.bd_audit.specs.{Judging.{HasJudged, IsStop}, Journals.{HasSeenAll, HasSeenMore, HasSeenWhole, JudgesCut, JudgesJournal, followed_by}, Replays.{with_entry}}

-- ---- the judge

sees_none : (j : Judge) → HasSeenMore j j []
sees_none j = λ h seen. subst (λ (es : List Entry). HasJudged j (history_of h.seats es)) (sym (append-nil h.entries)) seen

sees_one : (first old new : Judge) (front : List Entry) (e : Entry) → HasSeenMore first old front → ((h : History) → HasJudged old h → HasJudged new (with_entry h e))
    → HasSeenMore first new (front ++ e ∷ [])
sees_one first old new front e before one = λ h seen.
    subst (λ (es : List Entry). HasJudged new (history_of h.seats es)) (append_assoc h.entries front (e ∷ [])) (one (followed_by h front) (before h seen))

-- ---- all entries of a journal

abbrev pub behind_front : List Entry → Option (List Entry) → Option (List Entry)
behind_front front left = option_map (λ es. front ++ es) left

none_before : (left : Option (List Entry)) → left ≡ behind_front [] left
none_before None = refl
none_before (Some es) = refl

one_more : (front : List Entry) (e : Entry) (left : Option (List Entry)) → behind_front front (with_next (Some e) left) ≡ behind_front (front ++ e ∷ []) left
one_more front e None = refl
one_more front e (Some es) = ap (λ (xs : List Entry). Some xs) (sym (append_assoc front (e ∷ []) es))

reads_one : (front : List Entry) (e : Entry) (all old new : Option (List Entry)) → all ≡ behind_front front old → old ≡ with_next (Some e) new → all ≡ behind_front (front ++ e ∷ []) new
reads_one front e all old new so_far read = so_far ∙ ap (behind_front front) read ∙ one_more front e new

pub reads_all : (first last : Judge) (front : List Entry) (all old new : Option (List Entry)) → all ≡ behind_front front old → HasSeenMore first last front → old ≡ with_next None new → HasSeenAll first last all
reads_all first last front all old new so_far seen read = (front, so_far ∙ ap (behind_front front) read ∙ ap (λ (xs : List Entry). Some xs) (append-nil front), seen)

pub reads_no_more : (e : ReadError) (front : List Entry) (all old : Option (List Entry)) → all ≡ behind_front front old → Fails e old → Fails e all
reads_no_more Malformed front all old so_far none = so_far ∙ ap (behind_front front) none
reads_no_more Memory front all old so_far none = tt

-- the judge has seen what was read so far
abbrev pub IsShown : Judge → Judge → Option (List Entry) → Option (List Entry) → Type 0
IsShown first now all left = (front : List Entry) × (all ≡ behind_front front left) × HasSeenMore first now front

pub shows_none : (j : Judge) (left : Option (List Entry)) → IsShown j j left left
shows_none j left = ([], none_before left, sees_none j)

pub shows_one : (first old new : Judge) (e : Entry) (found : Option Entry) (all left after : Option (List Entry)) → IsShown first old all left → left ≡ with_next found after → found ≡ Some e
    → ((h : History) → HasJudged old h → HasJudged new (with_entry h e)) → IsShown first new all after
shows_one first old new e found all left after so_far read is one =
    (so_far.0 ++ e ∷ [], reads_one so_far.0 e all left after so_far.1 (read ∙ ap (λ it. with_next it after) is), sees_one first old new so_far.0 e so_far.2 one)

-- what the judge says of the record that was read
pub judges : (bytes : List ℕ) (r : JournalReader) (first last : Judge) (j : Judgment) → HasJudged first (history_of (seats_of r) []) → HasSeenAll first last (entries_left r)
    → ((x : Record) → record_left r ≡ Some x → Tells bytes x) → ((es : List Entry) → entries_left r ≡ Some es → j.entries ≡ length es)
    → ((h : History) → HasJudged last h → IsStop h j.stopped) → JudgesJournal bytes j
judges bytes r first last j begun seen found counted stop =
    let whole = record_of (seats_of r) seen.0 in (
      whole,
      found whole (ap (option_map (record_of (seats_of r))) seen.1),
      (counted seen.0 seen.1, stop (history_of (seats_of r) seen.0) (seen.2 (history_of (seats_of r) []) begun)),
    )

-- ---- what is whole of a journal that was cut off

reads_whole : (front : List Entry) (e : Entry) (all old : List Entry × List ℕ) (r : JournalReader) → all ≡ behind front old → old ≡ with_whole (Some e) r → all ≡ behind (front ++ e ∷ []) (whole_left r)
reads_whole front e all old r so_far read =
    so_far ∙ ap (behind front) read ∙ ap (λ (es : List Entry). (es, (whole_left r).1)) (sym (append_assoc front (e ∷ []) (whole_left r).0))

so_many_more : (front : List Entry) (e : Entry) (n : ℕ) → n ≡ length front → n + 1 ≡ length (front ++ e ∷ [])
so_many_more front e n so_many = omega (arith, so_many, length-append front (e ∷ []))

pub reads_all_whole : (first last : Judge) (front : List Entry) (all old : List Entry × List ℕ) (r : JournalReader) (n left : ℕ)
    → all ≡ behind front old → HasSeenMore first last front → n ≡ length front → old ≡ with_whole None r → left ≡ length (bytes_left r) → HasSeenWhole first last all n left
reads_all_whole first last front all old r n left so_far seen counted read rest =
    let is : all ≡ (front, bytes_left r) = so_far ∙ ap (behind front) read ∙ ap (λ (es : List Entry). (es, bytes_left r)) (append-nil front) in
    subst (λ (x : List Entry × List ℕ). HasSeenWhole first last x n left) (sym is) (seen, counted, rest)

-- the judge has seen what was whole so far, so many entries
abbrev pub IsWholeShown : Judge → Judge → List Entry × List ℕ → List Entry × List ℕ → ℕ → Type 0
IsWholeShown first now all left n = (front : List Entry) × (all ≡ behind front left) × HasSeenMore first now front × (n ≡ length front)

pub shows_none_whole : (j : Judge) (left : List Entry × List ℕ) (n : ℕ) → n ≡ 0 → IsWholeShown j j left left n
shows_none_whole j left n none = ([], refl, sees_none j, none)

pub shows_one_whole : (first old new : Judge) (e : Entry) (found : Option Entry) (all left : List Entry × List ℕ) (after : JournalReader) (n : ℕ) → IsWholeShown first old all left n
    → left ≡ with_whole found after → found ≡ Some e → ((h : History) → HasJudged old h → HasJudged new (with_entry h e)) → IsWholeShown first new all (whole_left after) (n + 1)
shows_one_whole first old new e found all left after n so_far read is one = (
  so_far.0 ++ e ∷ [],
  reads_whole so_far.0 e all left after so_far.1 (read ∙ ap (λ it. with_whole it after) is),
  sees_one first old new so_far.0 e so_far.2 one,
  so_many_more so_far.0 e n so_far.3,
)

pub judges_cut : (bytes : List ℕ) (r : JournalReader) (first last : Judge) (j : Judgment) (left : ℕ) → HasJudged first (history_of (seats_of r) []) → HasSeenWhole first last (whole_left r) j.entries left
    → IsCut bytes (cut_left r).0 (cut_left r).1 → ((h : History) → HasJudged last h → IsStop h j.stopped) → JudgesCut bytes j left
judges_cut bytes r first last j left begun seen cut stop =
    let judged = seen.0 (history_of (seats_of r) []) begun in ((cut_left r).0, (cut_left r).1, cut, (seen.1, stop (history_of (seats_of r) (whole_left r).0) judged), seen.2)

-- ---- what isn't read

-- Bytes that spell no record aren't read, and the error says so.
pub no_heading : (bytes : List ℕ) (e : ReadError) → e ≡ Malformed → ((x : Record) → Tells bytes x → ⊥) → IsUnread bytes e
no_heading bytes e is none = subst (IsUnread bytes) (sym is) none

pub no_cut_heading : (bytes : List ℕ) (e : ReadError) → e ≡ Malformed → ((x : Record) (left : List ℕ) → IsCut bytes x left → ⊥) → IsUncut bytes e
no_cut_heading bytes e is none = subst (IsUncut bytes) (sym is) (λ h. none h.0 h.1 h.2)

-- Behind a heading that was read, want of memory is a true reason.
module _ (bytes : List ℕ) (r : JournalReader) (e : ReadError) (cut : IsCut bytes (cut_left r).0 (cut_left r).1) where
  heading : HasHeading bytes
  heading = ((cut_left r).0, (cut_left r).1, cut)

  pub no_memory : e ≡ Memory → IsUnread bytes e
  no_memory is = subst (IsUnread bytes) (sym is) heading

  pub no_cut_memory : e ≡ Memory → IsUncut bytes e
  no_cut_memory is = subst (IsUncut bytes) (sym is) heading

pub no_entries : (bytes : List ℕ) (r : JournalReader) (e : ReadError) → IsCut bytes (cut_left r).0 (cut_left r).1 → ((x : Record) → Tells bytes x → record_left r ≡ Some x) → Fails e (entries_left r) → IsUnread bytes e
no_entries bytes r Malformed cut only fails = λ x told. none-some x (sym (ap (option_map (record_of (seats_of r))) fails) ∙ only x told)
no_entries bytes r Memory cut only fails = heading bytes r Memory cut
