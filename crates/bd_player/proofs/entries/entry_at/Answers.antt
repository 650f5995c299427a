use Rattle.std.proofs.Common.{◌≡◌, ◌<◌, ◌∙◌, ℕ, List, Some, length, get_or, refl, sym, ap, subst, arith}
use Rattle.std.specs.List.{slice_get}
use Rattle.std.proofs.lemmas.Option.{slice_get_read}
use Rattle.bd_space.specs.Histories.{History}
use Rattle.bd_space.specs.declared.step.Entry.{Entry}
use Rattle.bd_spelling.specs.Records.{history_in}
use Rattle.bd_spelling.proofs.FieldLaws.{some_is}
use Rattle.bd_audit.specs.Replays.{beginning}
use Rattle.bd_audit.proofs.Beginnings.{next_lawful}
use Rattle.bd_player.specs.Pids.{pid_in}
use Rattle.bd_player.proofs.entries.entry_at.Goals as goal

-- what stands at a place of these entries does at that of equal ones
there : (es fs : List Entry) (place : ℕ) (e : Entry) → es ≡ fs → place < length fs → e ≡ get_or es place e → slice_get fs place ≡ Some e
there es fs place e same below is = slice_get_read fs _ place e refl below (subst (λ (l : List Entry). e ≡ get_or l place e) same is)

pub step_made-requires : goal.step_made-requires
step_made-requires c =
    let same = c.as_slice-all.ensures.value ∙ c.in-Ok.ensures.copied in
    next_lawful (history_in c.args.record.now) c.in-Ok-played_to.engine c.args.place c.index-all-at.result c.as_slice-all.result.now
    c.requires.lawful c.in-Ok-played_to.ensures.ok same (omega (arith, c.if-at-len.false, c.len.ensures, ap length same)) c.index-all-at.is

pub returns-clause-entry : goal.returns-clause-entry
returns-clause-entry c =
    let h = history_in c.args.record.now in
    let place = c.args.place in
    let all = c.as_slice-all.result.now in
    let made = c.index-all-at.result in
    let taken = c.remove-entry.result in
    let same = c.as_slice-all.ensures.value ∙ c.in-Ok.ensures.copied in
    let below : place < length h.entries = omega (arith, c.if-at-len.false, c.len.ensures) in
    let entry : slice_get h.entries place ≡ Some taken = there c.in-Ok.entries.items h.entries place taken c.in-Ok.ensures.copied below c.remove-entry.ensures.value in
    let is : made ≡ taken = some_is made taken (sym (there all h.entries place made same below c.index-all-at.is) ∙ entry) in
    record {
      place_is = refl;
      entry = entry;
      pid = c.in-Ok-step_made.ensures.pid
          ∙ ap (λ (g : History). pid_in g all made) c.in-Ok-played_to.ensures.ok
          ∙ ap (λ (l : List Entry). pid_in (beginning place h) l made) same
          ∙ ap (λ (e : Entry). pid_in (beginning place h) h.entries e) is;
    }
