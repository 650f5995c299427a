use Rattle.bd_step.proofs.{Words.{Bool, Buffer, HasEndings, List, Some, [], actor_acts, ap, at_pairs, buffer_at_pointer, change, find, space_after, stands_in, subst, sym, ℕ, ◌++◌, ◌∙◌, ◌∷◌, ◌≡◌}, Ending.{Earlier, nobody_frees, somebody_frees, free_ended, unfound_ended}, Gathered.{on_err}}
use Rattle.bd_space.specs.declared.step.Step.TheVariants as step_of
use Rattle.bd_uapi.specs.declared.command.Command.TheVariants as bc
use Rattle.bd_step.proofs.tables.Tables.list_freed.Goals as goal

pub returns-in_default-clause-listed : goal.returns-in_default-clause-listed
returns-in_default-clause-listed c = λ h parcel before.
    let s = space_after h in
    subst (λ (ps : List ℕ). HasEndings ps s (change s c.args.seat (step_of.Command (bc.FreeBuffer c.args.pointer) parcel)).space) (sym c.requires.none)
    (nobody_frees s c.args.seat c.args.pointer parcel (sym (c.in_default.ensures.found s.steps s before)))

pub returns-in_default-at_pointer-clause-listed : goal.returns-in_default-at_pointer-clause-listed
returns-in_default-at_pointer-clause-listed c = λ h parcel before.
    let s = space_after h in
    let a = c.in-Some.actor in
    let acts = sym (c.in-Some.ensures.found s.steps s before) in
    let found = sym (c.in_default-at_pointer.ensures.found s a.process (stands_in c.args.self.now.windows s before.windows_stand) (actor_acts s c.args.seat a acts).found) in
    subst (λ (ps : List ℕ). HasEndings ps s (change s c.args.seat (step_of.Command (bc.FreeBuffer c.args.pointer) parcel)).space) (sym c.requires.none)
    (somebody_frees s c.args.seat c.args.pointer parcel a [] acts (unfound_ended s a.process.made c.args.pointer found))

pub returns-in_ok-push-clause-listed : goal.returns-in_ok-push-clause-listed
returns-in_ok-push-clause-listed c = λ h parcel before.
    let s = space_after h in
    let a = c.in-Some.actor in
    let b = c.in-Some-at_pointer.b in
    let acts = sym (c.in-Some.ensures.found s.steps s before) in
    let found = sym (c.in-Some-at_pointer.ensures.found s a.process (stands_in c.args.self.now.windows s before.windows_stand) (actor_acts s c.args.seat a acts).found) in
    let is = c.in_ok-push.ensures.items ∙ ap (λ m. c.args.places.now.items ++ m ∷ []) c.made.ensures ∙ ap (λ ps. ps ++ b.made ∷ []) c.requires.none in
    subst (λ (ps : List ℕ). HasEndings ps s (change s c.args.seat (step_of.Command (bc.FreeBuffer c.args.pointer) parcel)).space) (sym is)
    (somebody_frees s c.args.seat c.args.pointer parcel a (b.made ∷ []) acts
    (free_ended s a.process.made c.args.pointer b (at_pairs Earlier s.buffers before.windows_stand.made.buffers_in_order) found))

none_there : (bs : List Buffer) (test : Buffer → Bool) (b : Buffer) → find test bs ≡ Some b → bs ≡ [] → ⊥
none_there [] test b found none = absurd (cc)
none_there (x ∷ bs) test b found none = absurd (cc)

pub returns-in_err-push-clause-grown : goal.returns-in_err-push-clause-grown
unfolding buffer_at_pointer
returns-in_err-push-clause-grown c = on_err c.from_residual.result (λ h before none.
    (let s = space_after h in
    let a = c.in-Some.actor in
    let acts = sym (c.in-Some.ensures.found s.steps s before) in
    none_there s.buffers _ c.in-Some-at_pointer.b
    (sym (c.in-Some-at_pointer.ensures.found s a.process (stands_in c.args.self.now.windows s before.windows_stand) (actor_acts s c.args.seat a acts).found)) none))
