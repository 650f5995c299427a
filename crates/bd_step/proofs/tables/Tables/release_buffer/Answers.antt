use Rattle.bd_step.proofs.{Words.{Within, ripen_next, subst, sym, without_buffer}, Freeing.{freed_followed, freed_ordered}}
use Rattle.bd_step.proofs.tables.Tables.release_buffer.Goals as goal

pub returns-clause-stands : goal.returns-clause-stands
returns-clause-stands c = λ s h k.
    let made = c.args.made in
    let target = c.turn_target_at-target.result in
    subst (Within c.follow_among.new.self)
    (sym (freed_followed s c.args.p made c.args.touched.now k target (sym (c.turn_target_at-target.ensures s h))))
    (c.follow_among.ensures.stands (ripen_next target (without_buffer s made))
    (c.ripen_next.ensures.stands (without_buffer s made) (c.remove_buffer.ensures.stands s h)) (freed_ordered s made target k.tidy.before.objects.kept.in_order))
