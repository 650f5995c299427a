use Rattle.bd_step.proofs.{Words.{arith, object_bytes, overwritten, translated, translation, ◌∙◌}, Deliveries.{translated_more, fold_all}}
use Rattle.bd_step.proofs.tables.Tables.translate.Goals as goal

pub loop-x-preserved : goal.loop-x-preserved
loop-x-preserved c = λ n s h.
    translated_more s c.args.q c.args.bytes.now c.loop-x.bytes c.put_object.new.bytes c.args.items.now c.loop-x.x-index _ _ (omega arith) c.put_object.ensures (c.translated-flat.ensures s h.objects_stand) (c.loop-x.invariant n s h)

pub returns : goal.returns
unfolding translation
returns c = λ n s h. c.loop-x.invariant n s h ∙ fold_all (λ bytes x. overwritten bytes x.at (object_bytes (translated s.objects s.names c.args.q x))) c.args.bytes.now c.args.items.now c.loop-x.x-index (omega arith)
