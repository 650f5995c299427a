use Rattle.bd_step.proofs.{Words.{All, Delivery, IsCopy, IsInside, Item, List, ap, arith, laid_bytes, length, needed, refl, subst, sym, translation, ◌∙◌, ◌≡◌}, Deliveries.{buffer_is, copy_inside}}
use Rattle.bd_step.proofs.tables.Tables.buffer_of.Goals as goal

pub put_right-own-requires : goal.put_right-own-requires
put_right-own-requires c =
    let v = c.delivery.inside in
    let copy = subst (IsCopy v.copy v.parcel.now.bytes) (sym c.as_slice.ensures.value) c.delivery.invariant in
    let all : All (IsInside v.parcel.now.bytes) v.items.items = subst (λ (w : Delivery). All (IsInside w.sending.bytes) w.sending.items) (sym c.delivery.view_is) c.requires.sound.inside in
    record {
      inside = copy_inside v.copy v.parcel.now.bytes c.as_slice.result.now copy (subst (λ (xs : List Item). All (IsInside v.parcel.now.bytes) xs) (sym c.as_slice.ensures.value) all);
    }

pub returns-clause-buffer : goal.returns-clause-buffer
returns-clause-buffer c = λ n s h.
    let v = c.delivery.inside in
    let copy = subst (IsCopy v.copy v.parcel.now.bytes) (sym c.as_slice.ensures.value) c.delivery.invariant in
    let bytes = c.put_right-own.ensures.translated v.parcel.now.bytes copy n s h ∙ ap (λ (xs : List Item). translation s v.receiver.made v.parcel.now.bytes xs) c.as_slice.ensures.value in
    buffer_is s c.args.actor c.args.sent.now c.args.delivery _ _ _ _ _ c.delivery.view_is h.own.steps_are c.needed.ensures bytes refl

pub returns-clause-sized : goal.returns-clause-sized
returns-clause-sized c =
    let v = c.delivery.inside in
    let d = c.args.sent.now in
    let copy = subst (IsCopy v.copy v.parcel.now.bytes) (sym c.as_slice.ensures.value) c.delivery.invariant in
    let bytes : length (laid_bytes c.put_right-own.result v.parcel.now.bytes) ≡ d.data_size =
    c.put_right-own.ensures.len v.parcel.now.bytes copy ∙ ap (λ (w : Delivery). length w.sending.bytes) c.delivery.view_is ∙ c.requires.sound.bytes_sized in
    let offsets : length v.parcel.now.offsets ≡ d.offsets_size = ap (λ (w : Delivery). length w.sending.offsets) c.delivery.view_is ∙ c.requires.sound.offsets_sized in
    c.needed.ensures ∙ sym (ap (λ n. needed n (length v.parcel.now.offsets)) bytes ∙ ap (needed d.data_size) offsets)

pub invariant_of-result : goal.invariant_of-result
invariant_of-result c =
    let v = c.delivery.inside in
    let d = c.args.sent.now in
    let copy = subst (IsCopy v.copy v.parcel.now.bytes) (sym c.as_slice.ensures.value) c.delivery.invariant in
    let bytes : length (laid_bytes c.put_right-own.result v.parcel.now.bytes) ≡ d.data_size =
    c.put_right-own.ensures.len v.parcel.now.bytes copy ∙ ap (λ (w : Delivery). length w.sending.bytes) c.delivery.view_is ∙ c.requires.sound.bytes_sized in
    let offsets : length v.parcel.now.offsets ≡ d.offsets_size = ap (λ (w : Delivery). length w.sending.offsets) c.delivery.view_is ∙ c.requires.sound.offsets_sized in
    let fits = c.requires.fits in
    record { data_sized = omega (arith, bytes, fits); offsets_sized = omega (arith, offsets, fits) }
