use Rattle.bd_step.proofs.{Words.{List, Some, Within, Work, ap, buffer_taken, filter_map, got, is_among, made_of_buffer, notice_of, option_map, read_by, read_taking, stream_of, subst, sym, taken, work_on, ◌-◌, ◌∙◌}, FollowingObjects.{among_noticed}, Meeting.{meets}, Reading.{read_followed, read_ordered}, Standing.{within}}
use Rattle.bd_step.proofs.tables.Tables.read_list.Goals as goal

pub returns-clause-ok : goal.returns-clause-ok
unfolding read_taking
returns-clause-ok g c = meets _ _ _ _ _ (λ s h by.
    let here = c.take_works-works.ensures.stands s h in
    let all = taken s (c.args.limit - 4) (work_on s.todo (Some c.args.list)) in
    let t = c.in_ok-select.ensures s here in
    let buffer = c.buffer_taken-buffer.ensures s (within _ s here) in
    let made = c.made_of-made.ensures ∙ ap (option_map made_of_buffer) buffer
    ∙ ap (λ (ws : List Work). option_map made_of_buffer (buffer_taken s ws)) (c.as_slice.ensures.value ∙ sym c.as_slice-3.ensures.value) in
    let read = subst (λ (ws : List Work). Within c.read_by.new.self (read_by s c.args.thread.now.seat ws)) (c.as_slice-3.ensures.value ∙ t.works_are)
    (c.read_by.ensures.stands s (within _ s (c.in_ok-reserve_read.ensures.stands s here)) made) in
    let noticed = ap is_among (c.in_ok-noticed.ensures ∙ ap (filter_map (λ (w : Work). notice_of w.kind)) (c.as_slice-2.ensures.value ∙ t.works_are)) ∙ among_noticed all in
    let looked = ap is_among c.as_slice-4.ensures.value ∙ c.in_order-touched.ensures.touched.among ∙ noticed in
    record {
      answered = c.in_ok-write_got.ensures.answer ∙ ap (λ bs. got bs c.buffer_taken-buffer.result) t.stream_is
          ∙ ap (got (stream_of s all)) buffer ∙ ap (λ (ws : List Work). got (stream_of s all) (buffer_taken s ws)) (c.as_slice.ensures.value ∙ t.works_are);
      stands = c.keep_works.ensures.stands _ (
          subst (Within c.follow_objects.new.self) (read_followed s c.args.thread.now c.args.list c.args.thread.now.seat (c.args.limit - 4) _ by looked)
          (c.follow_objects.ensures.stands (read_by s c.args.thread.now.seat all) read (read_ordered s c.args.thread.now.seat all by.tidy)));
    })
