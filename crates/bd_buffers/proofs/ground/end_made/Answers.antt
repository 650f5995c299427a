use Rattle.bd_buffers.proofs.Words.{Some, all_standing, ap, arith, filter_none, is_record_at, made_of_record, none_found, one_way_share, standing, sym}
use Rattle.bd_buffers.proofs.{Kept.{is_one_way, share_there, total_removed}, Noted.{gone_of, keeps_without}, Units.{before_tail, filled}}
use Rattle.bd_buffers.proofs.ground.end_made.Goals as goal

pub release-requires : goal.release-requires
release-requires c =
    let g = c.args.ground.now in let b = standing g.memory c.in-Some.record in
    let gone = gone_of c.args.made c.in-Some.record c.args.buffers.now.records g c.requires.kept (sym c.in-Some.ensures.taken) in
    let less = total_removed is_one_way (all_standing g.memory c.args.buffers.now.records) gone.index b gone.within in
    record {
      filled = filled g.size b (rw (gone.at b) (c.requires.kept.notes.window.placed gone.index b gone.within));
      inside = before_tail g.size _ _ _ g.spans c.requires.kept.notes.window gone c.requires.kept.notes.tiles;
      share = (let own = ap one_way_share (gone.at b) in omega (arith, own, less));
      sender = share_there _ _ _ g.senders gone c.requires.kept.notes.sums;
    }

pub returns-in-Some-clause-kept : goal.returns-in-Some-clause-kept
returns-in-Some-clause-kept c =
    rw c.in-Some.ensures.left (keeps_without c.args.made c.in-Some.record c.args.buffers.now.records c.args.ground.now c.release.new.self c.requires.kept (sym c.in-Some.ensures.taken)
    c.release.ensures.memory c.release.ensures.size.0 c.release.ensures.size.1 c.release.ensures.spans c.release.ensures.starts c.release.ensures.one_way c.release.ensures.senders)

pub returns-in_default-clause-kept : goal.returns-in_default-clause-kept
returns-in_default-clause-kept c =
    let none = none_found (is_record_at c.args.made) c.args.buffers.now.records (sym (rw c.in_default.is at c.take.ensures.taken)) in
    rw (c.take.ensures.left, filter_none made_of_record c.args.made c.args.buffers.now.records none) c.requires.kept
