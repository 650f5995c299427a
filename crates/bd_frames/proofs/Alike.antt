-- Threads take part in a frame as before, or fewer do.
use Rattle.std.proofs.{Common.{◌≡◌, ℕ, ◌==◌, ◌||◌, true, false, cond, Option, Some, None, refl, ap, sym, ◌∙◌, arith}, lemmas.Bool.Decides.{nat_tests}}
use Rattle.bd_space.specs.{declared.space.Frame.{Frame}, declared.space.Server.{Server}, declared.space.Server.TheVariants.{Pending, Serving, Gone}}
use Rattle.bd_space.specs.{Words.{is_some_and}, Frames.{calls, serves, takes_part}, ThreadExits.{gone_caller, gone_server}}
use Rattle.bd_ways.proofs.Ranges.{no_head}
use Rattle.bd_frames.specs.{declared.frame.Row.{Row}, Words.{lost, lost_frame, left_frame, left_row, is_pending}}
use Rattle.bd_frames.proofs.Stacking.{KeepsPart}

-- ---- who would have served it has gone

lost_serves : (s : ℕ) (v : Server) → serves s (lost v) ≡ serves s v
lost_serves s Pending = refl
lost_serves s (Serving t) = refl
lost_serves s Gone = refl

pub lost_keeps : (s : ℕ) (r : Row) → KeepsPart s r (record r { frame = lost_frame r.frame })
lost_keeps s r part = record { made = refl; part = ap (λ b. calls s r.frame || b) (sym (lost_serves s r.frame.server)) ∙ part; below = refl }

-- ---- a thread has gone

caller_kept : (seat s : ℕ) (o : Option ℕ) → (seat == s) ≡ false → is_some_and (gone_caller seat o) (λ t. t == s) ≡ is_some_and o (λ t. t == s)
caller_kept seat s None e = refl
caller_kept seat s (Some c) e = grind (arith, nat_tests)

caller_gone : (seat : ℕ) (o : Option ℕ) → is_some_and (gone_caller seat o) (λ t. t == seat) ≡ false
caller_gone seat None = refl
caller_gone seat (Some c) = grind (arith, nat_tests)

server_kept : (seat s : ℕ) (v : Server) → (seat == s) ≡ false → serves s (gone_server seat v) ≡ serves s v
server_kept seat s Pending e = refl
server_kept seat s Gone e = refl
server_kept seat s (Serving t) e = grind (arith, nat_tests)

server_gone : (seat : ℕ) (v : Server) → serves seat (gone_server seat v) ≡ false
server_gone seat Pending = refl
server_gone seat Gone = refl
server_gone seat (Serving t) = grind (arith, nat_tests)

pub left_gone : (seat : ℕ) (f : Frame) → takes_part seat (left_frame seat f) ≡ false
left_gone seat f = rw (caller_gone seat f.caller) (server_gone seat f.server)

pub left_keeps : (seat s : ℕ) → (seat == s) ≡ false → (r : Row) → KeepsPart s r (left_row seat r)
left_keeps seat s e r part = record {
  made = refl;
  part = rw (caller_kept seat s r.frame.caller e, server_kept seat s r.frame.server e) at part;
  below = ap (λ b. cond b r.caller r.server) (sym (caller_kept seat s r.frame.caller e));
}

no_caller : (seat : ℕ) (o : Option ℕ) → is_some_and o (λ t. t == seat) ≡ false → gone_caller seat o ≡ o
no_caller seat None e = refl
no_caller seat (Some c) e = rw e refl

no_server : (seat : ℕ) (v : Server) → serves seat v ≡ false → gone_server seat v ≡ v
no_server seat Pending e = refl
no_server seat Gone e = refl
no_server seat (Serving t) e = rw e refl

-- who takes no part in a frame is not gone from it
pub row_other : (seat : ℕ) (r : Row) → takes_part seat r.frame ≡ false → left_row seat r ≡ r
row_other seat r e =
    let g = no_head (calls seat r.frame) _ e in
    rw (no_caller seat r.frame.caller g.0, no_server seat r.frame.server g.1) refl

-- ---- nobody has read its call

pub pending_calls : (s : ℕ) (f : Frame) → is_pending f.server ≡ true → takes_part s f ≡ true → calls s f ≡ true
pending_calls s f e part = by f.server e part
  where
    by : (v : Server) → is_pending v ≡ true → (calls s f || serves s v) ≡ true → calls s f ≡ true
    by Pending e part = grind arith
    by (Serving t) e part = absurd (cc)
    by Gone e part = absurd (cc)
