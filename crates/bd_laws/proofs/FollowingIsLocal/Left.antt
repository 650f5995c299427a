-- For FollowingIsLocal where a thread or a process ends, and for ItemsAreToldApart: which frames lose their servers, which
-- items and references go.
use Rattle.bd_laws.proofs.words.Logic.{arith, ◌≡◌, ℕ, ◌==◌, Bool, true, false, not, ◌&&◌, List, ◌⊎◌, inl, inr, ap, subst, ◌∙◌, map, list_any, eq-eqb}
use Rattle.bd_laws.proofs.words.Types.{Reference, Frame, Server, Work, TodoList, OfThread}
use Rattle.bd_laws.proofs.words.Space.{is_some_and, Space, is_gone, is_child_of, is_on, is_abandoned, thread_goes, is_lost_reference, is_unread_on, unread_server, is_left_frame, left_frames, seats_in, lists_in, lost_with_process, threads_go, is_dropped_with}
use Rattle.bd_laws.proofs.words.Laws.{In, IsSettled}
use Rattle.bd_laws.proofs.Lists.{in_filter, filter_in, in_map, map_in, any_found, any_in, fold_keeps}
pub use Rattle.bd_laws.proofs.Tests.{on_thread}
use Rattle.bd_laws.proofs.Tests.{not_false, to_false, or_left, or_right}
use Rattle.bd_laws.proofs.Sending.{none_found}
use Rattle.bd_laws.proofs.FollowingIsLocal.Closings.{Covered}

-- ---- frames whose server goes

-- a frame whose server changed is touched
pub record Went (c : ℕ → Bool) (f g : Frame) : Type 0 where
  pub made : g.made ≡ f.made
  pub parent : g.parent ≡ f.parent
  pub server : (g.server ≡ f.server) ⊎ (c f.made ≡ true)

pub record AllWent (c : ℕ → Bool) (fs gs : List Frame) : Type 0 where
  pub from : (g : Frame) → In g gs → (f : Frame) × In f fs × Went c f g
  pub to : (f : Frame) → In f fs → (g : Frame) × In g gs × Went c f g

pub all_same : (c : ℕ → Bool) (fs : List Frame) → AllWent c fs fs
all_same c fs = search arith

-- who had a child has one
children_went : (c : ℕ → Bool) (fs gs : List Frame) (f g : Frame) → AllWent c fs gs → g.made ≡ f.made → list_any (is_child_of f) fs ≡ true → list_any (is_child_of g) gs ≡ true
children_went c fs gs f g h made e =
    let k = any_found (is_child_of f) fs e in
    let j = h.to k.0 k.1 in
    any_in (is_child_of g) j.0 gs j.1 (ap (λ o. is_some_and o (λ m. m == g.made)) j.2.parent ∙ ap (λ n. is_some_and k.0.parent (λ m. m == n)) made ∙ k.2)

still_abandoned : (a b c d : Bool) → (a && not b) ≡ true → a ≡ c → (d ≡ true → b ≡ true) → (c && not d) ≡ false → ⊥
still_abandoned a b c d h e k none = search arith

pub abandoned_touched : (c : ℕ → Bool) (fs gs : List Frame) → IsSettled fs → AllWent c fs gs → Covered c gs
abandoned_touched c fs gs settled h g l abandoned =
    let f = h.from g l in
    elim f.2.server [
      | inr t ↦ ap c f.2.made ∙ t
      | inl same_server ↦ absurd (still_abandoned (is_gone g.server) (list_any (is_child_of g) gs) (is_gone f.0.server) (list_any (is_child_of f.0) fs) abandoned (ap is_gone same_server)
          (children_went c fs gs f.0 g h f.2.made) (none_found (is_abandoned fs) fs settled f.0 f.1))
    ]

-- a map of frames that changes servers of touched ones alone
pub went_map : (c : ℕ → Bool) (fs gs : List Frame) (m : Frame → Frame) → AllWent c fs gs → ((g : Frame) → (m g).made ≡ g.made) → ((g : Frame) → (m g).parent ≡ g.parent)
    → ((f g : Frame) → In f fs → In g gs → g.made ≡ f.made → g.server ≡ f.server → ((m g).server ≡ g.server) ⊎ (c f.made ≡ true)) → AllWent c fs (map m gs)
went_map c fs gs m h made parent server = record {
  from = λ g l.
      let k = in_map m g gs l in
      let f = h.from k.0 k.1 in
      (f.0, f.1, subst (λ (x : Frame). Went c f.0 x) k.2 (on f.0 k.0 f.1 k.1 f.2));
  to = λ f l. let g = h.to f l in (m g.0, map_in m g.0 gs g.1, on f g.0 l g.1 g.2);
}
  where
    on : (f g : Frame) → In f fs → In g gs → Went c f g → Went c f (m g)
    on f g l i w = record {
      made = made g ∙ w.made;
      parent = parent g ∙ w.parent;
      server = elim w.server [ inr t ↦ inr t | inl e ↦ search (arith, server f g l i w.made e) ];
    }

pub unread_or : (todo : List Work) (list : TodoList) (n : ℕ) (v : Server) → (unread_server todo list n v ≡ v) ⊎ (is_unread_on todo list n ≡ true)
unread_or todo list n v = search arith

any_less : (p : Work → Bool) (xs ys : List Work) → ((w : Work) → In w xs → In w ys) → list_any p xs ≡ true → list_any p ys ≡ true
any_less p xs ys less e = search (arith, any_found, any_in)

-- ---- threads go, one after the other

module _ (s : Space) (gone : Reference → Bool) (seats : List ℕ) (lists : List TodoList) where
  abbrev pub cover : ℕ → Bool
  cover = left_frames seats lists s

  abbrev pub on_lists : Work → Bool
  on_lists w = list_any (λ (l : TodoList). is_on l w) lists

  pub record Left (z : Space) : Type 0 where
    pub steps : z.steps ≡ s.steps
    pub processes : z.processes ≡ s.processes
    pub objects : z.objects ≡ s.objects
    pub names : z.names ≡ s.names
    pub deaths : z.deaths ≡ s.deaths
    pub less : (w : Work) → In w z.todo → In w s.todo
    pub more : (w : Work) → In w s.todo → on_lists w ≡ false → In w z.todo
    pub fewer : (r : Reference) → In r z.references → In r s.references
    pub stay : (r : Reference) → In r s.references → gone r ≡ false → In r z.references
    pub frames : AllWent cover s.frames z.frames

  pub left_none : Left s
  left_none = search (arith, all_same)

  cover_at : (f : Frame) → In f s.frames → is_left_frame seats lists s.todo f ≡ true → cover f.made ≡ true
  cover_at f l e = search (arith, any_in, eq-eqb)

  pub cover_unread : (z : Space) (list : TodoList) (f : Frame) → In list lists → ((w : Work) → In w z.todo → In w s.todo) → In f s.frames → is_unread_on z.todo list f.made ≡ true → cover f.made ≡ true
  cover_unread z list f i less l e = search (arith, any_in, any_less)

  pub left_step : (z : Space) (seat : ℕ) → In seat seats → In (OfThread seat) lists → ((r : Reference) → is_lost_reference s.todo (OfThread seat) r ≡ true → gone r ≡ true) → Left z → Left (thread_goes z seat)
  unfolding thread_goes
  left_step z seat at_seat at_list lost h = record {
    steps = h.steps;
    processes = h.processes;
    objects = h.objects;
    names = h.names;
    deaths = h.deaths;
    less = λ w l. h.less w (in_filter (λ (w : Work). not (is_on (OfThread seat) w)) w z.todo l).0;
    more = λ w l e. search (arith, filter_in, not_false, to_false, any_in);
    fewer = λ r l. h.fewer r (in_filter (λ (r : Reference). not (is_lost_reference z.todo (OfThread seat) r)) r z.references l).0;
    stay = λ r l e. search (arith, filter_in, not_false, to_false, any_less, h.less);
    frames = search (arith, went_map, unread_or, cover_unread, cover_at, or_left, any_in);
  }

-- the threads of a process go
pub threads_left : (s : Space) (p : ℕ) → Left s (lost_with_process s p) (seats_in s p) (lists_in s p) (threads_go s p)
unfolding threads_go
threads_left s p =
    let seats = seats_in s p in
    let ls = lists_in s p in
    let gone = lost_with_process s p in
    fold_keeps (Left s gone seats ls) thread_goes seats (λ z seat i k.
    left_step s gone seats ls z seat i (inr (map_in (λ t. OfThread t) seat seats i))
    (λ r e. or_right (is_dropped_with s.objects p r) _ (any_in (λ t. is_lost_reference s.todo (OfThread t) r) seat seats i e)) k) s (left_none s gone seats ls)
