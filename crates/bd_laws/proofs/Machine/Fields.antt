-- For every law: what the parts of a step leave of single fields of the space.
use Rattle.bd_laws.proofs.words.Logic.{arith, ◌≡◌, ℕ, Bool, cond, not, Option, Some, None, refl, filter}
use Rattle.bd_laws.proofs.words.Types.{TransactionData, Actor, Frame, TodoList, OfThread, WorkKind}
use Rattle.bd_laws.proofs.words.Space.{Space, owe, closed, is_frame, counted, follow_of, names_go_of, objects_go_of, deaths_go_of, work_goes_of, notify_of, NameTest, ObjectTest, Delivery, delivered, own_notices, add_buffer, with_carried, assign_numbers, refer, make_objects, serve}
use Rattle.bd_space.specs.declared.space.WorkKind.TheVariants as work

-- ---- one item more

pub owe_threads : (z : Space) (list : TodoList) (kind : WorkKind) → (owe z list kind).threads ≡ z.threads
unfolding owe
owe_threads z list kind = refl

pub owe_frames : (z : Space) (list : TodoList) (kind : WorkKind) → (owe z list kind).frames ≡ z.frames
unfolding owe
owe_frames z list kind = refl

pub owe_buffers : (z : Space) (list : TodoList) (kind : WorkKind) → (owe z list kind).buffers ≡ z.buffers
unfolding owe
owe_buffers z list kind = refl

pub told_frames : (z : Space) (caller : Option ℕ) (kind : WorkKind) → (elim caller as (λ (o : Option ℕ). Space) [ None ↦ z | Some t ↦ owe z (OfThread t) kind ]).frames ≡ z.frames
told_frames z caller kind = search (arith, owe_frames)

-- ---- a frame closes, or is served

pub closed_steps : (z : Space) (made : ℕ) → (closed z made).steps ≡ z.steps
unfolding closed
closed_steps z made = refl

pub closed_threads : (z : Space) (made : ℕ) → (closed z made).threads ≡ z.threads
unfolding closed
closed_threads z made = refl

pub closed_frames : (z : Space) (made : ℕ) → (closed z made).frames ≡ filter (λ g. not (is_frame made g)) z.frames
unfolding closed
closed_frames z made = refl

pub closed_same : (s : Space) (made : ℕ) → ((closed s made).steps ≡ s.steps) × ((closed s made).threads ≡ s.threads) × ((closed s made).references ≡ s.references) × ((closed s made).todo ≡ s.todo)
    × ((closed s made).buffers ≡ s.buffers)
unfolding closed
closed_same s made = (refl, refl, refl, refl, refl)

pub serve_made : (seat : ℕ) (c : Bool) (f : Frame) → (cond c (serve seat f) f).made ≡ f.made
serve_made seat c f = search arith

-- ---- what is sent

pub sent_steps : (s : Space) (a : Actor) (d : TransactionData) (v : Delivery) (spam : Bool) → (owe (delivered s a d v) (OfThread a.thread.seat) (work.Complete spam)).steps ≡ s.steps
unfolding owe delivered own_notices add_buffer with_carried assign_numbers refer make_objects
sent_steps s a d v spam = refl

pub sent_threads : (s : Space) (a : Actor) (d : TransactionData) (v : Delivery) (spam : Bool) → (owe (delivered s a d v) (OfThread a.thread.seat) (work.Complete spam)).threads ≡ s.threads
unfolding owe delivered own_notices add_buffer with_carried assign_numbers refer make_objects
sent_threads s a d v spam = refl

pub sent_frames : (s : Space) (a : Actor) (d : TransactionData) (v : Delivery) (spam : Bool) → (owe (delivered s a d v) (OfThread a.thread.seat) (work.Complete spam)).frames ≡ s.frames
unfolding owe delivered own_notices add_buffer with_carried assign_numbers refer make_objects
sent_frames s a d v spam = refl

-- ---- what follows, and the step's end

pub follow_of_frames : (a : NameTest) (b : ObjectTest) (z : Space) → (follow_of a b z).frames ≡ z.frames
unfolding follow_of names_go_of objects_go_of deaths_go_of work_goes_of notify_of
follow_of_frames a b z = refl

pub counted_buffers : (z : Space) → (counted z).buffers ≡ z.buffers
unfolding counted
counted_buffers z = refl
