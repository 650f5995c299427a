-- Lists and their keys, by name.
use Rattle.std.proofs.Common.{◌≡◌, refl}
use Rattle.bd_space.specs.{declared.space.TodoList.{TodoList}, declared.space.TodoList.TheVariants.{OfThread, OfProcess}, Todo.{same_list}}
pub use Rattle.bd_todo.specs.SameList.{same_list_eq, same_list_refl}
use Rattle.bd_todo.specs.Keys.{list_key, same_key}

pub same_keys : (a b : TodoList) → same_list a b ≡ same_key (list_key a) (list_key b)
same_keys (OfThread t) (OfThread u) = refl
same_keys (OfThread t) (OfProcess q) = refl
same_keys (OfProcess p) (OfThread u) = refl
same_keys (OfProcess p) (OfProcess q) = refl
