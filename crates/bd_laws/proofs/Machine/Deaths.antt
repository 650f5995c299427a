-- For every law: parts of a step that change death notifications, and add work items of them alone.
use Rattle.bd_laws.proofs.words.Types.{Identity, DeathNotification, OfThread, OfProcess}
use Rattle.bd_laws.proofs.words.Space.{is_some_and, object_in, lives_in, Space, owe, request_check, with_phase, with_death, without_death, requested, told_death, mark_cleared, death_ended, cleared, death_done, is_out, tell_death, tell_deaths}
use Rattle.std.proofs.Common.{arith, ◌≡◌, ℕ, Bool, cond, List, Some, Ok}
use Rattle.bd_space.specs.declared.space.WorkKind.TheVariants as work
use Rattle.bd_laws.proofs.Lists.{fold_keeps}

-- R holds with other notifications, and with one more item that tells of one
pub record OnDeaths (z : Space) (R : Space → Type 0) : Type 0 where
  pub others : (ds : List DeathNotification) → R (record z { deaths = ds })
  pub dies : (ds : List DeathNotification) (p made : ℕ) → R (owe (record z { deaths = ds }) (OfProcess p) (work.Death made))
  pub clears : (ds : List DeathNotification) (t cookie : ℕ) → R (owe (record z { deaths = ds }) (OfThread t) (work.Cleared cookie))

pub either : (R : Space → Type 0) (b : Bool) (z y : Space) → R z → R y → R (cond b z y)
either R b z y h k = search arith

module _ (z : Space) (R : Space → Type 0) (k : OnDeaths z R) where
  pub on_requested : (p : ℕ) (o : Identity) (cookie : ℕ) → R (requested z p o cookie)
  unfolding requested with_death
  on_requested p o cookie = either R (is_some_and (object_in z.objects o) (λ x. lives_in z.processes x.owner)) _ _ (k.others _) (k.dies _ p z.steps)

  on_ended : (t : ℕ) (x : DeathNotification) → R (death_ended z t x)
  unfolding death_ended without_death
  on_ended t x = search arith

  pub on_cleared : (t : ℕ) (x : DeathNotification) → R (cleared z t x)
  unfolding cleared mark_cleared
  on_cleared t x = either R (is_out x.phase) _ _ (k.others _) (on_ended t x)

  pub on_done : (t : ℕ) (x : DeathNotification) → R (death_done z t x)
  unfolding death_done with_phase
  on_done t x = either R x.cleared _ _ (on_ended t x) (k.others _)

-- what the commands on death notifications leave
pub record DeathCommands (s : Space) (R : Space → Type 0) : Type 0 where
  pub requests : (p n cookie : ℕ) (o : Identity) → request_check s p n ≡ Ok o → R (requested s p o cookie)
  pub clears : (t : ℕ) (x : DeathNotification) → R (cleared s t x)
  pub dones : (t p cookie : ℕ) (x : DeathNotification) → told_death s p cookie ≡ Some x → R (death_done s t x)

pub on_commands : (s : Space) (R : Space → Type 0) → OnDeaths s R → DeathCommands s R
on_commands s R k = search (arith, on_requested, on_cleared, on_done)

pub commands_both : (s : Space) (R S : Space → Type 0) → DeathCommands s R → DeathCommands s S → DeathCommands s (λ y. R y × S y)
commands_both s R S k l = search arith

-- R is kept by each change of notifications alone, and by each item that tells of one.
pub record KeptOnDeaths (R : Space → Type 0) : Type 0 where
  pub others : (z : Space) (ds : List DeathNotification) → R z → R (record z { deaths = ds })
  pub dies : (z : Space) (p made : ℕ) → R z → R (owe z (OfProcess p) (work.Death made))
  pub clears : (z : Space) (t cookie : ℕ) → R z → R (owe z (OfThread t) (work.Cleared cookie))

module _ (R : Space → Type 0) (k : KeptOnDeaths R) where
  pub on_kept : (z : Space) → R z → OnDeaths z R
  on_kept z h = search arith

  pub on_told : (z : Space) (p : ℕ) → R z → R (tell_deaths z p)
  unfolding tell_deaths with_phase
  on_told z p h = fold_keeps R (tell_death p) z.deaths (λ y x l. search (arith, either)) z h

-- what holds of each of them in another form
pub on_mapped : (z : Space) (R S : Space → Type 0) → ((y : Space) → R y → S y) → OnDeaths z R → OnDeaths z S
on_mapped z R S f k = search arith

pub on_both : (z : Space) (R S : Space → Type 0) → OnDeaths z R → OnDeaths z S → OnDeaths z (λ y. R y × S y)
on_both z R S k l = search arith

-- what of a space they leave as it is
pub record Aside (z y : Space) : Type 0 where
  pub steps : z.steps ≡ y.steps
  pub threads : z.threads ≡ y.threads
  pub frames : z.frames ≡ y.frames
  pub buffers : z.buffers ≡ y.buffers

kept_aside : (z : Space) → KeptOnDeaths (λ y. Aside y z)
unfolding owe
kept_aside z = search arith

aside : (z : Space) → Aside z z
aside z = search arith

pub on_deaths_aside : (z : Space) → OnDeaths z (λ y. Aside y z)
on_deaths_aside z = on_kept _ (kept_aside z) z (aside z)

pub tell_deaths_aside : (z : Space) (p : ℕ) → Aside (tell_deaths z p) z
tell_deaths_aside z p = on_told _ (kept_aside z) z p (aside z)
