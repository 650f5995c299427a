-- The table of commands.
use Rattle.std.proofs.Common.{◌≡◌, ℕ, ◌^◌, ◌<◌, List, ◌++◌, length, Result, Ok, refl, lit<}
use Rattle.std.specs.List.{AllByRecursion}
use Rattle.std.specs.Prelude.{IfOk}
use Rattle.bd_uapi.specs.declared.command.Command.{Command}
use Rattle.bd_uapi.specs.declared.command.Command.TheVariants.{Transaction, Reply, FreeBuffer, Increfs, Acquire, Release, Decrefs, IncrefsDone, AcquireDone, EnterLooper, ExitLooper, RequestDeathNotification, ClearDeathNotification, DeadBinderDone}
use Rattle.bd_uapi.specs.declared.fault.Fault.{Fault}
use Rattle.bd_uapi.proofs.Pieces.{IsBytes}
use Rattle.bd_codec.specs.Spelling.{command_code, refused_codes, command_payload, command_bytes, IsCommand, Found}
use Rattle.bd_codec.specs.Faults.{command_fault}
use Rattle.bd_codec.specs.Reading.{command_rows, command_of, command_at}
use Rattle.bd_codec.proofs.Shapes.{Right, bare_right, record_right, handle_right, pointer_right, pointer_and_cookie_right, handle_and_cookie_right, bare_again, record_again, handle_again, pointer_again, pointer_and_cookie_again, handle_and_cookie_again}
use Rattle.bd_codec.proofs.Tables.{found_in, code_again, apart, Says, Plain, table_says}

rows_right : AllByRecursion (Right command_bytes IsCommand) command_rows
rows_right = (
  record_right command_bytes IsCommand command_code Transaction (λ t. refl) (λ t h. h),
  (
    record_right command_bytes IsCommand command_code Reply (λ t. refl) (λ t h. h),
    (
      pointer_right command_bytes IsCommand command_code FreeBuffer (λ n. refl) (λ n h. h),
      (
        handle_right command_bytes IsCommand command_code Increfs (λ n. refl) (λ n h. h),
        (
          handle_right command_bytes IsCommand command_code Acquire (λ n. refl) (λ n h. h),
          (
            handle_right command_bytes IsCommand command_code Release (λ n. refl) (λ n h. h),
            (
              handle_right command_bytes IsCommand command_code Decrefs (λ n. refl) (λ n h. h),
              (
                pointer_and_cookie_right command_bytes IsCommand command_code IncrefsDone (λ m n. refl) (λ m n h k. (h, k)),
                (
                  pointer_and_cookie_right command_bytes IsCommand command_code AcquireDone (λ m n. refl) (λ m n h k. (h, k)),
                  (
                    bare_right command_bytes IsCommand command_code EnterLooper refl tt,
                    (
                      bare_right command_bytes IsCommand command_code ExitLooper refl tt,
                      (
                        handle_and_cookie_right command_bytes IsCommand command_code RequestDeathNotification (λ m n. refl) (λ m n h k. (h, k)),
                        (
                          handle_and_cookie_right command_bytes IsCommand command_code ClearDeathNotification (λ m n. refl) (λ m n h k. (h, k)),
                          (pointer_right command_bytes IsCommand command_code DeadBinderDone (λ n. refl) (λ n h. h), tt),
                        ),
                      ),
                    ),
                  ),
                ),
              ),
            ),
          ),
        ),
      ),
    ),
  ),
)

pub command_found : (bytes : List ℕ) (r : Result (Command × ℕ) Fault) → IsBytes bytes → r ≡ command_at bytes → IfOk r (λ x. Found command_bytes IsCommand bytes x.0 x.1)
unfolding command_of
command_found bytes r h e = found_in command_bytes IsCommand refused_codes command_rows bytes r rows_right h e

code_fits : (c : Command) → command_code c < 2 ^ 32
code_fits (Transaction t) = lit< tt
code_fits (Reply t) = lit< tt
code_fits (FreeBuffer p) = lit< tt
code_fits (Increfs n) = lit< tt
code_fits (Acquire n) = lit< tt
code_fits (Release n) = lit< tt
code_fits (Decrefs n) = lit< tt
code_fits (IncrefsDone p q) = lit< tt
code_fits (AcquireDone p q) = lit< tt
code_fits EnterLooper = lit< tt
code_fits ExitLooper = lit< tt
code_fits (RequestDeathNotification n q) = lit< tt
code_fits (ClearDeathNotification n q) = lit< tt
code_fits (DeadBinderDone p) = lit< tt

row_again : (c : Command) (rest : List ℕ) → IsCommand c → command_of (command_code c) (command_bytes c ++ rest) ≡ Ok (c, length (command_bytes c))
unfolding command_of
row_again (Transaction t) rest fits = record_again (command_code (Transaction t)) Transaction t rest fits
row_again (Reply t) rest fits = record_again (command_code (Reply t)) Reply t rest fits
row_again (FreeBuffer p) rest fits = pointer_again (command_code (FreeBuffer p)) FreeBuffer p rest fits
row_again (Increfs n) rest fits = handle_again (command_code (Increfs n)) Increfs n rest fits
row_again (Acquire n) rest fits = handle_again (command_code (Acquire n)) Acquire n rest fits
row_again (Release n) rest fits = handle_again (command_code (Release n)) Release n rest fits
row_again (Decrefs n) rest fits = handle_again (command_code (Decrefs n)) Decrefs n rest fits
row_again (IncrefsDone p q) rest fits = pointer_and_cookie_again (command_code (IncrefsDone p q)) IncrefsDone p q rest fits.0 fits.1
row_again (AcquireDone p q) rest fits = pointer_and_cookie_again (command_code (AcquireDone p q)) AcquireDone p q rest fits.0 fits.1
row_again EnterLooper rest fits = bare_again (command_code EnterLooper) EnterLooper rest
row_again ExitLooper rest fits = bare_again (command_code ExitLooper) ExitLooper rest
row_again (RequestDeathNotification n q) rest fits = handle_and_cookie_again (command_code (RequestDeathNotification n q)) RequestDeathNotification n q rest fits.0 fits.1
row_again (ClearDeathNotification n q) rest fits = handle_and_cookie_again (command_code (ClearDeathNotification n q)) ClearDeathNotification n q rest fits.0 fits.1
row_again (DeadBinderDone p) rest fits = pointer_again (command_code (DeadBinderDone p)) DeadBinderDone p rest fits

pub command_again : (c : Command) (rest : List ℕ) → IsCommand c → command_at (command_bytes c ++ rest) ≡ Ok (c, length (command_bytes c))
command_again c rest fits = code_again command_of (command_code c) (command_payload c ++ rest) _ (code_fits c) (row_again c rest fits)

pub no_command_begins_another : (c d : Command) (x y : List ℕ) → IsCommand c → IsCommand d → command_bytes c ++ x ≡ command_bytes d ++ y → (c ≡ d) × (x ≡ y)
no_command_begins_another c d x y fc fd e = apart command_bytes command_at c d x y (command_again c x fc) (command_again d y fd) e

rows_plain : AllByRecursion (Plain refused_codes) command_rows
rows_plain = (record { size = refl; kept = refl }, (record { size = refl; kept = refl }, (record { size = refl; kept = refl }, (record { size = refl; kept = refl }, (record { size = refl; kept = refl }, (record { size = refl; kept = refl }, (record { size = refl; kept = refl }, (record { size = refl; kept = refl }, (record { size = refl; kept = refl }, (record { size = refl; kept = refl }, (record { size = refl; kept = refl }, (record { size = refl; kept = refl }, (record { size = refl; kept = refl }, (record { size = refl; kept = refl }, tt))))))))))))))

pub command_says : (bytes : List ℕ) → Says (command_at bytes) (command_fault bytes)
unfolding command_of
command_says bytes = table_says refused_codes command_rows bytes rows_plain
