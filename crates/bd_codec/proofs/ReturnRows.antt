-- The table of returns.
use Rattle.std.proofs.Common.{◌≡◌, ℕ, ◌^◌, ◌<◌, List, [], ◌++◌, length, Result, Ok, refl, lit<}
use Rattle.std.specs.List.{AllByRecursion}
use Rattle.std.specs.Prelude.{IfOk}
use Rattle.bd_uapi.specs.declared.command.Return.{Return}
use Rattle.bd_uapi.specs.declared.command.Return.TheVariants.{Transaction, Reply, DeadReply, TransactionComplete, Increfs, Acquire, Release, Decrefs, Noop, DeadBinder, ClearDeathNotificationDone, FailedReply, OnewaySpamSuspect}
use Rattle.bd_uapi.specs.declared.fault.Fault.{Fault}
use Rattle.bd_uapi.proofs.Pieces.{IsBytes}
use Rattle.bd_codec.specs.Spelling.{return_code, return_payload, return_bytes, IsReturn, Found}
use Rattle.bd_codec.specs.Faults.{return_fault}
use Rattle.bd_codec.specs.Reading.{return_rows, return_of, return_at}
use Rattle.bd_codec.proofs.Shapes.{Right, bare_right, record_right, pointer_right, pointer_and_cookie_right, bare_again, record_again, pointer_again, pointer_and_cookie_again}
use Rattle.bd_codec.proofs.Tables.{found_in, code_again, apart, Says, Plain, table_says}

rows_right : AllByRecursion (Right return_bytes IsReturn) return_rows
rows_right = (
  record_right return_bytes IsReturn return_code Transaction (λ t. refl) (λ t h. h),
  (
    record_right return_bytes IsReturn return_code Reply (λ t. refl) (λ t h. h),
    (
      bare_right return_bytes IsReturn return_code DeadReply refl tt,
      (
        bare_right return_bytes IsReturn return_code TransactionComplete refl tt,
        (
          pointer_and_cookie_right return_bytes IsReturn return_code Increfs (λ m n. refl) (λ m n h k. (h, k)),
          (
            pointer_and_cookie_right return_bytes IsReturn return_code Acquire (λ m n. refl) (λ m n h k. (h, k)),
            (
              pointer_and_cookie_right return_bytes IsReturn return_code Release (λ m n. refl) (λ m n h k. (h, k)),
              (
                pointer_and_cookie_right return_bytes IsReturn return_code Decrefs (λ m n. refl) (λ m n h k. (h, k)),
                (
                  bare_right return_bytes IsReturn return_code Noop refl tt,
                  (
                    pointer_right return_bytes IsReturn return_code DeadBinder (λ n. refl) (λ n h. h),
                    (
                      pointer_right return_bytes IsReturn return_code ClearDeathNotificationDone (λ n. refl) (λ n h. h),
                      (
                        bare_right return_bytes IsReturn return_code FailedReply refl tt,
                        (bare_right return_bytes IsReturn return_code OnewaySpamSuspect refl tt, tt),
                      ),
                    ),
                  ),
                ),
              ),
            ),
          ),
        ),
      ),
    ),
  ),
)

pub return_found : (bytes : List ℕ) (r : Result (Return × ℕ) Fault) → IsBytes bytes → r ≡ return_at bytes → IfOk r (λ x. Found return_bytes IsReturn bytes x.0 x.1)
unfolding return_of
return_found bytes r h e = found_in return_bytes IsReturn [] return_rows bytes r rows_right h e

code_fits : (r : Return) → return_code r < 2 ^ 32
code_fits (Transaction t) = lit< tt
code_fits (Reply t) = lit< tt
code_fits DeadReply = lit< tt
code_fits TransactionComplete = lit< tt
code_fits (Increfs p q) = lit< tt
code_fits (Acquire p q) = lit< tt
code_fits (Release p q) = lit< tt
code_fits (Decrefs p q) = lit< tt
code_fits Noop = lit< tt
code_fits (DeadBinder p) = lit< tt
code_fits (ClearDeathNotificationDone p) = lit< tt
code_fits FailedReply = lit< tt
code_fits OnewaySpamSuspect = lit< tt

row_again : (r : Return) (rest : List ℕ) → IsReturn r → return_of (return_code r) (return_bytes r ++ rest) ≡ Ok (r, length (return_bytes r))
unfolding return_of
row_again (Transaction t) rest fits = record_again (return_code (Transaction t)) Transaction t rest fits
row_again (Reply t) rest fits = record_again (return_code (Reply t)) Reply t rest fits
row_again DeadReply rest fits = bare_again (return_code DeadReply) DeadReply rest
row_again TransactionComplete rest fits = bare_again (return_code TransactionComplete) TransactionComplete rest
row_again (Increfs p q) rest fits = pointer_and_cookie_again (return_code (Increfs p q)) Increfs p q rest fits.0 fits.1
row_again (Acquire p q) rest fits = pointer_and_cookie_again (return_code (Acquire p q)) Acquire p q rest fits.0 fits.1
row_again (Release p q) rest fits = pointer_and_cookie_again (return_code (Release p q)) Release p q rest fits.0 fits.1
row_again (Decrefs p q) rest fits = pointer_and_cookie_again (return_code (Decrefs p q)) Decrefs p q rest fits.0 fits.1
row_again Noop rest fits = bare_again (return_code Noop) Noop rest
row_again (DeadBinder p) rest fits = pointer_again (return_code (DeadBinder p)) DeadBinder p rest fits
row_again (ClearDeathNotificationDone p) rest fits = pointer_again (return_code (ClearDeathNotificationDone p)) ClearDeathNotificationDone p rest fits
row_again FailedReply rest fits = bare_again (return_code FailedReply) FailedReply rest
row_again OnewaySpamSuspect rest fits = bare_again (return_code OnewaySpamSuspect) OnewaySpamSuspect rest

pub return_again : (r : Return) (rest : List ℕ) → IsReturn r → return_at (return_bytes r ++ rest) ≡ Ok (r, length (return_bytes r))
return_again r rest fits = code_again return_of (return_code r) (return_payload r ++ rest) _ (code_fits r) (row_again r rest fits)

pub no_return_begins_another : (r s : Return) (x y : List ℕ) → IsReturn r → IsReturn s → return_bytes r ++ x ≡ return_bytes s ++ y → (r ≡ s) × (x ≡ y)
no_return_begins_another r s x y fr fs e = apart return_bytes return_at r s x y (return_again r x fr) (return_again s y fs) e

rows_plain : AllByRecursion (Plain []) return_rows
rows_plain = (record { size = refl; kept = refl }, (record { size = refl; kept = refl }, (record { size = refl; kept = refl }, (record { size = refl; kept = refl }, (record { size = refl; kept = refl }, (record { size = refl; kept = refl }, (record { size = refl; kept = refl }, (record { size = refl; kept = refl }, (record { size = refl; kept = refl }, (record { size = refl; kept = refl }, (record { size = refl; kept = refl }, (record { size = refl; kept = refl }, (record { size = refl; kept = refl }, tt)))))))))))))

pub return_says : (bytes : List ℕ) → Says (return_at bytes) (return_fault bytes)
unfolding return_of
return_says bytes = table_says [] return_rows bytes rows_plain
