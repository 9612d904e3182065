-- A copy of a store from an epoch before is another store in each epoch that both enter.
use Rattle.std.proofs.Common.{◌≡◌, ◌≢◌, ℕ, true, false, Err, refl, arith}
use Rattle.std.proofs.lemmas.Bool.Decides.{nat_tests}
use Rattle.net_hello.specs.Identity.{is_another_store, judged_by}
use Rattle.net_hello.specs.declared.hello.Hello.{Hello}
use Rattle.net_hello.specs.declared.hello.Known.{Known}
use Rattle.net_hello.specs.declared.judging.Refusal.TheVariants.{OtherStore}
use Rattle.plc_epochs.specs.declared.kept.Kept.{Kept}
use Rattle.plc_store.specs.Keeping.{are_of_one_epoch, with_kept}
use Rattle.plc_store.specs.Spelling.{Saying}

two : (drawn again : ℕ) → drawn ≢ 0 → drawn ≢ again → is_another_store drawn again ≡ true
two drawn again some differ = grind (arith, nat_tests)

pub another : (store copy : Saying) (kept : Kept) (drawn again : ℕ) → are_of_one_epoch store.header.kept kept ≡ false
    → are_of_one_epoch copy.header.kept kept ≡ false → drawn ≢ 0 → drawn ≢ again
    → is_another_store (with_kept store kept drawn).header.store (with_kept copy kept again).header.store ≡ true
another store copy kept drawn again apart before some differ = rw (apart, before) (two drawn again some differ)

pub refused : (own other : Hello) (seen : Known) → is_another_store seen.store other.store ≡ true
    → judged_by own seen other ≡ Err OtherStore
refused own other seen is = rw is refl
