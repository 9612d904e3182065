-- What is read, and what isn't.
use Rattle.std.proofs.Common.{◌≡◌, ◌≢◌, ◌<◌, ◌≤◌, ℕ, Bool, true, false, cond, List, [], ◌∷◌, ◌++◌, length, take, drop, Option, Some, None, Result, Ok, Err, not, ◌&&◌, IfOk, IfErr, refl, sym, ap, ◌∙◌, subst, arith, append-nil, ◌⊎◌, inl, inr}
use Rattle.std.specs.Prelude.{bytes_eq, codes, nat_le}
use Rattle.std.proofs.Math.Bool.{and-false}
use Rattle.std.proofs.lemmas.Bool.{cases_Bool, false≢true}
use Rattle.std.proofs.lemmas.List.{take-append-drop, length-take-le}
use Rattle.std.proofs.lemmas.Option.{same_Some}
use Rattle.std.proofs.lemmas.Slice.Eq.{bytes_eq-Decides}
use Rattle.net_hello.specs.declared.hello.Epoch.{Epoch}
use Rattle.plc_epochs.specs.declared.kept.Kept.{Kept}
use Rattle.plc_epochs.specs.declared.kept.Kept.TheVariants as keeps
use Rattle.plc_store.specs.declared.header.Header.{Header}
use Rattle.plc_store.specs.declared.header.Store.{Store}
use Rattle.plc_store.specs.declared.judging.Refusal.{Refusal}
use Rattle.plc_store.specs.declared.judging.Refusal.TheVariants as refusals
use Rattle.plc_store.specs.declared.judging.Start.{Start}
use Rattle.plc_store.specs.declared.judging.Start.TheVariants.{Waits, First, Again}
use Rattle.plc_store.specs.declared.judging.Wanted.{Wanted}
use Rattle.plc_store.specs.declared.reading.StoreFault.{StoreFault}
use Rattle.plc_store.specs.declared.reading.StoreFault.TheVariants.{OtherFormat, Torn, Memory}
use Rattle.plc_store.specs.Judging.{HasEntered, begun, by_kept, found_by, has_view, judged, judged_store, judgement, refusal_of}
use Rattle.plc_store.specs.Spelling.{Gives, IsOtherFormat, fields_of, is_other_format, read_of, spelled_so, Fits}
use Rattle.plc_store.specs.Spelling.{Saying, saying, spelling}
use Rattle.plc_store.proofs.Fields.{fields_again}

-- whether a read went well
is_read : {A E : Type 0} → Result A E → Bool
is_read (Ok x) = true
is_read (Err e) = false

Ok≢Err : {A E P : Type 0} (x : A) (e : E) → ◌≡◌ {A = Result A E} (Ok x) (Err e) → P
unfolding is_read
Ok≢Err x e h = absurd (false≢true (sym (ap is_read h)))

or_else : {A E : Type 0} → A → Result A E → A
or_else x (Ok y) = y
or_else x (Err e) = x

same_Ok : {A E : Type 0} (x y : A) → ◌≡◌ {A = Result A E} (Ok x) (Ok y) → x ≡ y
unfolding or_else
same_Ok x y h = ap (or_else x) h

-- ---- what is read is spelled so

so_found : (bytes : List ℕ) (said s : Saying) (b : Bool) → bytes_eq (spelling said) bytes ≡ b → ◌≡◌ {A = Result Saying StoreFault} (cond b (Ok said) (Err Torn)) (Ok s) → bytes ≡ spelling s
so_found bytes said s true is h = sym ((bytes_eq-Decides (spelling said) bytes).0 is) ∙ ap spelling (same_Ok said s h)
so_found bytes said s false is h = Ok≢Err s Torn (sym h)

fields_found : (bytes : List ℕ) (s : Saying) (o : Option Saying) → spelled_so bytes o ≡ Ok s → bytes ≡ spelling s
fields_found bytes s None h = Ok≢Err s Torn (sym h)
fields_found bytes s (Some said) h = so_found bytes said s (bytes_eq (spelling said) bytes) refl h

format_found : (bytes : List ℕ) (s : Saying) (b : Bool) → ◌≡◌ {A = Result Saying StoreFault} (cond b (Err OtherFormat) (spelled_so bytes (fields_of bytes))) (Ok s) → bytes ≡ spelling s
format_found bytes s true h = Ok≢Err s OtherFormat (sym h)
format_found bytes s false h = fields_found bytes s (fields_of bytes) h

pub read_found : (bytes : List ℕ) (s : Saying) → read_of bytes ≡ Ok s → bytes ≡ spelling s
read_found bytes s h = format_found bytes s (is_other_format bytes) h

-- ---- what is spelled so is read

own_format : (said : Saying) → is_other_format (spelling said) ≡ false
own_format said = and-false (nat_le 10 (length (spelling said)) && bytes_eq (take 8 (spelling said)) (codes "PLCSTORE"))

pub read_again : (said : Saying) → Fits said → read_of (spelling said) ≡ Ok said
read_again said fits =
    let found : fields_of (spelling said) ≡ Some said = ap fields_of (sym (append-nil (spelling said))) ∙ fields_again said [] fits in
    let same : bytes_eq (spelling said) (spelling said) ≡ true = (bytes_eq-Decides (spelling said) (spelling said)).1 refl in
    ap (λ b. cond b (Err OtherFormat) (spelled_so (spelling said) (fields_of (spelling said)))) (own_format said)
    ∙ ap (spelled_so (spelling said)) found
    ∙ ap (λ b. cond b (Ok said) (Err Torn)) same

-- ---- the contract

pub found : (bytes : List ℕ) (r : Result Store StoreFault) → Gives (read_of bytes) r → IfOk r (λ store. bytes ≡ spelling (saying store))
found bytes (Ok store) h = read_found bytes (saying store) h
found bytes (Err e) h = tt

refused_by : (bytes : List ℕ) (e : StoreFault) → Gives (read_of bytes) (Err e) → e ≢ Memory → (said : Saying) → Fits said → bytes ≢ spelling said
refused_by bytes OtherFormat h other said fits is = Ok≢Err said OtherFormat (sym (read_again said fits) ∙ ap read_of (sym is) ∙ h)
refused_by bytes Torn h other said fits is = Ok≢Err said Torn (sym (read_again said fits) ∙ ap read_of (sym is) ∙ h)
refused_by bytes Memory h other said fits is = other refl

pub refused : (bytes : List ℕ) (r : Result Store StoreFault) → Gives (read_of bytes) r → IfErr r (λ e. e ≢ Memory → (said : Saying) → Fits said → bytes ≢ spelling said)
refused bytes (Ok store) h = tt
refused bytes (Err e) h = refused_by bytes e h

is_torn : StoreFault → Bool
is_torn Torn = true
is_torn OtherFormat = false
is_torn Memory = false

fault_of : Result Saying StoreFault → StoreFault
fault_of (Ok said) = Memory
fault_of (Err e) = e

so_torn : (bytes : List ℕ) (said : Saying) (b : Bool) → ◌≡◌ {A = Result Saying StoreFault} (cond b (Ok said) (Err Torn)) (Err OtherFormat) → ⊥
unfolding is_torn fault_of
so_torn bytes said true h = Ok≢Err said OtherFormat h
so_torn bytes said false h = false≢true (sym (ap (λ r. is_torn (fault_of r)) h))

never_other : (bytes : List ℕ) (o : Option Saying) → spelled_so bytes o ≡ Err OtherFormat → ⊥
unfolding is_torn fault_of
never_other bytes None h = false≢true (sym (ap (λ r. is_torn (fault_of r)) h))
never_other bytes (Some said) h = so_torn bytes said (bytes_eq (spelling said) bytes) h

other_format : (bytes : List ℕ) (b : Bool) → is_other_format bytes ≡ b → ◌≡◌ {A = Result Saying StoreFault} (cond b (Err OtherFormat) (spelled_so bytes (fields_of bytes))) (Err OtherFormat) → IsOtherFormat bytes
other_format bytes true is h = is
other_format bytes false is h = absurd (never_other bytes (fields_of bytes) h)

is_other : StoreFault → Bool
is_other OtherFormat = true
is_other Torn = false
is_other Memory = false

other_by : (bytes : List ℕ) (e : StoreFault) → Gives (read_of bytes) (Err e) → e ≡ OtherFormat → IsOtherFormat bytes
unfolding is_other
other_by bytes OtherFormat h is = other_format bytes (is_other_format bytes) refl h
other_by bytes Torn h is = absurd (false≢true (ap is_other is))
other_by bytes Memory h is = absurd (false≢true (ap is_other is))

pub other : (bytes : List ℕ) (r : Result Store StoreFault) → Gives (read_of bytes) r → IfErr r (λ e. e ≡ OtherFormat → IsOtherFormat bytes)
other bytes (Ok store) h = tt
other bytes (Err e) h = other_by bytes e h

-- ---- laws

pub cut : (said other : Saying) (n : ℕ) → Fits said → Fits other → n < length (spelling said) → take n (spelling said) ≢ spelling other
cut said other n fits others lt is =
    let whole : spelling other ++ drop n (spelling said) ≡ spelling said =
    ap (λ front. front ++ drop n (spelling said)) (sym is) ∙ take-append-drop n (spelling said) in
    let found : fields_of (spelling said) ≡ Some said = ap fields_of (sym (append-nil (spelling said))) ∙ fields_again said [] fits in
    let same : other ≡ said = same_Some other said (sym (fields_again other (drop n (spelling said)) others) ∙ ap fields_of whole ∙ found) in
    let long : length (take n (spelling said)) ≡ length (spelling said) = ap length (is ∙ ap spelling same) in
    absurd (omega (arith, long, length-take-le n (spelling said) (omega arith), lt))

is_first : Start → Bool
is_first First = true
is_first Waits = false
is_first Again = false

other_start : (start : Start) → is_first start ≡ false → ◌≡◌ {A = Result Start Refusal} (Ok start) (Ok First) → ⊥
unfolding is_first
other_start start other h = absurd (false≢true (sym other ∙ ap is_first (same_Ok start First h)))

behind_checks : (b c : Bool) (r : Result Start Refusal) (start : Start) → ◌≡◌ {A = Result Start Refusal} (cond b (Err refusals.OtherGroup) (cond c (Err refusals.OtherMachine) r)) (Ok start) → r ≡ Ok start
behind_checks true c r start h = Ok≢Err start refusals.OtherGroup (sym h)
behind_checks false true r start h = Ok≢Err start refusals.OtherMachine (sym h)
behind_checks false false r start h = h

by_header : (header : Header) (views : List ℕ) (wanted : Wanted) (start : Start) → judgement header views wanted ≡ Ok start → by_kept header.kept header.machine views ≡ Ok start
by_header header views wanted start h =
    behind_checks (not (bytes_eq header.identity wanted.identity)) (nat_le wanted.machines header.machine) (by_kept header.kept header.machine views) start h

-- an epoch that was begun is never new
begun_again : (b : Bool) → begun b ≡ Ok First → ⊥
unfolding is_first
begun_again true h = other_start Again refl h
begun_again false h = Ok≢Err First refusals.ViewGone (sym h)

pub never_new : (said : Saying) (epoch : Epoch) (views : List ℕ) (wanted : Wanted) → Fits said → said.header.kept ≡ keeps.Begun epoch → judged (Some (spelling said)) views wanted ≢ Ok First
never_new said epoch views wanted fits is h =
    let judged_so : judged (Some (spelling said)) views wanted ≡ judgement said.header views wanted =
    ap (λ r. judged_store (found_by r) views wanted) (read_again said fits) in
    let by : by_kept said.header.kept said.header.machine views ≡ Ok First = by_header said.header views wanted First (sym judged_so ∙ h) in
    begun_again (has_view views said.header.machine) (ap (λ k. by_kept k said.header.machine views) (sym is) ∙ by)

-- what is new has entered an epoch
entered_by : (kept : Kept) (machine : ℕ) (views : List ℕ) → by_kept kept machine views ≡ Ok First → (epoch : Epoch) × (kept ≡ keeps.Entered epoch)
unfolding is_first
entered_by keeps.Nothing machine views h = absurd (other_start Waits refl h)
entered_by (keeps.Above epoch) machine views h = absurd (other_start Waits refl h)
entered_by (keeps.Entered epoch) machine views h = (epoch, refl)
entered_by (keeps.Begun epoch) machine views h = absurd (begun_again (has_view views machine) h)

new_from : (bytes : List ℕ) (r : Result Saying StoreFault) (views : List ℕ) (wanted : Wanted) → read_of bytes ≡ r → judged_store (found_by r) views wanted ≡ Ok First → HasEntered (Some bytes)
new_from bytes (Ok said) views wanted is h =
    let by = entered_by said.header.kept said.header.machine views (by_header said.header views wanted First h) in
    (said, by.0, ap Some (read_found bytes said is), by.1)
new_from bytes (Err fault) views wanted is h = Ok≢Err First (refusal_of fault) (sym h)

pub new_entered : (group : Option (List ℕ)) (views : List ℕ) (wanted : Wanted) → judged group views wanted ≡ Ok First → HasEntered group
new_entered None views wanted h = Ok≢Err First refusals.NoStore (sym h)
new_entered (Some bytes) views wanted h = new_from bytes (read_of bytes) views wanted refl h
