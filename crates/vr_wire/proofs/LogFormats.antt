-- Each reader takes exactly the texts of the values that have one: requests, checkpoints, logs.
use Rattle.std.proofs.Common.{◌≡◌, ℕ, zero, suc, ◌+◌, ◌^◌, ◌<◌, ◌≤◌, ◌⊎◌, ◌==◌, inl, inr, Bool, true, false, eqb, ltb, List, [], ◌∷◌, ◌++◌, length, Option, Some, None, refl, sym, ap, subst, ◌∙◌, arith}
use Rattle.std.specs.Prelude.{◌↔◌, IsSome, IfSome, if◌then◌else◌}
use Rattle.std.specs.Int.{w8, w32, w64, to_be_bytes}
use Rattle.std.specs.List.{AllByRecursion}
use Rattle.std.proofs.lemmas.Bool.{cases_lt, eqb-true, eq-eqb, ne_eqb, ltb-true, lt-ltb}
use native.Mathlib.Bridge.{le_prop}
use mathlib.Core.HLevel.{is_prop→PathP}
use Rattle.vr_model.specs.declared.client.ClientNumber.{ClientNumber}
use Rattle.vr_model.specs.declared.log.Executed.{Executed}
use Rattle.vr_model.specs.declared.message.Request.{Request}
use Rattle.vr_model.specs.Groups.{client_count}
use Rattle.vr_model.specs.Checkpoints.{SavedCheckpoint, KeptLog, end_of, numbered}
use Rattle.vr_wire.specs.declared.log.ClientAnswer.{ClientAnswer}
use Rattle.vr_wire.specs.Fields.{listed, IsSafe}
use Rattle.vr_wire.specs.Logs.{request_bytes, entries_bytes, client_bytes, with_answer, answered_from, clients_bytes, checkpoint_bytes, log_bytes, IsExecuted, IsCheckpoint, MayBeCheckpoint, IsLog, FitsRequest, FitsExecuted, FitsClient, FitsCheckpoint, FitsLog}
use Rattle.vr_wire.specs.MessageReading.{client_by, client_of, request_at, entries_at, is_client, client_answer_at, next_of, table_from, clients_at, is_base, checkpoint_at, log_at}
use Rattle.vr_wire.specs.Reading.{number_at, fields_2, lawful, passed, listed_at}
use Rattle.vr_wire.proofs.Values.{some_yes}
use Rattle.vr_wire.proofs.Fields.{IsBytes, bind_some, some_is, Takes, IsInverse, IsCode, number8, number32, number64, took_1, took_2, took_3, again_1, again_2, again_3, lawful_inverse}
use Rattle.vr_wire.proofs.Formats.{listed_inverse, passing, command_inverse, answer_inverse}
use Rattle.vr_wire.proofs.SnapshotFormats.{snapshot_inverse}

-- ---- requests and entries

-- a client is known by its number
client_same : (a b : ClientNumber) → a.number ≡ b.number → a ≡ b
client_same a b e = λ i. record { number = e i; below = is_prop→PathP (λ j. e j < client_count) (λ j. le_prop) a.below b.below i }

client_sound_by : (n : ℕ) (t : (n < client_count) ⊎ (client_count ≤ n)) (c : ClientNumber) → client_by n t ≡ Some c → c.number ≡ n
client_sound_by n (inl lt) c e = let is : record { number = n; below = lt } ≡ c = cc in sym (ap (λ (x : ClientNumber). x.number) is)
client_sound_by n (inr le) c e = absurd cc

pub client_sound : (n : ℕ) (c : ClientNumber) → client_of n ≡ Some c → c.number ≡ n
client_sound n c e = client_sound_by n (cases_lt n client_count) c e

client_again_by : (c : ClientNumber) (t : (c.number < client_count) ⊎ (client_count ≤ c.number)) → client_by c.number t ≡ Some c
client_again_by c (inl lt) = ap Some (client_same (record { number = c.number; below = lt }) c refl)
client_again_by c (inr le) = absurd (omega (arith, c.below))

pub client_again : (c : ClientNumber) → client_of c.number ≡ Some c
client_again c = client_again_by c (cases_lt c.number client_count)

-- what finds the client of each number below 16, and none else
pub client_found : (n : ℕ) (found : Option ClientNumber) → IsSome found ↔ (n < client_count) → IfSome found (λ c. c.number ≡ n) → found ≡ client_of n
client_found n (Some c) range value = sym (ap client_of (sym value) ∙ client_again c)
client_found n None range value = found_none n (cases_lt n client_count) range
  where
    found_none : (n : ℕ) (t : (n < client_count) ⊎ (client_count ≤ n)) → IsSome {T = ClientNumber} None ↔ (n < client_count) → None ≡ client_by n t
    found_none n (inl lt) range = absurd (let no : false ≡ true = range.1 lt in cc)
    found_none n (inr le) range = refl

pub client_codes : IsCode (λ n. n < 2 ^ 8) client_of (λ (c : ClientNumber). c.number) (λ c. Unit {0})
client_codes = record { sound = λ n c lt e. (client_sound n c e, tt); complete = λ c fits. (omega (arith, c.below), client_again c) }

pub request_inverse : IsInverse request_bytes FitsRequest request_at
request_inverse = record {
  takes = λ bytes m rest fits e.
      let t = took_3 (λ client number command. record { client = client; number = number; command = command }) (lawful_inverse number8 client_codes) number64 command_inverse bytes m rest fits e in
      subst (λ (y : Request). Takes bytes (request_bytes y) rest × FitsRequest y) (sym t.is) (t.took, record { number = t.fits_two; command = t.fits_three });
  again = λ m rest fits. again_3 (λ client number command. record { client = client; number = number; command = command }) (lawful_inverse number8 client_codes) number64 command_inverse m.client m.number m.command rest tt fits.number fits.command;
}

pub entries_inverse : IsInverse entries_bytes (λ entries. (length entries < 2 ^ 32) × AllByRecursion FitsRequest entries) entries_at
entries_inverse = listed_inverse w32 number32 request_inverse

-- ---- the clients' answers

record FitsAnswered (a : ClientAnswer) : Type 0 where
  client : a.client < client_count
  safe : IsSafe a.executed.answer
  fits : FitsClient a

client_inverse : IsInverse (to_be_bytes w8) (λ n. (n < 2 ^ 8) × (is_client n ≡ true)) (lawful (passed is_client) (number_at w8))
client_inverse = passing is_client number8

answered_inverse : IsInverse client_bytes FitsAnswered client_answer_at
answered_inverse = record {
  takes = λ bytes a rest fits e.
      let t = took_3 (λ client number answer. record { client = client; executed = record { number = number; answer = answer } }) client_inverse number64 answer_inverse bytes a rest fits e in
      subst (λ (y : ClientAnswer). Takes bytes (client_bytes y) rest × FitsAnswered y) (sym t.is) (t.took, record { client = ltb-true t.one client_count t.fits_one.1; safe = t.fits_three.0; fits = (t.fits_two, t.fits_three.1) });
  again = λ a rest fits.
      again_3 (λ client number answer. record { client = client; executed = record { number = number; answer = answer } }) client_inverse number64 answer_inverse a.client a.executed.number a.executed.answer rest
      (omega (arith, fits.client), lt-ltb a.client client_count fits.client) fits.fits.0 (fits.safe, fits.fits.1);
}

answers_inverse : IsInverse (listed w8 client_bytes) (λ xs. (length xs < 2 ^ 8) × AllByRecursion FitsAnswered xs) (listed_at (number_at w8) client_answer_at)
answers_inverse = listed_inverse w8 number8 answered_inverse

-- the next answer told, and the others, are those of a client and of the ones behind it
abbrev next_by : Bool → ClientAnswer → List ClientAnswer → Option Executed × List ClientAnswer
next_by b a others = if b then (Some a.executed, others) else (None, a ∷ others)

next_sound : (b : Bool) (n : ℕ) (a : ClientAnswer) (others : List ClientAnswer) → (a.client == n) ≡ b → with_answer n (next_by b a others).0 (next_by b a others).1 ≡ a ∷ others
next_sound true n a others e = ap (λ (m : ℕ). record { client = m; executed = a.executed } ∷ others) (sym (eqb-true a.client n e))
next_sound false n a others e = refl

next_is : (n : ℕ) (answers : List ClientAnswer) → with_answer n (next_of n answers).0 (next_of n answers).1 ≡ answers
next_is n [] = refl
next_is n (a ∷ others) = next_sound (eqb a.client n) n a others refl

table_sound : (count n : ℕ) (answers : List ClientAnswer) (table : List (Option Executed)) → table_from count n answers ≡ Some table → (answered_from n table ≡ answers) × (length table ≡ count)
unfolding table_from
table_sound zero n [] table e = let is : [] ≡ table = cc in (ap (answered_from n) (sym is), ap length (sym is))
table_sound zero n (a ∷ others) table e = absurd cc
table_sound (suc count) n answers table e =
    let p = next_of n answers in
    let b = bind_some (table_from count (suc n) p.1) (λ (t : List (Option Executed)). Some (p.0 ∷ t)) table e in
    let is = some_is (p.0 ∷ b.0) table b.2 in
    let ih = table_sound count (suc n) p.1 b.0 b.1 in
    (sym (ap (answered_from n) is) ∙ (ap (with_answer n p.0) ih.0 ∙ next_is n answers), sym (ap length is) ∙ ap suc ih.1)

-- the next of those from n on is of a client that isn't below it
abbrev IsFrom : ℕ → List ClientAnswer → Type 0
IsFrom n [] = Unit {0}
IsFrom n (a ∷ others) = n ≤ a.client

from_more : (n : ℕ) (answers : List ClientAnswer) → IsFrom (suc n) answers → IsFrom n answers
from_more n [] h = tt
from_more n (a ∷ others) h = omega (arith, h)

is_from : (n : ℕ) (table : List (Option Executed)) → IsFrom n (answered_from n table)
is_from n [] = tt
is_from n (None ∷ table) = from_more n (answered_from (suc n) table) (is_from (suc n) table)
is_from n (Some x ∷ table) = omega arith

none_next : (n : ℕ) (answers : List ClientAnswer) → IsFrom (suc n) answers → next_of n answers ≡ (None, answers)
none_next n [] h = refl
none_next n (a ∷ others) h = let other : eqb a.client n ≡ false = ne_eqb a.client n (λ e. omega (arith, e, h)) in rw other refl

some_next : (n : ℕ) (x : Executed) (others : List ClientAnswer) → next_of n (record { client = n; executed = x } ∷ others) ≡ (Some x, others)
some_next n x others = let same : eqb n n ≡ true = eq-eqb n n refl in rw same refl

next_again : (n : ℕ) (x : Option Executed) (others : List ClientAnswer) → IsFrom (suc n) others → next_of n (with_answer n x others) ≡ (x, others)
next_again n None others h = none_next n others h
next_again n (Some x) others h = some_next n x others

table_again : (n : ℕ) (table : List (Option Executed)) → table_from (length table) n (answered_from n table) ≡ Some table
unfolding table_from
table_again n [] = refl
table_again n (x ∷ table) =
    let others = answered_from (suc n) table in
    rw (next_again n x others (is_from (suc n) table), table_again (suc n) table) refl

-- what is told of each that has an answer is so of each
fits_sound : (n : ℕ) (table : List (Option Executed)) → AllByRecursion FitsAnswered (answered_from n table) → AllByRecursion IsExecuted table × AllByRecursion FitsExecuted table
fits_sound n [] all = (tt, tt)
fits_sound n (None ∷ table) all = let ih = fits_sound (suc n) table all in ((tt, ih.0), (tt, ih.1))
fits_sound n (Some x ∷ table) all = let ih = fits_sound (suc n) table all.1 in ((all.0.safe, ih.0), (all.0.fits, ih.1))

fits_again : (n : ℕ) (table : List (Option Executed)) → n + length table ≤ client_count → AllByRecursion IsExecuted table → AllByRecursion FitsExecuted table → AllByRecursion FitsAnswered (answered_from n table)
fits_again n [] le safe fits = tt
fits_again n (None ∷ table) le safe fits = fits_again (suc n) table (omega (arith, le)) safe.1 fits.1
fits_again n (Some x ∷ table) le safe fits = (record { client = omega (arith, le); safe = safe.0; fits = fits.0 }, fits_again (suc n) table (omega (arith, le)) safe.1 fits.1)

answered_short : (n : ℕ) (table : List (Option Executed)) → length (answered_from n table) ≤ length table
answered_short n [] = omega arith
answered_short n (None ∷ table) = omega (arith, answered_short (suc n) table)
answered_short n (Some x ∷ table) = omega (arith, answered_short (suc n) table)

record FitsTable (table : List (Option Executed)) : Type 0 where
  each_client : length table ≡ client_count
  safe : AllByRecursion IsExecuted table
  fits : AllByRecursion FitsExecuted table

clients_inverse : IsInverse clients_bytes FitsTable clients_at
clients_inverse = lawful_inverse {code = answered_from 0} answers_inverse (record {
  sound = λ answers table fits e.
      let s = table_sound client_count 0 answers table e in
      let f = fits_sound 0 table (subst (AllByRecursion FitsAnswered) (sym s.0) fits.1) in
      (s.0, record { each_client = s.1; safe = f.0; fits = f.1 });
  complete = λ table fits. (
    (omega (arith, answered_short 0 table, fits.each_client), fits_again 0 table (omega (arith, fits.each_client)) fits.safe fits.fits),
    subst (λ (count : ℕ). table_from count 0 (answered_from 0 table) ≡ Some table) fits.each_client (table_again 0 table),
  );
})

-- ---- checkpoints

base_inverse : IsInverse (to_be_bytes w64) (λ n. (n < 2 ^ 64) × (is_base n ≡ true)) (lawful (passed is_base) (number_at w64))
base_inverse = passing is_base number64

checkpoint_inverse : IsInverse checkpoint_bytes (λ c. IsCheckpoint c × FitsCheckpoint c) checkpoint_at
checkpoint_inverse = record {
  takes = λ bytes x rest fits e.
      let t = took_3 (λ base clients snapshot. record { base = base; clients = clients; snapshot = snapshot }) base_inverse clients_inverse snapshot_inverse bytes x rest fits e in
      subst (λ (y : SavedCheckpoint). Takes bytes (checkpoint_bytes y) rest × (IsCheckpoint y × FitsCheckpoint y)) (sym t.is) (
        t.took,
        (
          record { base = ltb-true 0 t.one t.fits_one.1; each_client = t.fits_two.each_client; safe = t.fits_two.safe; snapshot = t.fits_three.0 },
          record { base = t.fits_one.0; clients = t.fits_two.fits; snapshot = t.fits_three.1 },
        ),
      );
  again = λ x rest fits.
      again_3 (λ base clients snapshot. record { base = base; clients = clients; snapshot = snapshot }) base_inverse clients_inverse snapshot_inverse x.base x.clients x.snapshot rest
      (fits.1.base, lt-ltb 0 x.base fits.0.base) (record { each_client = fits.0.each_client; safe = fits.0.safe; fits = fits.1.clients }) (fits.0.snapshot, fits.1.snapshot);
}

-- ---- logs

-- whether there is a checkpoint is what the tag tells
abbrev pub is_behind : Option SavedCheckpoint → Bool
is_behind None = false
is_behind (Some c) = true

pub record FitsKept (behind : Bool) (log : KeptLog) : Type 0 where
  pub is : is_behind log.checkpoint ≡ behind
  pub lawful : IsLog log
  pub fits : FitsLog log

record FitsAnyLog (log : KeptLog) : Type 0 where
  is : is_behind log.checkpoint ≡ true
  lawful : MayBeCheckpoint log.checkpoint
  count : length log.entries < 2 ^ 32
  fits : FitsLog log

numbered_sound : (log x : KeptLog) → FitsAnyLog log → numbered log ≡ Some x → (x ≡ log) × FitsKept true x
numbered_sound log x fits e =
    let y = some_yes (ltb (end_of log) (2 ^ 64)) log x e in
    (sym y.1, subst (FitsKept true) y.1 (record { is = fits.is; lawful = record { checkpoint = fits.lawful; count = fits.count; op_number = ltb-true (end_of log) (2 ^ 64) y.0 }; fits = fits.fits }))

numbered_again : (log : KeptLog) → end_of log < 2 ^ 64 → numbered log ≡ Some log
numbered_again log lt = let yes : ltb (end_of log) (2 ^ 64) ≡ true = lt-ltb (end_of log) (2 ^ 64) lt in rw yes refl

numbered_complete : (log : KeptLog) → FitsKept true log → FitsAnyLog log × (numbered log ≡ Some log)
numbered_complete log fits = (record { is = fits.is; lawful = fits.lawful.checkpoint; count = fits.lawful.count; fits = fits.fits }, numbered_again log fits.lawful.op_number)

abbrev past : SavedCheckpoint → List Request → KeptLog
past c entries = record { checkpoint = Some c; entries = entries }

behind_inverse : IsInverse log_bytes FitsAnyLog (fields_2 past checkpoint_at entries_at)
behind_inverse = record {
  takes = λ bytes x rest fits e.
      let t = took_2 past checkpoint_inverse entries_inverse bytes x rest fits e in
      subst (λ (y : KeptLog). Takes bytes (log_bytes y) rest × FitsAnyLog y) (sym t.is) (t.took, record { is = refl; lawful = t.fits_one.0; count = t.fits_two.0; fits = record { checkpoint = t.fits_one.1; entries = t.fits_two.1 } });
  again = λ x rest fits. behind_again x.checkpoint x.entries rest fits;
}
  where
    behind_again : (c : Option SavedCheckpoint) (entries : List Request) (rest : List ℕ) → FitsAnyLog (record { checkpoint = c; entries = entries })
        → fields_2 past checkpoint_at entries_at (log_bytes (record { checkpoint = c; entries = entries }) ++ rest) ≡ Some (record { checkpoint = c; entries = entries }, rest)
    behind_again None entries rest fits = absurd (let no : false ≡ true = fits.is in cc)
    behind_again (Some c) entries rest fits = again_2 past checkpoint_inverse entries_inverse c entries rest (fits.lawful, fits.fits.checkpoint) (fits.count, fits.fits.entries)

log_takes : (behind : Bool) (bytes : List ℕ) (x : KeptLog) (rest : List ℕ) → IsBytes bytes → log_at behind bytes ≡ Some (x, rest) → Takes bytes (log_bytes x) rest × FitsKept behind x
log_takes false bytes x rest fits e =
    let t = took_1 (λ entries. record { checkpoint = None; entries = entries }) entries_inverse bytes x rest fits e in
    subst (λ (y : KeptLog). Takes bytes (log_bytes y) rest × FitsKept false y) (sym t.is) (t.took, record { is = refl; lawful = record { checkpoint = tt; count = t.fits_one.0; op_number = omega (arith, t.fits_one.0) }; fits = record { checkpoint = tt; entries = t.fits_one.1 } })
log_takes true bytes x rest fits e = (lawful_inverse {code = λ (log : KeptLog). log} behind_inverse (record { sound = numbered_sound; complete = numbered_complete })).takes bytes x rest fits e

log_again : (behind : Bool) (c : Option SavedCheckpoint) (entries : List Request) (rest : List ℕ) → FitsKept behind (record { checkpoint = c; entries = entries })
    → log_at behind (log_bytes (record { checkpoint = c; entries = entries }) ++ rest) ≡ Some (record { checkpoint = c; entries = entries }, rest)
log_again false None entries rest fits = again_1 (λ entries. record { checkpoint = None; entries = entries }) entries_inverse entries rest (fits.lawful.count, fits.fits.entries)
log_again false (Some c) entries rest fits = absurd (let no : true ≡ false = fits.is in cc)
log_again true None entries rest fits = absurd (let no : false ≡ true = fits.is in cc)
log_again true (Some c) entries rest fits = (lawful_inverse {code = λ (log : KeptLog). log} behind_inverse (record { sound = numbered_sound; complete = numbered_complete })).again (record { checkpoint = Some c; entries = entries }) rest fits

pub log_inverse : (behind : Bool) → IsInverse log_bytes (FitsKept behind) (log_at behind)
log_inverse behind = record { takes = log_takes behind; again = λ x rest fits. log_again behind x.checkpoint x.entries rest fits }
