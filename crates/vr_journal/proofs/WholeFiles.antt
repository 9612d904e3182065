-- What the records of a whole file keep.
use Rattle.std.proofs.Common.{◌≡◌, ℕ, ◌≤◌, arith, List, [], ◌∷◌, length, drop, map, get_or, Option, Some, None, MatchOption, IfSome, IfOk, Result, Ok, Err, sym, ap, subst, ◌∙◌}
use Rattle.std.specs.declared.alloc.AllocError.{AllocError}
use Rattle.vr_journal.specs.declared.record.Kind.TheVariants.{Start}
use Rattle.vr_journal.specs.declared.record.Record.{Record}
use Rattle.vr_journal.specs.declared.kept.Kept.{Kept}
use Rattle.vr_journal.specs.Records.{Entry, entry, first_sum, sum_behind_all, AreRead}
use Rattle.vr_journal.specs.Journals.{base, number_in, IsHead, AreWhole, AreNotWhole, KeepsRecords, Keeps, KeepsNothing}

-- the first record of a file and those behind it
pub head_is : (x y : Entry) (xs ys : List Entry) → x ∷ xs ≡ y ∷ ys → x ≡ y
head_is x y xs ys e = ap (λ (zs : List Entry). get_or zs 0 x) e

pub tail_is : (x y : Entry) (xs ys : List Entry) → x ∷ xs ≡ y ∷ ys → xs ≡ ys
tail_is x y xs ys e = ap (λ (zs : List Entry). drop 1 zs) e

-- what the first three records of a whole file are
pub record Three (owner : List ℕ) (generation start : ℕ) (bytes : List ℕ) (h s b : Entry) : Type 0 where
  pub headed : IsHead owner generation h
  pub started : number_in Start s ≡ Some start
  pub based : b ≡ base bytes

pub three : (owner : List ℕ) (generation start : ℕ) (bytes : List ℕ) (h s b : Entry) (es later : List Entry) → AreWhole owner generation start bytes (h ∷ s ∷ b ∷ es) later
    → Three owner generation start bytes h s b
three owner generation start bytes h s b es later w =
    let first : h ≡ w.first = head_is h w.first (s ∷ b ∷ es) (w.second ∷ base bytes ∷ later) w.parts in
    let rest : s ∷ b ∷ es ≡ w.second ∷ base bytes ∷ later = tail_is h w.first (s ∷ b ∷ es) (w.second ∷ base bytes ∷ later) w.parts in
    let second : s ≡ w.second = head_is s w.second (b ∷ es) (base bytes ∷ later) rest in
    let others : b ∷ es ≡ base bytes ∷ later = tail_is s w.second (b ∷ es) (base bytes ∷ later) rest in
    record {
      headed = subst (λ (x : Entry). IsHead owner generation x) (sym first) w.headed;
      started = ap (number_in Start) second ∙ w.started;
      based = head_is b (base bytes) es later others;
    }

pub keeps : (owner bytes : List ℕ) (es : List Entry) (len sum : ℕ) (o : Option Kept) → AreRead first_sum bytes es (drop len bytes) → sum ≡ sum_behind_all first_sum es
    → MatchOption o (AreNotWhole owner es) (λ k. KeepsRecords owner es k) → IfSome o (λ k. (k.length ≡ len) × (k.sum ≡ sum)) → MatchOption o (KeepsNothing owner bytes) (λ k. Keeps owner bytes k)
keeps owner bytes es len sum None read is kept place = record { es = es; rest = drop len bytes; read = read; are_not_whole = kept }
keeps owner bytes es len sum (Some k) read is kept place = record {
  es = es;
  read = subst (λ (n : ℕ). AreRead first_sum bytes es (drop n bytes)) (sym place.0) read;
  kept = kept;
  sum = place.1 ∙ is;
}

pub keeps_if_read : (owner bytes : List ℕ) (es : List Entry) (len sum : ℕ) (r : Result (Option Kept) AllocError) → AreRead first_sum bytes es (drop len bytes) → sum ≡ sum_behind_all first_sum es
    → IfOk r (λ o. MatchOption o (AreNotWhole owner es) (λ k. KeepsRecords owner es k)) → IfOk r (λ o. IfSome o (λ k. (k.length ≡ len) × (k.sum ≡ sum)))
    → IfOk r (λ o. MatchOption o (KeepsNothing owner bytes) (λ k. Keeps owner bytes k))
keeps_if_read owner bytes es len sum (Ok o) read is kept place = keeps owner bytes es len sum o read is kept place
keeps_if_read owner bytes es len sum (Err e) read is kept place = tt

pub within_if_read : (bytes : List ℕ) (len sum : ℕ) (r : Result (Option Kept) AllocError) → len ≤ length bytes → IfOk r (λ o. IfSome o (λ k. (k.length ≡ len) × (k.sum ≡ sum)))
    → IfOk r (λ o. IfSome o (λ k. k.length ≤ length bytes))
within_if_read bytes len sum (Ok (Some k)) le place = subst (λ (n : ℕ). n ≤ length bytes) (sym place.0) le
within_if_read bytes len sum (Ok None) le place = tt
within_if_read bytes len sum (Err e) le place = tt

-- ---- the first three records of some

pub parted : (rs : List Record) (h s b : Record) → 3 ≤ length rs → h ≡ get_or rs 0 h → s ≡ get_or rs 1 s → b ≡ get_or rs 2 b → rs ≡ h ∷ s ∷ b ∷ drop 3 rs
parted [] h s b le eh es eb = absurd (omega (arith, le))
parted (x ∷ []) h s b le eh es eb = absurd (omega (arith, le))
parted (x ∷ y ∷ []) h s b le eh es eb = absurd (omega (arith, le))
parted (x ∷ y ∷ z ∷ rs) h s b le eh es eb = λ i. sym eh i ∷ sym es i ∷ sym eb i ∷ rs

pub entries_parted : (items rs : List Record) (h s b : Record) → rs ≡ items → 3 ≤ length rs → h ≡ get_or rs 0 h → s ≡ get_or rs 1 s → b ≡ get_or rs 2 b
    → map entry items ≡ entry h ∷ entry s ∷ entry b ∷ map entry (drop 3 rs)
entries_parted items rs h s b is le eh es eb = ap (map entry) (sym is ∙ parted rs h s b le eh es eb)

pub three_of : (owner : List ℕ) (items rs : List Record) (h s b : Record) → rs ≡ items → 3 ≤ length rs → h ≡ get_or rs 0 h → s ≡ get_or rs 1 s → b ≡ get_or rs 2 b
    → (generation start : ℕ) (bytes : List ℕ) (later : List Entry) → AreWhole owner generation start bytes (map entry items) later → Three owner generation start bytes (entry h) (entry s) (entry b)
three_of owner items rs h s b is le eh es eb generation start bytes later w =
    three owner generation start bytes (entry h) (entry s) (entry b) (map entry (drop 3 rs)) later
    (subst (λ (xs : List Entry). AreWhole owner generation start bytes xs later) (entries_parted items rs h s b is le eh es eb) w)
