-- What the loops of reading keep.
use Rattle.std.proofs.Common.{◌≡◌, ℕ, ◌+◌, ◌-◌, Bool, true, false, cond, List, [], ◌∷◌, ◌++◌, take, drop, map, Option, Some, None, refl, sym, ap, ap₂, subst, ◌∙◌, arith}
use Rattle.std.specs.Prelude.{slice_range, ◌==◌}
use Rattle.std.specs.List.{cons_option}
use Rattle.std.specs.Option.{option_or}
use Rattle.std.proofs.lemmas.List.{drop-drop, map-append}
use Rattle.vr_journal.specs.declared.record.Kind.{Kind}
use Rattle.vr_journal.specs.declared.record.Kind.TheVariants.{Input}
use Rattle.vr_journal.specs.declared.record.Record.{Record}
use Rattle.vr_journal.specs.Records.{Entry, entry, code, first_sum, sum_behind, sum_behind_all, Stand, StandsFirst}
use Rattle.vr_journal.specs.Journals.{number_in, numbers, last_behind, inputs}
use Rattle.vr_journal.proofs.Fronts.{found_entry}
use Rattle.vr_journal.proofs.Files.{stand_more, sum_more}

-- the bytes that are copied are those
pub copied : (bytes : List ℕ) (at end : ℕ) (kind : Kind) (r : Record) → r.kind ≡ kind → r.bytes.items ≡ slice_range bytes (at + 13) (at + end) → entry r ≡ found_entry (drop at bytes) kind end
copied bytes at end kind r k b =
    let same : at + end - (at + 13) ≡ end - 13 = omega arith in
    let there : r.bytes.items ≡ slice_range (drop at bytes) 13 end = b ∙ ap₂ (λ (n : ℕ) (xs : List ℕ). take n xs) same (sym (drop-drop 13 at bytes)) in
    ap₂ (λ (j : Kind) (xs : List ℕ). the_entry j xs) k there
  where
    the_entry : Kind → List ℕ → Entry
    the_entry j xs = record { kind = j; bytes = xs }

pub entries_more : (rs : List Record) (r : Record) (e : Entry) → entry r ≡ e → map entry (rs ++ r ∷ []) ≡ map entry rs ++ e ∷ []
entries_more rs r e is = map-append entry rs (r ∷ []) ∙ ap (λ (x : Entry). map entry rs ++ x ∷ []) is

pub read_more : (bytes : List ℕ) (rs : List Record) (r : Record) (at end sum : ℕ) (e : Entry) → Stand first_sum bytes (map entry rs) (drop at bytes) → sum ≡ sum_behind_all first_sum (map entry rs)
    → StandsFirst sum (drop at bytes) e (drop end (drop at bytes)) → entry r ≡ e → Stand first_sum bytes (map entry (rs ++ r ∷ [])) (drop (at + end) bytes)
read_more bytes rs r at end sum e stand is stands same =
    let here : StandsFirst (sum_behind_all first_sum (map entry rs)) (drop at bytes) e (drop (at + end) bytes) =
    subst (λ (s : ℕ). StandsFirst s (drop at bytes) e (drop (at + end) bytes)) is (subst (λ (xs : List ℕ). StandsFirst sum (drop at bytes) e xs) (drop-drop end at bytes) stands) in
    subst (λ (es : List Entry). Stand first_sum bytes es (drop (at + end) bytes)) (sym (entries_more rs r e same)) (stand_more first_sum bytes (map entry rs) e (drop at bytes) (drop (at + end) bytes) stand here)

pub sum_read_more : (rs : List Record) (r : Record) (sum behind : ℕ) (e : Entry) → sum ≡ sum_behind_all first_sum (map entry rs) → behind ≡ sum_behind sum e → entry r ≡ e
    → behind ≡ sum_behind_all first_sum (map entry (rs ++ r ∷ []))
sum_read_more rs r sum behind e is b same =
    b ∙ ap (λ (s : ℕ). sum_behind s e) is ∙ sym (sum_more first_sum (map entry rs) e) ∙ ap (sum_behind_all first_sum) (sym (entries_more rs r e same))

-- ---- numbers and inputs

pub number_next : (kind : Kind) (r : Record) (rs : List Record) (before : Option ℕ)
    → last_behind before (numbers kind (map entry (r ∷ rs))) ≡ last_behind (option_or (number_in kind (entry r)) before) (numbers kind (map entry rs))
number_next kind r rs before = by_number (number_in kind (entry r))
  where
    by_number : (o : Option ℕ) → last_behind before (cons_option o (numbers kind (map entry rs))) ≡ last_behind (option_or o before) (numbers kind (map entry rs))
    by_number None = refl
    by_number (Some n) = refl

pub input_next : (r : Record) (rs : List Record) → (code r.kind == code Input) ≡ true → inputs (map entry (r ∷ rs)) ≡ r.bytes.items ∷ inputs (map entry rs)
input_next r rs e = ap (λ (b : Bool). cons_option (cond b (Some r.bytes.items) None) (inputs (map entry rs))) e

pub no_input_next : (r : Record) (rs : List Record) → (code r.kind == code Input) ≡ false → inputs (map entry (r ∷ rs)) ≡ inputs (map entry rs)
no_input_next r rs e = ap (λ (b : Bool). cons_option (cond b (Some r.bytes.items) None) (inputs (map entry rs))) e
