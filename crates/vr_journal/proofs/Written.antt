-- A file keeps what was written to it.
use Rattle.std.proofs.Common.{◌≡◌, ℕ, ◌^◌, ◌<◌, List, [], ◌∷◌, ◌++◌, drop, map, Option, Some, None, refl, sym, ap, subst, ◌∙◌, arith}
use Rattle.std.specs.List.{AllByRecursion, cons_option}
use Rattle.std.proofs.lemmas.List.{drop_at}
use Rattle.byteorder.specs.Endian.{big_bytes, big_number}
use Rattle.byteorder.specs.Numbers.{big_number-reads_back, length-bytes_high_first}
use Rattle.vr_journal.specs.declared.record.Kind.TheVariants.{Start}
use Rattle.vr_journal.specs.declared.kept.Kept.{Kept}
use Rattle.vr_journal.specs.Records.{Entry, Fits, first_sum, spelt}
use Rattle.vr_journal.specs.Journals.{magic, head, head_bytes, number, base, beginning, number_in, input_in, inputs, IsHead, Keeps, KeepsNothing, KeepsWhatWasWritten}
use Rattle.vr_journal.proofs.Files.{whole}
use Rattle.vr_journal.proofs.WholeFiles.{head_is, tail_is}

inputs_append : (es fs : List Entry) → inputs (es ++ fs) ≡ inputs es ++ inputs fs
inputs_append [] fs = refl
inputs_append (e ∷ es) fs = by_input (input_in e) (inputs_append es fs)
  where
    by_input : (o : Option (List ℕ)) → inputs (es ++ fs) ≡ inputs es ++ inputs fs → cons_option o (inputs (es ++ fs)) ≡ cons_option o (inputs es) ++ inputs fs
    by_input None more = more
    by_input (Some bytes) more = ap (λ (xs : List (List ℕ)). bytes ∷ xs) more

-- ---- what a head tells

module _ (owner : List ℕ) (generation : ℕ) where
  behind_magic : drop 8 (head_bytes owner generation) ≡ big_bytes 8 generation ++ owner
  behind_magic = drop_at (big_bytes 8 magic) (big_bytes 8 generation ++ owner) 8 (length-bytes_high_first 8 magic)

  tells : generation < 2 ^ 64 → big_number 8 (drop 8 (head_bytes owner generation)) ≡ generation
  tells fits = ap (big_number 8) behind_magic ∙ big_number-reads_back 8 generation owner fits

  tells_its_own : (g : ℕ) → generation < 2 ^ 64 → IsHead owner g (head owner generation) → g ≡ generation
  tells_its_own g fits is = sym is.numbered ∙ tells fits

  is_head : generation < 2 ^ 64 → IsHead owner generation (head owner generation)
  is_head fits = record {
    kind = refl;
    long = omega arith;
    begins = big_number-reads_back 8 magic (big_bytes 8 generation ++ owner) (omega arith);
    numbered = tells fits;
    owned = refl;
  }

tells_start : (start : ℕ) → start < 2 ^ 64 → number_in Start (number Start start) ≡ Some start
tells_start start fits = ap (λ (n : ℕ). Some n) (big_number-reads_back 8 start [] fits)

-- ---- a file

module _ (owner what tail : List ℕ) (generation start : ℕ) (later : List Entry) (g : generation < 2 ^ 64) (s : start < 2 ^ 64) (fits : AllByRecursion Fits (beginning owner generation start what ++ later)) where
  abbrev bytes : List ℕ
  bytes = spelt first_sum (beginning owner generation start what ++ later) ++ tail

  kept : (k : Kept) → Keeps owner bytes k → (k.generation ≡ generation) × (k.base.items ≡ what) × (more : List (List ℕ)) × (map (λ v. v.items) k.inputs.items ≡ inputs later ++ more)
  kept k keeps =
      let all = whole first_sum (beginning owner generation start what ++ later) keeps.es tail (drop k.length bytes) fits keeps.read in
      let more : List Entry = all.0 in
      let w = keeps.kept.are_whole in
      let three : head owner generation ∷ number Start start ∷ base what ∷ (later ++ more) ≡ w.first ∷ w.second ∷ base k.base.items ∷ keeps.kept.later = sym all.1 ∙ w.parts in
      let first : head owner generation ≡ w.first = head_is (head owner generation) w.first (number Start start ∷ base what ∷ (later ++ more)) (w.second ∷ base k.base.items ∷ keeps.kept.later) three in
      let two = tail_is (head owner generation) w.first (number Start start ∷ base what ∷ (later ++ more)) (w.second ∷ base k.base.items ∷ keeps.kept.later) three in
      let one = tail_is (number Start start) w.second (base what ∷ (later ++ more)) (base k.base.items ∷ keeps.kept.later) two in
      let third : base what ≡ base k.base.items = head_is (base what) (base k.base.items) (later ++ more) keeps.kept.later one in
      let others : later ++ more ≡ keeps.kept.later = tail_is (base what) (base k.base.items) (later ++ more) keeps.kept.later one in (
        tells_its_own owner generation k.generation g (subst (λ (e : Entry). IsHead owner k.generation e) (sym first) w.headed),
        sym (ap (λ (e : Entry). e.bytes) third),
        inputs more,
        keeps.kept.taken ∙ sym (ap inputs others) ∙ inputs_append later more,
      )

  found : KeepsNothing owner bytes → ⊥
  found n =
      let all = whole first_sum (beginning owner generation start what ++ later) n.es tail n.rest fits n.read in
      n.are_not_whole generation start what (later ++ all.0)
      (record { first = head owner generation; second = number Start start; headed = is_head owner generation g; started = tells_start start s; parts = all.1 })

pub keeps_what_was_written : KeepsWhatWasWritten
keeps_what_was_written = record {
  kept = λ owner what tail generation start later k g s fits. kept owner what tail generation start later g s fits k;
  some = λ owner what tail generation start later g s fits. found owner what tail generation start later g s fits;
}
