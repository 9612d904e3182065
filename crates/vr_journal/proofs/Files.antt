-- What is read of a file of which the records are known.
use Rattle.std.proofs.Common.{◌≡◌, ℕ, List, [], ◌∷◌, ◌++◌, length, refl, sym, ap, ap₂, subst, arith, append_assoc, length-append}
use Rattle.std.specs.List.{AllByRecursion}
use Rattle.vr_journal.specs.Records.{Entry, spelt, sum_behind, sum_behind_all, record_bytes, Fits, StandsFirst, Stand, AreRead, AreHonest, IsPrefix, ReadBack}
use Rattle.vr_journal.proofs.Fronts.{one_record, long_enough, widened, written_stands, none_in_zeros}

first_stands : (sum : ℕ) (e : Entry) (es : List Entry) (tail : List ℕ) → Fits e
    → StandsFirst sum (spelt sum (e ∷ es) ++ tail) e (spelt (sum_behind sum e) es ++ tail)
first_stands sum e es tail fits =
    let later : List ℕ = spelt (sum_behind sum e) es in
    subst (λ (xs : List ℕ). StandsFirst sum xs e (later ++ tail)) (sym (append_assoc (record_bytes sum e) later tail)) (written_stands sum e (later ++ tail) fits)

-- the first of what is read, and the others
later_read : (sum : ℕ) (bytes : List ℕ) (e f : Entry) (fs : List Entry) (rest behind : List ℕ) → StandsFirst sum bytes e behind
    → AreRead sum bytes (f ∷ fs) rest → (e ≡ f) × AreRead (sum_behind sum e) behind fs rest
later_read sum bytes e f fs rest behind stands read =
    let more : List ℕ = read.stand.0 in
    let one : (e ≡ f) × (behind ≡ more) = one_record sum bytes e f behind more stands read.stand.1 in
    let others : AreRead (sum_behind sum f) more fs rest = record { stand = read.stand.2; ends = read.ends } in
    let there : AreRead (sum_behind sum f) behind fs rest = subst (λ (xs : List ℕ). AreRead (sum_behind sum f) xs fs rest) (sym one.1) others in
    (one.0, subst (λ (x : Entry). AreRead (sum_behind sum x) behind fs rest) (sym one.0) there)

-- a record stands first, so one is read
not_none : (sum : ℕ) (bytes : List ℕ) (e : Entry) (rest behind : List ℕ) → StandsFirst sum bytes e behind → AreRead sum bytes [] rest → ⊥
not_none sum bytes e rest behind stands read =
    read.ends e behind (subst (λ (xs : List ℕ). StandsFirst sum xs e behind) read.stand stands)

pub whole : (sum : ℕ) (es found : List Entry) (tail rest : List ℕ) → AllByRecursion Fits es → AreRead sum (spelt sum es ++ tail) found rest
    → (later : List Entry) × (found ≡ es ++ later) × AreRead (sum_behind_all sum es) tail later rest
whole sum [] found tail rest fits read = (found, refl, read)
whole sum (e ∷ es) [] tail rest fits read = absurd (not_none sum (spelt sum (e ∷ es) ++ tail) e rest (spelt (sum_behind sum e) es ++ tail) (first_stands sum e es tail fits.0) read)
whole sum (e ∷ es) (f ∷ fs) tail rest fits read =
    let next = later_read sum (spelt sum (e ∷ es) ++ tail) e f fs rest (spelt (sum_behind sum e) es ++ tail) (first_stands sum e es tail fits.0) read in
    let more = whole (sum_behind sum e) es fs tail rest fits.1 next.1 in
    (more.0, ap₂ (λ (x : Entry) (xs : List Entry). x ∷ xs) (sym next.0) more.1, more.2)

pub honest : (sum : ℕ) (es : List Entry) (bytes lost : List ℕ) → AllByRecursion Fits es → bytes ++ lost ≡ spelt sum es → AreHonest sum es bytes
honest sum [] bytes lost fits is = λ e rest stands.
    let none : length (bytes ++ lost) ≡ 0 = ap length is in
    absurd (omega (arith, none, length-append bytes lost, long_enough sum bytes e rest stands))
honest sum (e ∷ es) bytes lost fits is = λ found more stands.
    let later : List ℕ = spelt (sum_behind sum e) es in
    let wide : StandsFirst sum (spelt sum (e ∷ es)) found (more ++ lost) = subst (λ (xs : List ℕ). StandsFirst sum xs found (more ++ lost)) is (widened sum bytes lost found more stands) in
    let one : (found ≡ e) × (more ++ lost ≡ later) = one_record sum (spelt sum (e ∷ es)) found e (more ++ lost) later wide (written_stands sum e later fits.0) in
    (one.0, honest (sum_behind sum e) es more lost fits.1 one.1)

pub changed : (sum : ℕ) (es found : List Entry) (bytes rest : List ℕ) → AreHonest sum es bytes → AreRead sum bytes found rest → IsPrefix found es
changed sum es [] bytes rest are read = (es, refl)
changed sum [] (f ∷ fs) bytes rest are read = absurd (are f read.stand.0 read.stand.1)
changed sum (e ∷ es) (f ∷ fs) bytes rest are read =
    let more : List ℕ = read.stand.0 in
    let one = are f more read.stand.1 in
    let others : AreRead (sum_behind sum f) more fs rest = record { stand = read.stand.2; ends = read.ends } in
    let there : AreRead (sum_behind sum e) more fs rest = subst (λ (x : Entry). AreRead (sum_behind sum x) more fs rest) one.0 others in
    let later = changed (sum_behind sum e) es fs more rest one.1 there in
    (later.0, ap₂ (λ (x : Entry) (xs : List Entry). x ∷ xs) (sym one.0) later.1)

pub read_back : ReadBack
read_back = record {
  whole = whole;
  cut = λ sum es found bytes lost rest fits is read. changed sum es found bytes rest (honest sum es bytes lost fits is) read;
  changed = changed;
  honest = honest;
  zeros = none_in_zeros;
}

-- ---- one record more

pub stand_more : (sum : ℕ) (bytes : List ℕ) (es : List Entry) (e : Entry) (rest more : List ℕ) → Stand sum bytes es rest → StandsFirst (sum_behind_all sum es) rest e more
    → Stand sum bytes (es ++ e ∷ []) more
stand_more sum bytes [] e rest more stand stands = (more, subst (λ (xs : List ℕ). StandsFirst sum xs e more) (sym stand) stands, refl)
stand_more sum bytes (f ∷ fs) e rest more stand stands = (stand.0, stand.1, stand_more (sum_behind sum f) stand.0 fs e rest more stand.2 stands)

pub sum_more : (sum : ℕ) (es : List Entry) (e : Entry) → sum_behind_all sum (es ++ e ∷ []) ≡ sum_behind (sum_behind_all sum es) e
sum_more sum [] e = refl
sum_more sum (f ∷ fs) e = sum_more (sum_behind sum f) fs e
