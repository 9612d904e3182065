-- What is kept of a file that a power cut left.
use Rattle.std.proofs.Common.{◌≡◌, ℕ, List, [], ◌∷◌, ◌++◌, refl, sym, ap, ◌∙◌, subst}
use Rattle.std.proofs.lemmas.List.Elements.{filter_map-append}
use Rattle.std.specs.Prelude.{drop}
use Rattle.std.specs.List.{AllByRecursion}
use Rattle.vr_journal.specs.declared.kept.Kept.{Kept}
use Rattle.vr_journal.specs.declared.record.Kind.TheVariants.{Start}
use Rattle.vr_journal.specs.Journals.{Keeps, beginning, head, number, base, inputs, input_in}
use Rattle.vr_journal.specs.Records.{Entry, AreHonest, AreRead, Fits, IsPrefix, ReadBack, first_sum, spelt, sum_behind_all}
use Rattle.vr_disk.specs.Cuts.{IsLeft, IsKept, CutsKeepWhatWasFlushed}

abbrev first_of : Entry → List Entry → Entry
first_of e [] = e
first_of e (x ∷ xs) = x

abbrev others_of : List Entry → List Entry
others_of [] = []
others_of (x ∷ xs) = xs

others_is : (x y : Entry) (xs ys : List Entry) → x ∷ xs ≡ y ∷ ys → xs ≡ ys
others_is x y xs ys e = ap others_of e

first_is : (x y : Entry) (xs ys : List Entry) → x ∷ xs ≡ y ∷ ys → x ≡ y
first_is x y xs ys e = ap (first_of x) e

pub cuts_keep : ReadBack → CutsKeepWhatWasFlushed
cuts_keep back owner what bytes generation start later writing k fits left keeps =
    let flushed : List Entry = beginning owner generation start what ++ later in
    let all = back.whole first_sum flushed keeps.es left.tail (drop k.length bytes) fits
    (subst (λ (xs : List ℕ). AreRead first_sum xs keeps.es (drop k.length bytes)) left.is keeps.read) in
    let more : List Entry = all.0 in
    let w = keeps.kept.are_whole in
    let three : head owner generation ∷ number Start start ∷ base what ∷ (later ++ more) ≡ w.first ∷ w.second ∷ base k.base.items ∷ keeps.kept.later = sym all.1 ∙ w.parts in
    let two = others_is (head owner generation) w.first (number Start start ∷ base what ∷ (later ++ more)) (w.second ∷ base k.base.items ∷ keeps.kept.later) three in
    let one = others_is (number Start start) w.second (base what ∷ (later ++ more)) (base k.base.items ∷ keeps.kept.later) two in
    let third : base what ≡ base k.base.items = first_is (base what) (base k.base.items) (later ++ more) keeps.kept.later one in
    let others : later ++ more ≡ keeps.kept.later = others_is (base what) (base k.base.items) (later ++ more) keeps.kept.later one in
    record {
      some = more;
      first_of = back.changed (sum_behind_all first_sum flushed) writing more left.tail (drop k.length bytes) left.honest all.2;
      base = sym (ap (λ (e : Entry). e.bytes) third);
      taken = keeps.kept.taken ∙ sym (ap inputs others) ∙ filter_map-append input_in later more;
    }
