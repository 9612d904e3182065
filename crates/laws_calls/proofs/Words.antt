-- The words of a line where it is placed.
use Rattle.std.proofs.Common.{◌≡◌, ℕ, Bool, true, false, List, [], ◌∷◌, map, Option, Some, None, refl, sym, ap, ◌∙◌, codes}
use Rattle.std.specs.Prelude.{find, option_map, if◌then◌else◌}
use Rattle.std.specs.List.{AllByRecursion}
use Rattle.std.specs.Str.{bytes_eq}
use Rattle.std.proofs.lemmas.List.{map-id}
use Rattle.il_values.specs.declared.op.Modifier.{Modifier}
use Rattle.il_model.specs.Words.{under}
use Rattle.il_units.specs.declared.word.Sort.{Sort}
use Rattle.il_units.specs.declared.word.Sort.TheVariants as sorts
use Rattle.il_units.specs.declared.word.Word.{Word}
use Rattle.il_units.specs.declared.word.Line.{Line}
use Rattle.il_units.specs.declared.word.Given.{Given}
use Rattle.il_units.specs.Words.{said, label, Placing, placed, placed_by, placed_words, placed_line, given_or, jump_with}
use Rattle.laws_calls.specs.Lines.{Jump, Performs, is_label, letters_of, behind_operator, control_of}
use Rattle.laws_calls.specs.Calls.{word_in}

-- a line in the bodies of some calls, the innermost first
abbrev pub line_in : List Placing → Line → Line
line_in [] l = l
line_in (at ∷ more) l = line_in more (placed_line at l)

abbrev pub label_in : List Placing → List ℕ → List ℕ
label_in [] name = name
label_in (at ∷ more) name = label_in more (under at.call name)

-- ---- words that are no label

abbrev pub IsOther : Word → Type 0
IsOther w = is_label w.sort ≡ false

abbrev pub AreOther : List Word → Type 0
AreOther ws = AllByRecursion IsOther ws

abbrev pub GivesOther : Given → Type 0
GivesOther g = IsOther g.word

pub record IsGoodPlacing (at : Placing) : Type 0 where
  pub sort : is_label at.sort ≡ false
  pub given : AllByRecursion GivesOther at.given

abbrev pub AreGood : List Placing → Type 0
AreGood calls = AllByRecursion IsGoodPlacing calls

found_by : (p : Given → Bool) (g : Given) (gs : List Given) (b : Bool) → p g ≡ b → GivesOther g → (w : Word) → IsOther w → IsOther (given_or w (find p gs)) → IsOther (given_or w (if b then Some g else find p gs))
found_by p g gs true is good w other more = good
found_by p g gs false is good w other more = more

given_other : (p : Given → Bool) (gs : List Given) → AllByRecursion GivesOther gs → (w : Word) → IsOther w → IsOther (given_or w (find p gs))
given_other p [] good w other = other
given_other p (g ∷ gs) good w other = found_by p g gs (p g) refl good.0 w other (given_other p gs good.1 w other)

sort_other : (at : Placing) → IsGoodPlacing at → (s : Sort) (w : Word) → w.sort ≡ s → IsOther w → IsOther (placed_by at s w)
sort_other at good sorts.Own w is other = good.sort
sort_other at good sorts.Label w is other = absurd (cc (ap is_label is, other))
sort_other at good sorts.InOut w is other = given_other (λ (g : Given). bytes_eq g.name w.text) at.given good.given w other
sort_other at good sorts.Said w is other = other
sort_other at good sorts.Shared w is other = other
sort_other at good (sorts.Return letters) w is other = other

pub others_placed : (at : Placing) → IsGoodPlacing at → (ws : List Word) → AreOther ws → AreOther (map (placed at) ws)
others_placed at good [] other = tt
others_placed at good (w ∷ ws) other = (sort_other at good w.sort w refl other.0, others_placed at good ws other.1)

-- ---- what a placed line says

maps_on : (at : Placing) (calls : List Placing) (ws : List Word) → map (word_in calls) (map (placed at) ws) ≡ map (word_in (at ∷ calls)) ws
maps_on at calls [] = refl
maps_on at calls (w ∷ ws) = ap (λ (more : List Word). word_in calls (placed at w) ∷ more) (maps_on at calls ws)

pub performs : (op : List ℕ) (xs : List Word) → AreOther xs → behind_operator op xs ≡ Performs
performs op [] other = refl
performs op (x ∷ []) other = rw other.0 refl
performs op (x ∷ y ∷ more) other = refl

said_in : (calls : List Placing) (l : Line) (op : List ℕ) (i : ℕ) (xs : List Word) → AreGood calls → l.words ≡ said op i ∷ xs → AreOther xs
    → ((line_in calls l).words ≡ map (word_in calls) l.words) × (control_of (line_in calls l).words ≡ Performs)
said_in [] l op i xs good is other = (sym (map-id l.words), ap control_of is ∙ performs op xs other)
said_in (at ∷ calls) l op i xs good is other =
    let words = ap (placed_words at) is in
    let r = said_in calls (placed_line at l) op at.left (map (placed at) xs) good.1 words (others_placed at good.0 xs other) in
    (r.0 ∙ ap (map (word_in calls)) words ∙ maps_on at calls (said op i ∷ xs) ∙ ap (map (word_in (at ∷ calls))) (sym is), r.1)

pub words_in : (calls : List Placing) (l : Line) (op : List ℕ) (i : ℕ) (xs : List Word) → AreGood calls → l.words ≡ said op i ∷ xs → AreOther xs → (line_in calls l).words ≡ map (word_in calls) l.words
words_in calls l op i xs good is other = (said_in calls l op i xs good is other).0

pub performs_in : (calls : List Placing) (l : Line) (op : List ℕ) (i : ℕ) (xs : List Word) → AreGood calls → l.words ≡ said op i ∷ xs → AreOther xs → control_of (line_in calls l).words ≡ Performs
performs_in calls l op i xs good is other = (said_in calls l op i xs good is other).1

pub jumps_in : (calls : List Placing) (l : Line) (op : List ℕ) (i : ℕ) (x : List ℕ) (j : ℕ) → l.words ≡ said op i ∷ label x j ∷ [] → control_of (line_in calls l).words ≡ Jump (letters_of op) (label_in calls x)
jumps_in [] l op i x j is = ap control_of is
jumps_in (at ∷ calls) l op i x j is = jumps_in calls (placed_line at l) op at.left (under at.call x) at.left (ap (placed_words at) is)

-- a return is a jump behind the body
pub returns_in : (at : Placing) (calls : List Placing) (l : Line) (m : Modifier) (op : List ℕ) (i : ℕ) → l.words ≡ record { sort = sorts.Return m; text = op; left = i } ∷ []
    → control_of (line_in (at ∷ calls) l).words ≡ Jump (letters_of (jump_with m)) (label_in calls (under at.call (codes "RET")))
returns_in at calls l m op i is = jumps_in calls (placed_line at l) (jump_with m) at.left (under at.call (codes "RET")) at.left (ap (placed_words at) is)

pub empty_in : (calls : List Placing) (l : Line) → l.words ≡ [] → (line_in calls l).words ≡ []
empty_in [] l is = is
empty_in (at ∷ calls) l is = empty_in calls (placed_line at l) (ap (placed_words at) is)

-- ---- its label

no_label : (at : Placing) (o : Option Word) → o ≡ None → option_map (placed at) o ≡ None
no_label at o is = ap (option_map (placed at)) is

pub unlabelled_in : (calls : List Placing) (l : Line) → l.label ≡ None → (line_in calls l).label ≡ None
unlabelled_in [] l is = is
unlabelled_in (at ∷ calls) l is = unlabelled_in calls (placed_line at l) (no_label at l.label is)

pub labelled_in : (calls : List Placing) (l : Line) (w : Word) → l.label ≡ Some w → (v : Word) × ((line_in calls l).label ≡ Some v)
labelled_in [] l w is = (w, is)
labelled_in (at ∷ calls) l w is = labelled_in calls (placed_line at l) (placed at w) (ap (option_map (placed at)) is)
