-- Where a label stands among lines.
use Rattle.std.proofs.Common.{◌≡◌, ℕ, Bool, true, false, List, [], ◌∷◌, ◌++◌, map, Option, Some, None, refl, sym, ap, ◌∙◌, nat_eq}
use Rattle.std.specs.Prelude.{◌&&◌, ◌||◌, option_map, if◌then◌else◌}
use Rattle.std.specs.List.{AllByRecursion}
use Rattle.std.specs.Str.{bytes_eq}
use Rattle.std.proofs.lemmas.Bool.{eq-eqb, eqb-true}
use Rattle.il_model.specs.Words.{is_dot, has_dot, under}
use Rattle.il_units.specs.declared.word.Sort.TheVariants as sorts
use Rattle.il_units.specs.declared.word.Word.{Word}
use Rattle.il_units.specs.declared.word.Line.{Line}
use Rattle.il_units.specs.Words.{Placing, placed, placed_line}
use Rattle.laws_calls.specs.Lines.{bears, from}

-- ---- bytes

same_byte : (x : ℕ) → nat_eq x x ≡ true
same_byte x = eq-eqb x x refl

bytes_same_front : (c a b : List ℕ) → bytes_eq (c ++ a) (c ++ b) ≡ bytes_eq a b
bytes_same_front [] a b = refl
bytes_same_front (x ∷ c) a b = rw (same_byte x) (bytes_same_front c a b)

pub under_same : (c a b : List ℕ) → bytes_eq (under c a) (under c b) ≡ bytes_eq a b
under_same c a b = bytes_same_front c (46 ∷ a) (46 ∷ b)

and_both : (a b : Bool) → (a && b) ≡ true → (a ≡ true) × (b ≡ true)
and_both true b e = (refl, e)
and_both false b e = absurd cc

pub bytes_equal : (a b : List ℕ) → bytes_eq a b ≡ true → a ≡ b
bytes_equal [] [] e = refl
bytes_equal [] (y ∷ b) e = absurd cc
bytes_equal (x ∷ a) [] e = absurd cc
bytes_equal (x ∷ a) (y ∷ b) e =
    let both = and_both (nat_eq x y) (bytes_eq a b) e in
    let first : x ≡ y = eqb-true x y both.0 in
    let more : a ≡ b = bytes_equal a b both.1 in cc

pub bytes_self : (a : List ℕ) → bytes_eq a a ≡ true
bytes_self [] = refl
bytes_self (x ∷ a) = rw (same_byte x) (bytes_self a)

by_truth : (b : Bool) → (b ≡ true → ⊥) → b ≡ false
by_truth true lacks = absurd (lacks refl)
by_truth false lacks = refl

pub bytes_differ : (a b : List ℕ) → (a ≡ b → ⊥) → bytes_eq a b ≡ false
bytes_differ a b lacks = by_truth (bytes_eq a b) (λ (e : bytes_eq a b ≡ true). lacks (bytes_equal a b e))

or_true : (a : Bool) → (a || true) ≡ true
or_true true = refl
or_true false = refl

pub dotted : (c z : List ℕ) → has_dot (under c z) ≡ true
dotted [] z = refl
dotted (x ∷ c) z = rw (dotted c z) (or_true (is_dot x))

-- what stands under a name is no part
pub under_no_part : (c z name : List ℕ) → has_dot name ≡ false → under c z ≡ name → ⊥
under_no_part c z name part is = absurd (cc (dotted c z, ap has_dot is, part))

-- ---- the lines from a label on

found_here : (name : List ℕ) (l : Line) (a b : List Line) (t : Bool) → bears name l.label ≡ t → ((r : List Line) → from name a ≡ Some r → from name (a ++ b) ≡ Some (r ++ b))
    → (r : List Line) → (if t then Some (l ∷ a) else from name a) ≡ Some r → (if t then Some (l ∷ (a ++ b)) else from name (a ++ b)) ≡ Some (r ++ b)
found_here name l a b true is more r e = let same : l ∷ a ≡ r = cc in ap (λ (x : List Line). Some (x ++ b)) same
found_here name l a b false is more r e = more r e

pub from_found : (name : List ℕ) (a b r : List Line) → from name a ≡ Some r → from name (a ++ b) ≡ Some (r ++ b)
from_found name [] b r e = absurd (cc)
from_found name (l ∷ a) b r e = found_here name l a b (bears name l.label) refl (λ (r : List Line) (e : from name a ≡ Some r). from_found name a b r e) r e

passed_here : (name : List ℕ) (l : Line) (a b : List Line) (t : Bool) → (from name a ≡ None → from name (a ++ b) ≡ from name b)
    → (if t then Some (l ∷ a) else from name a) ≡ None → (if t then Some (l ∷ (a ++ b)) else from name (a ++ b)) ≡ from name b
passed_here name l a b true more e = absurd (cc)
passed_here name l a b false more e = more e

pub from_passed : (name : List ℕ) (a b : List Line) → from name a ≡ None → from name (a ++ b) ≡ from name b
from_passed name [] b e = refl
from_passed name (l ∷ a) b e = passed_here name l a b (bears name l.label) (λ (e : from name a ≡ None). from_passed name a b e) e

pub from_first : (name : List ℕ) (l : Line) (a : List Line) → bears name l.label ≡ true → from name (l ∷ a) ≡ Some (l ∷ a)
from_first name l a is = rw is refl

pub from_next : (name : List ℕ) (l : Line) (a : List Line) → bears name l.label ≡ false → from name (l ∷ a) ≡ from name a
from_next name l a is = rw is refl

-- ---- all of some lines

pub all_both : {X : Type 0} (P : X → Type 0) (a b : List X) → AllByRecursion P a → AllByRecursion P b → AllByRecursion P (a ++ b)
all_both P [] b p q = q
all_both P (x ∷ a) b p q = (p.0, all_both P a b p.1 q)

pub all_first : {X : Type 0} (P : X → Type 0) (a b : List X) → AllByRecursion P (a ++ b) → AllByRecursion P a
all_first P [] b p = tt
all_first P (x ∷ a) b p = (p.0, all_first P a b p.1)

pub all_second : {X : Type 0} (P : X → Type 0) (a b : List X) → AllByRecursion P (a ++ b) → AllByRecursion P b
all_second P [] b p = p
all_second P (x ∷ a) b p = all_second P a b p.1

pub all_also : {X : Type 0} (P Q : X → Type 0) → ((x : X) → P x → Q x) → (a : List X) → AllByRecursion P a → AllByRecursion Q a
all_also P Q f [] p = tt
all_also P Q f (x ∷ a) p = (f x p.0, all_also P Q f a p.1)

pub all_mapped : {X Y : Type 0} (P : X → Type 0) (Q : Y → Type 0) (g : X → Y) → ((x : X) → P x → Q (g x)) → (a : List X) → AllByRecursion P a → AllByRecursion Q (map g a)
all_mapped P Q g f [] p = tt
all_mapped P Q g f (x ∷ a) p = (f x p.0, all_mapped P Q g f a p.1)

-- ---- labels of lines

abbrev pub IsLabelWord : Option Word → Type 0
IsLabelWord None = Unit {0}
IsLabelWord (Some w) = w.sort ≡ sorts.Label

abbrev pub HasLabelWord : Line → Type 0
HasLabelWord l = IsLabelWord l.label

-- it bears no label but one under the call
abbrev pub IsUnder : List ℕ → Option Word → Type 0
IsUnder call None = Unit {0}
IsUnder call (Some w) = (w.sort ≡ sorts.Label) × ((name : List ℕ) × (w.text ≡ under call name))

abbrev pub HasUnder : List ℕ → Line → Type 0
HasUnder call l = IsUnder call l.label

bears_placed : (at : Placing) (name : List ℕ) (o : Option Word) → IsLabelWord o → bears (under at.call name) (option_map (placed at) o) ≡ bears name o
bears_placed at name None is = refl
bears_placed at name (Some w) is = rw is (under_same at.call w.text name)

mapped_if : (f : List Line → List Line) (b : Bool) (x y : Option (List Line)) → (if b then option_map f x else option_map f y) ≡ option_map f (if b then x else y)
mapped_if f true x y = refl
mapped_if f false x y = refl

-- in a placed body the label under the call stands where the label stands in the body
pub from_placed : (at : Placing) (name : List ℕ) (ls : List Line) → AllByRecursion HasLabelWord ls → from (under at.call name) (map (placed_line at) ls) ≡ option_map (map (placed_line at)) (from name ls)
from_placed at name [] all = refl
from_placed at name (l ∷ ls) all =
    rw (bears_placed at name l.label all.0, from_placed at name ls all.1) (mapped_if (map (placed_line at)) (bears name l.label) (Some (l ∷ ls)) (from name ls))

-- a label that no line of the kind bears
pub none_from : (P : Line → Type 0) (name : List ℕ) → ((l : Line) → P l → bears name l.label ≡ false) → (ls : List Line) → AllByRecursion P ls → from name ls ≡ None
none_from P name lacks [] all = refl
none_from P name lacks (l ∷ ls) all = from_next name l ls (lacks l all.0) ∙ none_from P name lacks ls all.1

under_bears : (call name : List ℕ) (o : Option Word) → ((z : List ℕ) → under call z ≡ name → ⊥) → IsUnder call o → bears name o ≡ false
under_bears call name None lacks is = refl
under_bears call name (Some w) lacks is = bytes_differ w.text name (λ (e : w.text ≡ name). lacks is.1.0 (sym is.1.1 ∙ e))

pub none_under : (call name : List ℕ) (ls : List Line) → ((z : List ℕ) → under call z ≡ name → ⊥) → AllByRecursion (HasUnder call) ls → from name ls ≡ None
none_under call name ls lacks all = none_from (HasUnder call) name (λ (l : Line) (is : HasUnder call l). under_bears call name l.label lacks is) ls all
