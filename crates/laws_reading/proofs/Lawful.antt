-- Words, lines and declarations that may be read, and what they come to where they are placed.
use Rattle.std.proofs.Common.{◌≡◌, ℕ, Bool, true, false, List, [], ◌∷◌, ◌++◌, map, Option, Some, None, refl, sym, ap, ◌∙◌, subst, inl, inr, codes, find}
use Rattle.std.specs.Prelude.{◌⊎◌, option_map, if◌then◌else◌}
use Rattle.std.specs.List.{AllByRecursion}
use Rattle.std.specs.Str.{bytes_eq}
use Rattle.il_model.specs.Words.{under}
use Rattle.il_reader.specs.declared.lexeme.Sign.{Sign}
use Rattle.il_reader.specs.declared.lexeme.Sign.TheVariants as signs
use Rattle.il_units.specs.declared.word.Sort.{Sort}
use Rattle.il_units.specs.declared.word.Sort.TheVariants as sorts
use Rattle.il_units.specs.declared.word.Word.{Word}
use Rattle.il_units.specs.declared.word.Line.{Line}
use Rattle.il_units.specs.declared.word.Entry.{Entry}
use Rattle.il_units.specs.declared.word.Given.{Given}
use Rattle.il_units.specs.Words.{Placing, moved, given_for, given_or, placed_by, placed, placed_first, placed_words, placed_line, placed_entry, moved_entry}
use Rattle.laws_reading.specs.Words.{IsOperandSign}
use Rattle.laws_reading.proofs.Runs.{MayBe, IsRun, run_under}
use Rattle.laws_reading.proofs.Told.{OperatorOk, jump_is, IsLabelName, label_under, return_label}
use Rattle.laws_reading.specs.Sorts.{Operates, IsOther, OneBehind, ToldBy, AreTold, HasCapitals, IsTold}

-- ---- words

-- a literal, a location, or TRUE or FALSE, as it's written
pub record SaidIs (text : List ℕ) : Type 0 where
  pub sign : Sign
  pub good : IsOperandSign sign
  pub may : MayBe text sign

abbrev pub OperandBy : Sort → List ℕ → Type 0
OperandBy sorts.Said text = SaidIs text
OperandBy sorts.Own text = IsRun text
OperandBy sorts.Shared text = IsRun text
OperandBy sorts.InOut text = IsRun text
OperandBy sort text = ⊥

abbrev pub OperandOk : Word → Type 0
OperandOk w = OperandBy w.sort w.text

abbrev pub NameBy : Sort → List ℕ → Type 0
NameBy sorts.Own text = IsRun text
NameBy sorts.Shared text = IsRun text
NameBy sort text = ⊥

abbrev pub NameOk : Word → Type 0
NameOk w = NameBy w.sort w.text

pub record LabelOk (w : Word) : Type 0 where
  pub sort : w.sort ≡ sorts.Label
  pub name : IsLabelName w.text

pub record SignOk (s : Sign) (w : Word) : Type 0 where
  pub sort : w.sort ≡ sorts.Said
  pub may : MayBe w.text s

-- ---- lines

abbrev pub EndOk : List Word → Word → Type 0
EndOk [] w = SignOk signs.Close w
EndOk (x ∷ xs) w = SignOk signs.Comma w

abbrev pub SideOk : Word → Type 0
SideOk w = SignOk signs.Assign w ⊎ SignOk signs.Arrow w

abbrev pub ArgumentsOk : List Word → Type 0
ArgumentsOk [] = Unit {0}
ArgumentsOk (f ∷ d ∷ x ∷ e ∷ more) = SignOk signs.Name f × SideOk d × OperandOk x × EndOk more e × ArgumentsOk more
ArgumentsOk ws = ⊥

abbrev pub InsideOk : List Word → Type 0
InsideOk [] = ⊥
InsideOk (e ∷ []) = SignOk signs.Close e
InsideOk (f ∷ d ∷ more) = ArgumentsOk (f ∷ d ∷ more)

abbrev pub BehindOk : List Word → Type 0
BehindOk [] = Unit {0}
BehindOk (x ∷ []) = OperandOk x ⊎ (LabelOk x ⊎ SignOk signs.Open x)
BehindOk (o ∷ x ∷ []) = SignOk signs.Open o × OperandOk x
BehindOk (x ∷ o ∷ i ∷ more) = NameOk x × SignOk signs.Open o × InsideOk (i ∷ more)

-- by the sort of the operator: a return stands alone
abbrev pub WordsBy : Sort → List ℕ → List Word → Type 0
WordsBy sorts.Said text ws = OperatorOk text × BehindOk ws
WordsBy (sorts.Return m) text ws = OperatorOk text × (ws ≡ [])
WordsBy sort text ws = ⊥

abbrev pub WordsOk : List Word → Type 0
WordsOk [] = Unit {0}
WordsOk (w ∷ ws) = WordsBy w.sort w.text ws

abbrev pub MayLabel : Option Word → Type 0
MayLabel None = Unit {0}
MayLabel (Some w) = LabelOk w

abbrev pub SomeWords : Option Word → List Word → Type 0
SomeWords None [] = ⊥
SomeWords o ws = Unit {0}

pub record LineOk (l : Line) : Type 0 where
  pub label : MayLabel l.label
  pub words : WordsOk l.words
  pub some : SomeWords l.label l.words
  pub told : AreTold l.words

-- ---- declarations

pub record ValueOk (w : Word) : Type 0 where
  pub sort : w.sort ≡ sorts.Said
  pub is : SaidIs w.text

abbrev pub TypedOk : List Word → Type 0
TypedOk (c ∷ t ∷ e ∷ []) = SignOk signs.Colon c × SignOk signs.Name t × SignOk signs.Semicolon e
TypedOk (c ∷ t ∷ a ∷ v ∷ e ∷ []) = SignOk signs.Colon c × SignOk signs.Name t × SignOk signs.Assign a × ValueOk v × SignOk signs.Semicolon e
TypedOk ws = ⊥

abbrev pub LocatedOk : List Word → Type 0
LocatedOk (at ∷ p ∷ typed) = SignOk signs.Name at × (at.text ≡ codes "AT") × SignOk signs.Address p × TypedOk typed
LocatedOk ws = ⊥

pub record EntryOk (e : Entry) : Type 0 where
  pub name : NameOk e.name
  pub words : TypedOk e.words ⊎ LocatedOk e.words

-- ---- lists

pub all_append : {X : Type 0} (P : X → Type 0) (xs ys : List X) → AllByRecursion P xs → AllByRecursion P ys → AllByRecursion P (xs ++ ys)
all_append P [] ys a b = b
all_append P (x ∷ xs) ys a b = (a.0, all_append P xs ys a.1 b)

pub all_map : {X Y : Type 0} (P : X → Type 0) (Q : Y → Type 0) (f : X → Y) → ((x : X) → P x → Q (f x)) → (xs : List X) → AllByRecursion P xs → AllByRecursion Q (map f xs)
all_map P Q f each [] all = tt
all_map P Q f each (x ∷ xs) all = (each x all.0, all_map P Q f each xs all.1)

pub found_so : {X : Type 0} (P : X → Type 0) (p : X → Bool) (xs : List X) (x : X) → AllByRecursion P xs → find p xs ≡ Some x → P x
found_so P p [] x all e = absurd cc
found_so {X} P p (y ∷ ys) x all e = by_test (p y) e (found_so P p ys x all.1)
  where
    by_test : (b : Bool) → (if b then Some y else find p ys) ≡ Some x → (find p ys ≡ Some x → P x) → P x
    by_test true h more = let same : y ≡ x = cc in subst P same all.0
    by_test false h more = more h

-- ---- placing

abbrev pub IsNameSort : Sort → Type 0
IsNameSort sorts.Own = Unit {0}
IsNameSort sorts.Shared = Unit {0}
IsNameSort sort = ⊥

abbrev pub GivenOk : Given → Type 0
GivenOk g = OperandOk g.word

pub record PlacingOk (at : Placing) : Type 0 where
  pub front : IsRun at.front
  pub sort : IsNameSort at.sort
  pub call : IsLabelName at.call
  pub given : AllByRecursion GivenOk at.given

operand_under : (s : Sort) (text : List ℕ) → IsNameSort s → IsRun text → OperandBy s text
operand_under sorts.Own text name run = run
operand_under sorts.Shared text name run = run
operand_under s text name run = absurd name

name_under : (s : Sort) (text : List ℕ) → IsNameSort s → IsRun text → NameBy s text
name_under sorts.Own text name run = run
name_under sorts.Shared text name run = run
name_under s text name run = absurd name

given_ok : (at : Placing) (w : Word) (o : Option Given) → AllByRecursion GivenOk at.given → given_for at.given w.text ≡ o → OperandOk w → OperandOk (given_or w o)
given_ok at w None all e is = is
given_ok at w (Some g) all e is = found_so GivenOk (λ (x : Given). bytes_eq x.name w.text) at.given g all e

operand_by : (at : Placing) (w : Word) (s : Sort) → PlacingOk at → w.sort ≡ s → OperandBy s w.text → OperandOk (placed_by at s w)
operand_by at w sorts.Said ok e is = subst (λ (s : Sort). OperandBy s w.text) (sym e) is
operand_by at w sorts.Own ok e is = operand_under at.sort (under at.front w.text) ok.sort (run_under at.front w.text ok.front is)
operand_by at w sorts.Shared ok e is = subst (λ (s : Sort). OperandBy s w.text) (sym e) is
operand_by at w sorts.InOut ok e is = given_ok at w (given_for at.given w.text) ok.given refl (subst (λ (s : Sort). OperandBy s w.text) (sym e) is)
operand_by at w sorts.Label ok e is = absurd is
operand_by at w (sorts.Return m) ok e is = absurd is

pub operand_placed : (at : Placing) (w : Word) → PlacingOk at → OperandOk w → OperandOk (placed at w)
operand_placed at w ok is = operand_by at w w.sort ok refl is

name_by : (at : Placing) (w : Word) (s : Sort) → IsRun at.front → IsNameSort at.sort → w.sort ≡ s → NameBy s w.text → NameOk (placed_by at s w)
name_by at w sorts.Own front sort e is = name_under at.sort (under at.front w.text) sort (run_under at.front w.text front is)
name_by at w sorts.Shared front sort e is = subst (λ (s : Sort). NameBy s w.text) (sym e) is
name_by at w sorts.Said front sort e is = absurd is
name_by at w sorts.InOut front sort e is = absurd is
name_by at w sorts.Label front sort e is = absurd is
name_by at w (sorts.Return m) front sort e is = absurd is

name_placed : (at : Placing) (w : Word) → PlacingOk at → NameOk w → NameOk (placed at w)
name_placed at w ok is = name_by at w w.sort ok.front ok.sort refl is

pub label_placed : (at : Placing) (w : Word) → PlacingOk at → LabelOk w → LabelOk (placed at w)
label_placed at w ok is = record {
  sort = ap (λ (s : Sort). (placed_by at s w).sort) is.sort;
  name = subst IsLabelName (sym (ap (λ (s : Sort). (placed_by at s w).text) is.sort)) (label_under at.call w.text ok.call is.name);
}

said_sort : (at : Placing) (w : Word) → w.sort ≡ sorts.Said → (placed at w).sort ≡ sorts.Said
said_sort at w e = ap (λ (s : Sort). (placed_by at s w).sort) e ∙ e

said_text : (at : Placing) (w : Word) → w.sort ≡ sorts.Said → (placed at w).text ≡ w.text
said_text at w e = ap (λ (s : Sort). (placed_by at s w).text) e

pub sign_placed : (s : Sign) (at : Placing) (w : Word) → SignOk s w → SignOk s (placed at w)
sign_placed s at w is = record { sort = said_sort at w is.sort; may = subst (λ (t : List ℕ). MayBe t s) (sym (said_text at w is.sort)) is.may }

value_placed : (at : Placing) (w : Word) → ValueOk w → ValueOk (placed at w)
value_placed at w is = record { sort = said_sort at w is.sort; is = subst SaidIs (sym (said_text at w is.sort)) is.is }

-- ---- a line that is placed

end_placed : (at : Placing) (more : List Word) (w : Word) → EndOk more w → EndOk (map (placed at) more) (placed at w)
end_placed at [] w is = sign_placed signs.Close at w is
end_placed at (x ∷ xs) w is = sign_placed signs.Comma at w is

side_placed : (at : Placing) (w : Word) → SideOk w → SideOk (placed at w)
side_placed at w (inl is) = inl (sign_placed signs.Assign at w is)
side_placed at w (inr is) = inr (sign_placed signs.Arrow at w is)

arguments_placed : (at : Placing) (ws : List Word) → PlacingOk at → ArgumentsOk ws → ArgumentsOk (map (placed at) ws)
arguments_placed at [] ok all = tt
arguments_placed at (f ∷ []) ok all = absurd all
arguments_placed at (f ∷ d ∷ []) ok all = absurd all
arguments_placed at (f ∷ d ∷ x ∷ []) ok all = absurd all
arguments_placed at (f ∷ d ∷ x ∷ e ∷ more) ok all =
    (sign_placed signs.Name at f all.0, side_placed at d all.1, operand_placed at x ok all.2, end_placed at more e all.3, arguments_placed at more ok all.4)

inside_placed : (at : Placing) (ws : List Word) → PlacingOk at → InsideOk ws → InsideOk (map (placed at) ws)
inside_placed at [] ok all = absurd all
inside_placed at (e ∷ []) ok all = sign_placed signs.Close at e all
inside_placed at (f ∷ d ∷ more) ok all = arguments_placed at (f ∷ d ∷ more) ok all

behind_placed : (at : Placing) (ws : List Word) → PlacingOk at → BehindOk ws → BehindOk (map (placed at) ws)
behind_placed at [] ok all = tt
behind_placed at (x ∷ []) ok (inl is) = inl (operand_placed at x ok is)
behind_placed at (x ∷ []) ok (inr (inl is)) = inr (inl (label_placed at x ok is))
behind_placed at (x ∷ []) ok (inr (inr is)) = inr (inr (sign_placed signs.Open at x is))
behind_placed at (o ∷ x ∷ []) ok all = (sign_placed signs.Open at o all.0, operand_placed at x ok all.1)
behind_placed at (x ∷ o ∷ i ∷ more) ok all = (name_placed at x ok all.0, sign_placed signs.Open at o all.1, inside_placed at (i ∷ more) ok all.2)

placed_so : (at : Placing) (s : Sort) (w : Word) (ws : List Word) → PlacingOk at → w.sort ≡ s → WordsBy s w.text ws → WordsOk (placed_first at s (w ∷ ws))
placed_so at sorts.Said w ws ok e all =
    subst (λ (s : Sort). WordsBy s (placed at w).text (map (placed at) ws)) (sym (said_sort at w e))
    (subst OperatorOk (sym (said_text at w e)) all.0, behind_placed at ws ok all.1)
placed_so at (sorts.Return m) w ws ok e all = ((jump_is m).ok, inr (inl (record { sort = refl; name = label_under at.call (codes "RET") ok.call return_label })))
placed_so at sorts.Own w ws ok e all = absurd all
placed_so at sorts.Shared w ws ok e all = absurd all
placed_so at sorts.InOut w ws ok e all = absurd all
placed_so at sorts.Label w ws ok e all = absurd all

words_placed : (at : Placing) (ws : List Word) → PlacingOk at → WordsOk ws → WordsOk (placed_words at ws)
words_placed at [] ok all = tt
words_placed at (w ∷ ws) ok all = placed_so at w.sort w ws ok refl all

some_by : (at : Placing) (s : Sort) (w : Word) (ws : List Word) (o : Option Word) → SomeWords o (placed_first at s (w ∷ ws))
some_by at (sorts.Return m) w ws None = tt
some_by at (sorts.Return m) w ws (Some x) = tt
some_by at sorts.Said w ws None = tt
some_by at sorts.Said w ws (Some x) = tt
some_by at sorts.Own w ws None = tt
some_by at sorts.Own w ws (Some x) = tt
some_by at sorts.Shared w ws None = tt
some_by at sorts.Shared w ws (Some x) = tt
some_by at sorts.InOut w ws None = tt
some_by at sorts.InOut w ws (Some x) = tt
some_by at sorts.Label w ws None = tt
some_by at sorts.Label w ws (Some x) = tt

some_placed : (at : Placing) (o : Option Word) (ws : List Word) → SomeWords o ws → SomeWords (option_map (placed at) o) (placed_words at ws)
some_placed at None [] some = absurd some
some_placed at (Some x) [] some = tt
some_placed at o (w ∷ ws) some = some_by at w.sort w ws (option_map (placed at) o)

may_placed : (at : Placing) (o : Option Word) → PlacingOk at → MayLabel o → MayLabel (option_map (placed at) o)
may_placed at None ok is = tt
may_placed at (Some w) ok is = label_placed at w ok is

-- what the sorts tell

other_of : (s : Sort) (name text : List ℕ) → OperandBy s name → OneBehind s name text → Operates IsOther text
other_of sorts.Said name text is told = told
other_of sorts.Own name text is told = told
other_of sorts.Shared name text is told = told
other_of sorts.InOut name text is told = told
other_of sorts.Label name text is told = absurd is
other_of (sorts.Return m) name text is told = absurd is

pub one_behind : (s : Sort) (name text : List ℕ) → OperandBy s name → Operates IsOther text → OneBehind s name text
one_behind sorts.Said name text is told = told
one_behind sorts.Own name text is told = told
one_behind sorts.Shared name text is told = told
one_behind sorts.InOut name text is told = told
one_behind sorts.Label name text is told = absurd is
one_behind (sorts.Return m) name text is told = absurd is

one_placed : (at : Placing) (x : Word) (text : List ℕ) → PlacingOk at → OperandOk x ⊎ (LabelOk x ⊎ SignOk signs.Open x) → OneBehind x.sort x.text text → OneBehind (placed at x).sort (placed at x).text text
one_placed at x text ok (inl is) told = one_behind (placed at x).sort (placed at x).text text (operand_placed at x ok is) (other_of x.sort x.text text is told)
one_placed at x text ok (inr (inl is)) told =
    let jump : OneBehind sorts.Label x.text text = subst (λ (s : Sort). OneBehind s x.text text) is.sort told in
    let there = label_placed at x ok is in
    subst (λ (s : Sort). OneBehind s (placed at x).text text) (sym there.sort) (jump.0, there.name.capital)
one_placed at x text ok (inr (inr is)) told =
    let other : Operates IsOther text = subst (λ (s : Sort). OneBehind s x.text text) is.sort told in
    subst (λ (s : Sort). OneBehind s (placed at x).text text) (sym (said_sort at x is.sort)) other

said_told : (at : Placing) (text : List ℕ) (ws : List Word) → PlacingOk at → BehindOk ws → ToldBy sorts.Said text ws → ToldBy sorts.Said text (map (placed at) ws)
said_told at text [] ok all told = told
said_told at text (x ∷ []) ok all told = one_placed at x text ok all told
said_told at text (x ∷ y ∷ ws) ok all told = told

told_so : (at : Placing) (s : Sort) (w : Word) (ws : List Word) → PlacingOk at → w.sort ≡ s → WordsBy s w.text ws → ToldBy s w.text ws → AreTold (placed_first at s (w ∷ ws))
told_so at sorts.Said w ws ok e all told =
    subst (λ (s : Sort). ToldBy s (placed at w).text (map (placed at) ws)) (sym (said_sort at w e))
    (subst (λ (t : List ℕ). ToldBy sorts.Said t (map (placed at) ws)) (sym (said_text at w e)) (said_told at w.text ws ok all.1 told))
told_so at (sorts.Return m) w ws ok e all told = ((jump_is m).told, (label_under at.call (codes "RET") ok.call return_label).capital)
told_so at sorts.Own w ws ok e all told = absurd all
told_so at sorts.Shared w ws ok e all told = absurd all
told_so at sorts.InOut w ws ok e all told = absurd all
told_so at sorts.Label w ws ok e all told = absurd all

told_placed : (at : Placing) (ws : List Word) → PlacingOk at → WordsOk ws → AreTold ws → AreTold (placed_words at ws)
told_placed at [] ok all told = tt
told_placed at (w ∷ ws) ok all told = told_so at w.sort w ws ok refl all told

label_told : (o : Option Word) → MayLabel o → HasCapitals o
label_told None is = tt
label_told (Some w) is = is.name.capital

pub line_told : (l : Line) → LineOk l → IsTold l
line_told l is = record { label = label_told l.label is.label; words = is.told }

pub line_placed : (at : Placing) → PlacingOk at → (l : Line) → LineOk l → LineOk (placed_line at l)
line_placed at ok l is = record { label = may_placed at l.label ok is.label; words = words_placed at l.words ok is.words; some = some_placed at l.label l.words is.some; told = told_placed at l.words ok is.words is.told }

-- ---- a declaration that is placed, or moved

typed_placed : (at : Placing) (ws : List Word) → TypedOk ws → TypedOk (map (placed at) ws)
typed_placed at [] all = absurd all
typed_placed at (c ∷ []) all = absurd all
typed_placed at (c ∷ t ∷ []) all = absurd all
typed_placed at (c ∷ t ∷ e ∷ []) all = (sign_placed signs.Colon at c all.0, sign_placed signs.Name at t all.1, sign_placed signs.Semicolon at e all.2)
typed_placed at (c ∷ t ∷ a ∷ v ∷ []) all = absurd all
typed_placed at (c ∷ t ∷ a ∷ v ∷ e ∷ []) all =
    (sign_placed signs.Colon at c all.0, sign_placed signs.Name at t all.1, sign_placed signs.Assign at a all.2, value_placed at v all.3, sign_placed signs.Semicolon at e all.4)
typed_placed at (c ∷ t ∷ a ∷ v ∷ e ∷ y ∷ ys) all = absurd all

entry_words : (at : Placing) (ws : List Word) → TypedOk ws ⊎ LocatedOk ws → TypedOk (map (placed at) ws) ⊎ LocatedOk (map (placed at) ws)
entry_words at ws (inl all) = inl (typed_placed at ws all)
entry_words at [] (inr all) = absurd all
entry_words at (a ∷ []) (inr all) = absurd all
entry_words at (a ∷ p ∷ ws) (inr all) = inr (sign_placed signs.Name at a all.0, said_text at a all.0.sort ∙ all.1, sign_placed signs.Address at p all.2, typed_placed at ws all.3)

pub entry_placed : (at : Placing) (retained : Bool) → IsRun at.front → IsNameSort at.sort → (e : Entry) → EntryOk e → EntryOk (placed_entry at retained e)
entry_placed at retained front sort e is = record { name = name_by at e.name e.name.sort front sort refl is.name; words = entry_words at e.words is.words }

sign_moved : (s : Sign) (left : ℕ) (w : Word) → SignOk s w → SignOk s (moved left w)
sign_moved s left w is = record { sort = is.sort; may = is.may }

typed_moved : (left : ℕ) (ws : List Word) → TypedOk ws → TypedOk (map (moved left) ws)
typed_moved left [] all = absurd all
typed_moved left (c ∷ []) all = absurd all
typed_moved left (c ∷ t ∷ []) all = absurd all
typed_moved left (c ∷ t ∷ e ∷ []) all = (sign_moved signs.Colon left c all.0, sign_moved signs.Name left t all.1, sign_moved signs.Semicolon left e all.2)
typed_moved left (c ∷ t ∷ a ∷ v ∷ []) all = absurd all
typed_moved left (c ∷ t ∷ a ∷ v ∷ e ∷ []) all =
    (sign_moved signs.Colon left c all.0, sign_moved signs.Name left t all.1, sign_moved signs.Assign left a all.2, record { sort = all.3.sort; is = all.3.is }, sign_moved signs.Semicolon left e all.4)
typed_moved left (c ∷ t ∷ a ∷ v ∷ e ∷ y ∷ ys) all = absurd all

entry_moved_words : (left : ℕ) (ws : List Word) → TypedOk ws ⊎ LocatedOk ws → TypedOk (map (moved left) ws) ⊎ LocatedOk (map (moved left) ws)
entry_moved_words left ws (inl all) = inl (typed_moved left ws all)
entry_moved_words left [] (inr all) = absurd all
entry_moved_words left (a ∷ []) (inr all) = absurd all
entry_moved_words left (a ∷ p ∷ ws) (inr all) = inr (sign_moved signs.Name left a all.0, all.1, sign_moved signs.Address left p all.2, typed_moved left ws all.3)

pub entry_moved : (left : ℕ) (e : Entry) → EntryOk e → EntryOk (moved_entry left e)
entry_moved left e is = record { name = is.name; words = entry_moved_words left e.words is.words }
