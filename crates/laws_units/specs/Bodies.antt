-- The body of a block where it is placed.
use Rattle.std.specs.Prelude.{◌≡◌, ◌⊎◌, ℕ, List, [], ◌∷◌, Option, Some, None}
use Rattle.std.specs.List.{AllByRecursion}
use Rattle.il_model.specs.Words.{under}
use Rattle.il_units.specs.declared.word.Sort.TheVariants as sorts
use Rattle.il_units.specs.declared.word.Word.{Word}
use Rattle.il_units.specs.declared.word.Line.{Line}
use Rattle.il_units.specs.declared.word.Given.{Given}
use Rattle.il_units.specs.Words.{Placing, given_for}
use Rattle.il_units.specs.Flats.{FlatUnit}
use Rattle.il_units.specs.Calls.{placed_body}

-- ---- what a body names

abbrev pub StandsUnder : List ℕ → Word → Type 0
StandsUnder front w = (name : List ℕ) × (w.text ≡ under front name)

-- what the call gives for the VAR_IN_OUT of some name
abbrev pub IsGiven : List Given → Word → Type 0
IsGiven given w = (name : List ℕ) × (g : Given) × (given_for given name ≡ Some g) × (w.text ≡ g.word.text)

-- a variable or an instance stands under the front, or is what the call gives
abbrev pub KeepsWord : Placing → Word → Type 0
KeepsWord at w = w.sort ≡ sorts.Own → StandsUnder at.front w ⊎ IsGiven at.given w

abbrev pub KeepsLine : Placing → Line → Type 0
KeepsLine at l = AllByRecursion (KeepsWord at) l.words

-- each of the lines that a body comes to
abbrev pub KeepsTo : Placing → FlatUnit → Type 0
KeepsTo at block = AllByRecursion (KeepsLine at) (placed_body at block)

-- ---- two bodies

-- one stands under the one name as the other under the other
abbrev pub StandAlike : List ℕ → List ℕ → List ℕ → List ℕ → Type 0
StandAlike front other a b = (name : List ℕ) × (a ≡ under front name) × (b ≡ under other name)

-- the same; or under the one front and the other; or labels of the one call and of the other
abbrev pub AreAlikeWords : Placing → Placing → Word → Word → Type 0
AreAlikeWords at bt w v = (w.sort ≡ v.sort) × ((w.text ≡ v.text)
    ⊎ (StandAlike at.front bt.front w.text v.text ⊎ StandAlike at.call bt.call w.text v.text))

abbrev pub AreAlikeLabels : Placing → Placing → Option Word → Option Word → Type 0
AreAlikeLabels at bt None None = Unit {0}
AreAlikeLabels at bt (Some w) (Some v) = AreAlikeWords at bt w v
AreAlikeLabels at bt o p = ⊥

-- one by one
abbrev pub AreSoPaired : {X : Type 0} → (X → X → Type 0) → List X → List X → Type 0
AreSoPaired R [] [] = Unit {0}
AreSoPaired R (x ∷ xs) (y ∷ ys) = R x y × AreSoPaired R xs ys
AreSoPaired R xs ys = ⊥

abbrev pub AreAlikeLines : Placing → Placing → Line → Line → Type 0
AreAlikeLines at bt l m = AreAlikeLabels at bt l.label m.label × AreSoPaired (AreAlikeWords at bt) l.words m.words

-- the bodies of a block at two places
abbrev pub AreAlike : Placing → Placing → FlatUnit → Type 0
AreAlike at bt block = AreSoPaired (AreAlikeLines at bt) (placed_body at block) (placed_body bt block)
