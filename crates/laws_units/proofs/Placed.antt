-- What a placed body names, and how two of one block are alike.
use Rattle.std.proofs.Common.{◌≡◌, List, [], ◌∷◌, map, Option, Some, None, refl, inl, inr, codes}
use Rattle.std.specs.Prelude.{option_map}
use Rattle.std.specs.List.{AllByRecursion}
use Rattle.il_units.specs.declared.word.Sort.{Sort}
use Rattle.il_units.specs.declared.word.Sort.TheVariants as sorts
use Rattle.il_units.specs.declared.word.Word.{Word}
use Rattle.il_units.specs.declared.word.Line.{Line}
use Rattle.il_units.specs.declared.word.Given.{Given}
use Rattle.il_units.specs.Words.{Placing, given_for, given_or, moved, placed, placed_by, placed_first, placed_words, placed_line}
use Rattle.il_units.specs.Flats.{FlatUnit}
use Rattle.laws_units.specs.Bodies.{KeepsWord, KeepsLine, KeepsTo, AreAlikeWords, AreAlikeLabels, AreAlikeLines, AreSoPaired, AreAlike}

-- ---- what a body names

given_keeps : (at : Placing) (w : Word) (o : Option Given) → w.sort ≡ sorts.InOut → given_for at.given w.text ≡ o → KeepsWord at (moved at.left (given_or w o))
given_keeps at w None s e = λ own. absurd (cc (s, own))
given_keeps at w (Some g) s e = λ own. inr (w.text, g, e, refl)

-- a word of the sort
sort_keeps : (at : Placing) (s : Sort) (w : Word) → w.sort ≡ s → KeepsWord at (placed_by at s w)
sort_keeps at sorts.Own w is = λ own. inl (w.text, refl)
sort_keeps at sorts.Said w is = λ own. absurd (cc (is, own))
sort_keeps at sorts.Shared w is = λ own. absurd (cc (is, own))
sort_keeps at sorts.Label w is = λ own. absurd cc
sort_keeps at sorts.InOut w is = given_keeps at w (given_for at.given w.text) is refl
sort_keeps at (sorts.Return letters) w is = λ own. absurd (cc (is, own))

words_keep : (at : Placing) (ws : List Word) → AllByRecursion (KeepsWord at) (map (placed at) ws)
words_keep at [] = tt
words_keep at (w ∷ ws) = (sort_keeps at w.sort w refl, words_keep at ws)

first_keeps : (at : Placing) (s : Sort) (ws : List Word) → AllByRecursion (KeepsWord at) (placed_first at s ws)
first_keeps at (sorts.Return letters) ws = ((λ own. absurd cc), ((λ own. absurd cc), tt))
first_keeps at sorts.Own ws = words_keep at ws
first_keeps at sorts.Said ws = words_keep at ws
first_keeps at sorts.Shared ws = words_keep at ws
first_keeps at sorts.Label ws = words_keep at ws
first_keeps at sorts.InOut ws = words_keep at ws

line_keeps : (at : Placing) (ws : List Word) → AllByRecursion (KeepsWord at) (placed_words at ws)
line_keeps at [] = tt
line_keeps at (w ∷ ws) = first_keeps at w.sort (w ∷ ws)

lines_keep : (at : Placing) (ls : List Line) → AllByRecursion (KeepsLine at) (map (placed_line at) ls)
lines_keep at [] = tt
lines_keep at (l ∷ ls) = (line_keeps at l.words, lines_keep at ls)

pub body_keeps : (at : Placing) (block : FlatUnit) → KeepsTo at block
body_keeps at block = lines_keep at block.lines

-- ---- two bodies

same_given : (at bt : Placing) (w : Word) → at.given ≡ bt.given → AreAlikeWords at bt (placed_by at sorts.InOut w) (placed_by bt sorts.InOut w)
same_given at bt w e = rw e (refl, inl refl)

sort_alike : (at bt : Placing) (s : Sort) (w : Word) → at.sort ≡ bt.sort → at.given ≡ bt.given → AreAlikeWords at bt (placed_by at s w) (placed_by bt s w)
sort_alike at bt sorts.Own w so gi = (so, inr (inl (w.text, refl, refl)))
sort_alike at bt sorts.Said w so gi = (refl, inl refl)
sort_alike at bt sorts.Shared w so gi = (refl, inl refl)
sort_alike at bt sorts.Label w so gi = (refl, inr (inr (w.text, refl, refl)))
sort_alike at bt sorts.InOut w so gi = same_given at bt w gi
sort_alike at bt (sorts.Return letters) w so gi = (refl, inl refl)

words_alike : (at bt : Placing) (ws : List Word) → at.sort ≡ bt.sort → at.given ≡ bt.given → AreSoPaired (AreAlikeWords at bt) (map (placed at) ws) (map (placed bt) ws)
words_alike at bt [] so gi = tt
words_alike at bt (w ∷ ws) so gi = (sort_alike at bt w.sort w so gi, words_alike at bt ws so gi)

first_alike : (at bt : Placing) (s : Sort) (ws : List Word) → at.sort ≡ bt.sort → at.given ≡ bt.given → AreSoPaired (AreAlikeWords at bt) (placed_first at s ws) (placed_first bt s ws)
first_alike at bt (sorts.Return letters) ws so gi = ((refl, inl refl), ((refl, inr (inr (codes "RET", refl, refl))), tt))
first_alike at bt sorts.Own ws so gi = words_alike at bt ws so gi
first_alike at bt sorts.Said ws so gi = words_alike at bt ws so gi
first_alike at bt sorts.Shared ws so gi = words_alike at bt ws so gi
first_alike at bt sorts.Label ws so gi = words_alike at bt ws so gi
first_alike at bt sorts.InOut ws so gi = words_alike at bt ws so gi

line_alike : (at bt : Placing) (ws : List Word) → at.sort ≡ bt.sort → at.given ≡ bt.given → AreSoPaired (AreAlikeWords at bt) (placed_words at ws) (placed_words bt ws)
line_alike at bt [] so gi = tt
line_alike at bt (w ∷ ws) so gi = first_alike at bt w.sort (w ∷ ws) so gi

label_alike : (at bt : Placing) (o : Option Word) → at.sort ≡ bt.sort → at.given ≡ bt.given → AreAlikeLabels at bt (option_map (placed at) o) (option_map (placed bt) o)
label_alike at bt None so gi = tt
label_alike at bt (Some w) so gi = sort_alike at bt w.sort w so gi

lines_alike : (at bt : Placing) (ls : List Line) → at.sort ≡ bt.sort → at.given ≡ bt.given → AreSoPaired (AreAlikeLines at bt) (map (placed_line at) ls) (map (placed_line bt) ls)
lines_alike at bt [] so gi = tt
lines_alike at bt (l ∷ ls) so gi = ((label_alike at bt l.label so gi, line_alike at bt l.words so gi), lines_alike at bt ls so gi)

pub bodies_alike : (at bt : Placing) (block : FlatUnit) → at.sort ≡ bt.sort → at.given ≡ bt.given → AreAlike at bt block
bodies_alike at bt block so gi = lines_alike at bt block.lines so gi
