-- Where no places are known, an answer is told by its line alone.
use Rattle.std.proofs.Common.{◌≡◌, ℕ, List, [], ◌∷◌, ◌++◌, codes, refl, ap, ◌∙◌}
use Rattle.std.proofs.lemmas.List.{append-nil}
use Rattle.il_model.specs.declared.command.Answer.{Answer}
use Rattle.il_model.specs.declared.command.Answer.TheVariants.{Outputs, Held, Stopped, Value, Done, Refused}
use Rattle.il_text.specs.Lines.{answer_text, line_text, lines_of}
use Rattle.il_places.specs.Places.{nowhere}
use Rattle.il_places.specs.Located.{standing_of, placed_line, placed_lines}

nowhere_standing : (answer : Answer) → standing_of nowhere answer ≡ []
nowhere_standing (Outputs count image) = refl
nowhere_standing (Held position) = refl
nowhere_standing (Stopped stop position image) = refl
nowhere_standing (Value value) = refl
nowhere_standing Done = refl
nowhere_standing (Refused refusal) = refl

pub told_alone : (answer : Answer) → placed_line nowhere answer ≡ line_text answer
told_alone answer =
    ap (λ (t : List ℕ). (answer_text answer ++ t) ++ codes "\n") (nowhere_standing answer)
    ∙ ap (λ (t : List ℕ). t ++ codes "\n") (append-nil (answer_text answer))

pub all_told_alone : (given : List Answer) → placed_lines nowhere given ≡ lines_of given
all_told_alone [] = refl
all_told_alone (answer ∷ more) =
    ap (λ (t : List ℕ). t ++ placed_lines nowhere more) (told_alone answer)
    ∙ ap (λ (t : List ℕ). line_text answer ++ t) (all_told_alone more)
