-- The words of an expansion, and what becomes of them where a unit is placed.
use Rattle.std.specs.Prelude.{ℕ, List, [], ◌∷◌, map, find, Option, Some, None, Bool, ◌||◌, codes, option_map}
use Rattle.std.specs.Prelude.{if◌then◌else◌}
use Rattle.std.specs.Str.{bytes_eq}
use Rattle.il_values.specs.declared.op.Modifier.{Modifier}
use Rattle.il_model.specs.Words.{under}
use Rattle.il_values.specs.Spelled.{upper}
use Rattle.il_units.specs.declared.word.Sort.{Sort}
use Rattle.il_units.specs.declared.word.Sort.TheVariants as sorts
use Rattle.il_units.specs.declared.word.Word.{Word}
use Rattle.il_units.specs.declared.word.Line.{Line}
use Rattle.il_units.specs.declared.word.Entry.{Entry}
use Rattle.il_units.specs.declared.word.Given.{Given}
use Rattle.il_units.specs.declared.word.Spot.{Spot}

-- names and words of types count in capital letters
abbrev pub capitals : List ℕ → List ℕ
capitals name = map upper name

abbrev pub said : List ℕ → ℕ → Word
said text left = record { sort = sorts.Said; text = text; left = left }

abbrev pub own : List ℕ → ℕ → Word
own name left = record { sort = sorts.Own; text = name; left = left }

abbrev pub shared : List ℕ → ℕ → Word
shared name left = record { sort = sorts.Shared; text = name; left = left }

abbrev pub label : List ℕ → ℕ → Word
label name left = record { sort = sorts.Label; text = name; left = left }

abbrev pub line_of : ℕ → List Word → Line
line_of left words = record { label = None; words = words; left = left }

-- a label with a line of its own
abbrev pub mark : List ℕ → ℕ → Line
mark name left = record { label = Some (label name left); words = []; left = left }

-- ---- placing

-- Where a body is placed: its variables go under the front, as those of an instance or of a function, its labels under
-- the name of the call; what its VAR_IN_OUT stand for; and the place of the call.
pub record Placing : Type 0 where
  pub front : List ℕ
  pub sort : Sort
  pub call : List ℕ
  pub given : List Given
  pub left : ℕ

abbrev pub placing : Spot → Placing
placing at = record {
  front = at.front.now;
  sort = at.sort;
  call = at.call.now;
  given = at.given.now;
  left = at.left;
}

abbrev pub moved : ℕ → Word → Word
moved left word = record { sort = word.sort; text = word.text; left = left }

-- what a call gives for the VAR_IN_OUT of a name
abbrev pub given_for : List Given → List ℕ → Option Given
given_for given name = find (λ (g : Given). bytes_eq g.name name) given

abbrev pub given_or : Word → Option Given → Word
given_or word None = word
given_or word (Some g) = g.word

abbrev pub placed_by : Placing → Sort → Word → Word
placed_by at sorts.Own word = record { sort = at.sort; text = under at.front word.text; left = at.left }
placed_by at sorts.Label word = record { sort = sorts.Label; text = under at.call word.text; left = at.left }
placed_by at sorts.InOut word = moved at.left (given_or word (given_for at.given word.text))
placed_by at sort word = moved at.left word

-- A variable goes under the front, and a label under the call; for a VAR_IN_OUT stands what the call gives. The
-- variables of functions, and all that is no name, stay.
abbrev pub placed : Placing → Word → Word
placed at word = placed_by at word.sort word

-- the jump with the letters of a return
abbrev pub jump_with : Modifier → List ℕ
jump_with letters =
    if letters.conditional then (if letters.negated then codes "JMPCN" else codes "JMPC") else codes "JMP"

-- a return is a jump behind the body
abbrev pub placed_first : Placing → Sort → List Word → List Word
placed_first at (sorts.Return letters) words =
    said (jump_with letters) at.left ∷ label (under at.call (codes "RET")) at.left ∷ []
placed_first at sort words = map (placed at) words

abbrev pub placed_words : Placing → List Word → List Word
placed_words at [] = []
placed_words at (word ∷ words) = placed_first at word.sort (word ∷ words)

abbrev pub placed_line : Placing → Line → Line
placed_line at line = record {
  label = option_map (placed at) line.label;
  words = placed_words at line.words;
  left = at.left;
}

-- ---- declarations

-- A declaration of an instance that is retained is retained, as one is that is by itself.
abbrev pub placed_entry : Placing → Bool → Entry → Entry
placed_entry at retained e = record {
  retained = retained || e.retained;
  name = placed at e.name;
  words = map (placed at) e.words;
}

abbrev pub moved_entry : ℕ → Entry → Entry
moved_entry left e =
    record { retained = e.retained; name = moved left e.name; words = map (moved left) e.words }
