-- A motor's block, called for two instances: each call stores its input, runs the body over the instance that is called,
-- and fetches its output. Then a meter's, with a function, a VAR_IN_OUT and a return. The machine of these examples
-- writes down what it performs.
use Rattle.std.proofs.Common.{◌≡◌, ℕ, zero, suc, true, List, [], ◌∷◌, ◌++◌, map, Some, None, Ok, refl, codes}
use Rattle.std.specs.Float.Numeral.{scan_numeral}
use Rattle.il_real.specs.Literals.{real_literal}
use Rattle.il_values.specs.declared.op.Op.TheVariants as ops
use Rattle.il_values.specs.Spelled.{spells}
use Rattle.il_model.specs.Literals.{literal_of, are_digits, value_behind}
use Rattle.il_model.specs.Words.{plain, letter_c, name_parts, is_well_spelled}
use Rattle.il_model.specs.declared.words.Mnemonic.{Mnemonic}
use Rattle.il_model.specs.declared.program.Side.TheVariants as sides
use Rattle.il_reader.specs.declared.lexeme.Sign.TheVariants as signs
use Rattle.il_reader.specs.declared.lexeme.Class.TheVariants as classes
use Rattle.il_reader.specs.Tokens.{Token, tokens_behind, piece_of, solid_piece, word_piece, name_of, dotted_len}
use Rattle.il_reader.specs.Grammar.{Named, Direct, More, BehindText, Nothing, Given, Called}
use Rattle.il_units.specs.declared.contents.UnitKind.TheVariants as kinds
use Rattle.il_units.specs.declared.contents.SectionKind.{SectionKind}
use Rattle.il_units.specs.declared.contents.SectionKind.TheVariants as sections
use Rattle.il_units.specs.declared.word.Word.{Word}
use Rattle.il_units.specs.Units.{UnitText, SectionText, LineText, Operation, Function}
use Rattle.laws_calls.specs.Machines.{Machine, Done, Turn, Next, Ends, Stuck}
use Rattle.laws_calls.specs.Calls.{Task, call_step, begun}

abbrev name : List ℕ → Token
name word = record { class = classes.Sign signs.Name; text = word; left = 0 }

abbrev declares : SectionKind → List ℕ → List ℕ → SectionText
declares kind x ty = record {
  kind = kind;
  qualifier = None;
  declarations = record { name = name x; names = More []; ty = name ty; initial = None } ∷ [];
}

abbrev does : Mnemonic → ℕ → BehindText → LineText
does m left behind = record { label = None; step = Some (Operation (record { operator = record { mnemonic = m; left = left }; behind = behind })) }

-- the lines of the body, as they are written
abbrev text : List ℕ
text = codes "LD ON" ++ 10 ∷ (codes "ST RUN" ++ 10 ∷ [])

abbrev motor : UnitText
motor = record {
  kind = kinds.FunctionBlock;
  name = name (codes "MOTOR");
  result = None;
  sections = declares sections.Input (codes "ON") (codes "BOOL") ∷ declares sections.Output (codes "RUN") (codes "BOOL") ∷ [];
  lines = does (record { op = ops.Ld; modifier = plain }) 13 (Given (Named (name (codes "ON"))))
      ∷ does (record { op = ops.St; modifier = plain }) 7 (Given (Named (name (codes "RUN")))) ∷ [];
}

-- CAL INSTANCE(ON := INPUT, RUN => OUTPUT)
abbrev calls : List ℕ → List ℕ → List ℕ → LineText
calls instance input output = does (record { op = ops.Cal; modifier = plain }) 0 (Called (record {
  instance = name instance;
  written = Some (record { field = name (codes "ON"); side = sides.Input; operand = Direct (name input) }
      ∷ record { field = name (codes "RUN"); side = sides.Output; operand = Direct (name output) } ∷ []);
}))

abbrev plant : UnitText
plant = record {
  kind = kinds.Program;
  name = name (codes "PLANT");
  result = None;
  sections = declares sections.Local (codes "M1") (codes "MOTOR") ∷ declares sections.Local (codes "M2") (codes "MOTOR") ∷ [];
  lines = calls (codes "M1") (codes "%IX0.0") (codes "%QX0.0") ∷ calls (codes "M2") (codes "%IX0.1") (codes "%QX0.1") ∷ [];
}

-- a machine that writes down the words that it performs
abbrev writes : Machine (List (List (List ℕ)))
writes = record {
  does = λ ws s. Some (Ok (s ++ map (λ (w : Word). w.text) ws ∷ []));
  truth = λ s. Some true;
  forgets = λ s. s;
}

abbrev performs : List ℕ → List ℕ → List (List ℕ)
performs op x = op ∷ x ∷ []

-- what so many steps come to, or the end before
abbrev turn_after : List ℕ → ℕ → List Task → List (List (List ℕ)) → Turn (List Task) (List (List (List ℕ)))
turn_after text zero left s = call_step writes text left s
turn_after text (suc n) left s = elim (call_step writes text left s) as (λ t. Turn (List Task) (List (List (List ℕ)))) [
  | Next rest t ↦ turn_after text n rest t
  | Ends end ↦ Ends end
  | Stuck ↦ Stuck
]

-- what it has performed at the end of the scan
pub two_motors : turn_after text 30 (begun (motor ∷ []) plant) [] ≡ Ends (Done (
    performs (codes "LD") (codes "%IX0.0") ∷ performs (codes "ST") (codes "M1.ON")
    ∷ performs (codes "LD") (codes "M1.ON") ∷ performs (codes "ST") (codes "M1.RUN")
    ∷ performs (codes "LD") (codes "M1.RUN") ∷ performs (codes "ST") (codes "%QX0.0")
    ∷ performs (codes "LD") (codes "%IX0.1") ∷ performs (codes "ST") (codes "M2.ON")
    ∷ performs (codes "LD") (codes "M2.ON") ∷ performs (codes "ST") (codes "M2.RUN")
    ∷ performs (codes "LD") (codes "M2.RUN") ∷ performs (codes "ST") (codes "%QX0.1") ∷ []))
unfolding tokens_behind piece_of solid_piece word_piece name_of dotted_len name_parts is_well_spelled real_literal scan_numeral
two_motors = refl

-- ---- a function, a VAR_IN_OUT, and a return

-- FUNCTION TWICE : INT, with the input X: LD X, ADD X, ST TWICE
abbrev twice : UnitText
twice = record {
  kind = kinds.Function;
  name = name (codes "TWICE");
  result = Some (name (codes "INT"));
  sections = declares sections.Input (codes "X") (codes "INT") ∷ [];
  lines = does (record { op = ops.Ld; modifier = plain }) 16 (Given (Named (name (codes "X"))))
      ∷ does (record { op = ops.Add; modifier = plain }) 11 (Given (Named (name (codes "X"))))
      ∷ does (record { op = ops.St; modifier = plain }) 5 (Given (Named (name (codes "TWICE")))) ∷ [];
}

-- FUNCTION_BLOCK METER, with the input STEP and the VAR_IN_OUT TOTAL: LD STEP, TWICE, ST TOTAL, RETC, ST STEP
abbrev meter : UnitText
meter = record {
  kind = kinds.FunctionBlock;
  name = name (codes "METER");
  result = None;
  sections = declares sections.Input (codes "STEP") (codes "INT") ∷ declares sections.InOut (codes "TOTAL") (codes "INT") ∷ [];
  lines = does (record { op = ops.Ld; modifier = plain }) 16 (Given (Named (name (codes "STEP"))))
      ∷ record { label = None; step = Some (Function (name (codes "TWICE")) []) }
      ∷ does (record { op = ops.St; modifier = plain }) 5 (Given (Named (name (codes "TOTAL"))))
      ∷ does (record { op = ops.Ret; modifier = letter_c }) 5 Nothing
      ∷ does (record { op = ops.St; modifier = plain }) 5 (Given (Named (name (codes "STEP")))) ∷ [];
}

-- CAL M(STEP := FLOW, TOTAL := SUM)
abbrev plant_of_meter : UnitText
plant_of_meter = record {
  kind = kinds.Program;
  name = name (codes "PLANT");
  result = None;
  sections = declares sections.Local (codes "M") (codes "METER") ∷ declares sections.Local (codes "FLOW") (codes "INT")
      ∷ declares sections.Local (codes "SUM") (codes "INT") ∷ [];
  lines = does (record { op = ops.Cal; modifier = plain }) 0 (Called (record {
    instance = name (codes "M");
    written = Some (record { field = name (codes "STEP"); side = sides.Input; operand = Named (name (codes "FLOW")) }
        ∷ record { field = name (codes "TOTAL"); side = sides.Input; operand = Named (name (codes "SUM")) } ∷ []);
  })) ∷ [];
}

-- operators, as they are written
abbrev operators : List ℕ
operators = codes "LD A" ++ 10 ∷ (codes "ADD B" ++ 10 ∷ (codes "ST C" ++ 10 ∷ []))

-- the function has variables of its own, TOTAL is SUM, and nothing follows the return
pub one_meter : turn_after operators 30 (begun (twice ∷ meter ∷ []) plant_of_meter) [] ≡ Ends (Done (
    performs (codes "LD") (codes "FLOW") ∷ performs (codes "ST") (codes "M.STEP")
    ∷ performs (codes "LD") (codes "M.STEP") ∷ performs (codes "ST") (codes "TWICE.X")
    ∷ performs (codes "LD") (codes "INT#0") ∷ performs (codes "ST") (codes "TWICE.TWICE")
    ∷ performs (codes "LD") (codes "TWICE.X") ∷ performs (codes "ADD") (codes "TWICE.X")
    ∷ performs (codes "ST") (codes "TWICE.TWICE") ∷ performs (codes "LD") (codes "TWICE.TWICE")
    ∷ performs (codes "ST") (codes "SUM") ∷ []))
unfolding tokens_behind piece_of solid_piece word_piece name_of dotted_len name_parts is_well_spelled real_literal scan_numeral spells literal_of are_digits value_behind
one_meter = refl
