-- Where the lines of an expansion come from. A body stands where it is called, right before the label by which its
-- returns leave it; so the lines before that label are those of the unit that is called, in the instance that is.
use Rattle.std.specs.Prelude.{ℕ, suc, ◌-◌, List, [], ◌∷◌, ◌++◌, map, find, length, take, Option, Some, None}
use Rattle.std.specs.Prelude.{option_and_then, option_to_list, slice_get}
use Rattle.std.specs.Str.{bytes_eq}
use Rattle.il_reader.specs.Tokens.{Token}
use Rattle.il_reader.specs.Grammar.{BehindText, Called}
use Rattle.il_units.specs.declared.members.Member.{Member}
use Rattle.il_units.specs.declared.word.Word.{Word}
use Rattle.il_units.specs.declared.word.Line.{Line}
use Rattle.il_units.specs.Units.{UnitText, LineText, StepText, Operation, Function}
use Rattle.il_units.specs.Words.{capitals}
use Rattle.il_units.specs.Members.{member_named}
use Rattle.il_units.specs.Flats.{FlatUnit}
use Rattle.il_units.specs.Calls.{back}
use Rattle.il_units.specs.Expansion.{call_name, flat_of}
use Rattle.il_places.specs.declared.calls.CalledUnit.{CalledUnit}
use Rattle.il_places.specs.declared.origins.Origin.{Origin}
use Rattle.il_places.specs.Names.{in_front}

-- ---- what the lines of a unit call

abbrev pub type_word_of : Option Member → List ℕ
type_word_of None = []
type_word_of (Some m) = m.ty.text

-- the word of the type of the member of a name
abbrev pub type_of : List Member → List ℕ → List ℕ
type_of members name = type_word_of (member_named members name)

-- the call of an instance: the unit is its type
abbrev pub instance_called : List Member → ℕ → Token → CalledUnit
instance_called members k t = record {
  label = back (call_name k);
  unit = type_of members (capitals t.text);
  instance = capitals t.text;
}

-- the call of a function, which is no instance's
abbrev pub function_called : ℕ → Token → CalledUnit
function_called k t = record { label = back (call_name k); unit = capitals t.text; instance = [] }

abbrev pub call_behind : List Member → ℕ → BehindText → Option CalledUnit
call_behind members k (Called c) = Some (instance_called members k c.instance)
call_behind members k b = None

-- what the k-th line calls
abbrev pub call_in : List Member → ℕ → Option StepText → Option CalledUnit
call_in members k None = None
call_in members k (Some (Operation o)) = call_behind members k o.behind
call_in members k (Some (Function t xs)) = Some (function_called k t)

-- what the lines call from the k-th on
unfoldable pub calls_from : List Member → ℕ → List LineText → List CalledUnit
calls_from members k [] = []
calls_from members k (l ∷ ls) = option_to_list (call_in members k l.step) ++ calls_from members (suc k) ls

-- ---- origins

-- a line of the unit itself, by how many bytes the text has from its place on
abbrev pub by_itself : ℕ → Origin
by_itself left = record { left = left; instance = [] }

-- what stands in the body of an instance, or in that of a function, which has no name of its own
abbrev pub in_instance : List ℕ → Origin → Origin
in_instance front o = record { left = o.left; instance = in_front front o.instance }

-- a unit's name, and where its lines come from, in its own names
pub record TraceText : Type 0 where
  pub name : List ℕ
  pub origins : List Origin

abbrev pub trace_named : List TraceText → List ℕ → Option TraceText
trace_named traces name = find (λ (t : TraceText). bytes_eq t.name name) traces

abbrev pub origins_in : List ℕ → Option TraceText → List Origin
origins_in front None = []
origins_in front (Some t) = map (in_instance front) t.origins

-- the origins of a body that is called; none of a standard block, and of SEL and MUX
abbrev pub body_of : List TraceText → CalledUnit → List Origin
body_of traces c = origins_in c.instance (trace_named traces c.unit)

-- the call whose body ends before a label
abbrev pub call_before : List CalledUnit → List ℕ → Option CalledUnit
call_before calls label = find (λ (c : CalledUnit). bytes_eq c.label label) calls

abbrev pub body_of_call : List TraceText → Option CalledUnit → List Origin
body_of_call traces None = []
body_of_call traces (Some c) = body_of traces c

abbrev pub ended_by : List TraceText → List CalledUnit → List ℕ → List Origin
ended_by traces calls label = body_of_call traces (call_before calls label)

abbrev pub label_text : Option Word → List ℕ
label_text None = []
label_text (Some w) = w.text

abbrev pub label_at : List Line → ℕ → List ℕ
label_at lines n = label_text (option_and_then (λ (l : Line). l.label) (slice_get lines n))

-- a body in the place of the last lines
abbrev pub with_body : List Origin → List Origin → List Origin
with_body os body = take (length os - length body) os ++ body

-- The lines, behind those before: each comes from its own place, but the last ones before the label behind a body from
-- the lines of what is called.
unfoldable pub origins_from : List TraceText → List CalledUnit → List Origin → List Line → List Origin
origins_from traces calls os [] = os
origins_from traces calls os (l ∷ ls) = origins_from traces calls
    (with_body os (ended_by traces calls (label_text l.label)) ++ by_itself l.left ∷ []) ls

-- ---- units

-- a unit with the origins of its lines, beside those above it
abbrev pub trace_with : List TraceText → FlatUnit → List LineText → TraceText
trace_with traces u ls =
    record { name = u.name; origins = origins_from traces (calls_from u.members 1 ls) [] u.lines }

-- all of them, each beside those above it
unfoldable pub traces_from : List ℕ → List FlatUnit → List TraceText → List UnitText → List TraceText
traces_from text above traces [] = traces
traces_from text above traces (unit ∷ more) = traces_from text (above ++ flat_of text above unit ∷ [])
    (traces ++ trace_with traces (flat_of text above unit) unit.lines ∷ []) more

-- the origins of the last of them
unfoldable pub last_origins : List TraceText → List Origin
last_origins [] = []
last_origins (t ∷ []) = t.origins
last_origins (t ∷ u ∷ ts) = last_origins (u ∷ ts)

-- the origins of the program, which is the last unit
abbrev pub program_origins : List ℕ → List UnitText → List Origin
program_origins text us = last_origins (traces_from text [] [] us)
