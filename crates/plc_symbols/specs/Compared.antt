-- What a change from one program to another does to the names of both.
use Rattle.std.specs.Prelude.{ℕ, Bool, true, false, List, [], ◌++◌, Option, None, Some, codes, bytes_eq, find, if◌then◌else◌}
use Rattle.std.specs.List.{flat_map, list_any}
use Rattle.il_model.specs.declared.program.Loc.{Loc}
use Rattle.il_model.specs.declared.program.Variable.{Variable}
use Rattle.il_model.specs.declared.program.Instance.{Instance}
use Rattle.il_model.specs.Kinds.{kind_name}
use Rattle.il_model.specs.Program.{Program}
use Rattle.il_model.specs.Image.{spelling}
use Rattle.il_lister.specs.Listing.{type_name}
use Rattle.ctl_model.specs.State.{has_own}
use Rattle.ctl_model.specs.Changes.{goes_on, goes_on_as}
use Rattle.plc_symbols.specs.Symbols.{place_text}

-- what is written behind a name that lies at a place
abbrev pub at_place : Option Loc → List ℕ
at_place None = []
at_place (Some loc) = codes " AT " ++ place_text loc

-- what is written behind a type or a kind where what has it is retained
abbrev pub retained_text : Bool → List ℕ
retained_text true = codes " RETAIN"
retained_text false = []

-- LAST : INT, PUMP AT %QX0.0 : BOOL, HOURS : DINT RETAIN, REST : TON
abbrev pub variable_text : Variable → List ℕ
variable_text v = v.name ++ at_place v.location ++ codes " : " ++ type_name v.ty ++ retained_text v.retained

abbrev pub instance_text : Instance → List ℕ
instance_text x = x.name ++ codes " : " ++ kind_name x.kind ++ retained_text x.retained

-- what is written behind that of a name that goes on, by whether it was retained and whether it is now
abbrev pub turned_text : Bool → Bool → List ℕ
turned_text false true = codes ", not retained before"
turned_text true false = codes ", retained before"
turned_text before now = []

-- where a variable of the new program has its value from: the cell at its place; a variable of the old one; its first
-- value
abbrev pub source_of : List Variable → Variable → List ℕ
source_of old v = if has_own v
    then (if list_any (λ u. goes_on u v) old then codes "goes on  " else codes "begins   ")
    else codes "at place "

abbrev pub source_of_instance : List Instance → Instance → List ℕ
source_of_instance old y = if list_any (λ x. goes_on_as x y) old then codes "goes on  " else codes "begins   "

-- whether that from which a variable, or an instance, goes on was retained; as it is now where it goes on from none
abbrev pub retained_of : Option Variable → Bool → Bool
retained_of None now = now
retained_of (Some u) now = u.retained

abbrev pub retained_of_instance : Option Instance → Bool → Bool
retained_of_instance None now = now
retained_of_instance (Some x) now = x.retained

abbrev pub was_retained : List Variable → Variable → Bool
was_retained old v = retained_of (find (λ u. goes_on u v) old) v.retained

abbrev pub was_retained_instance : List Instance → Instance → Bool
was_retained_instance old y = retained_of_instance (find (λ x. goes_on_as x y) old) y.retained

abbrev pub variable_line : List Variable → Variable → List ℕ
variable_line old v =
    source_of old v ++ variable_text v ++ turned_text (was_retained old v) v.retained ++ codes "\n"

abbrev pub instance_line : List Instance → Instance → List ℕ
instance_line old y = source_of_instance old y ++ instance_text y
    ++ turned_text (was_retained_instance old y) y.retained ++ codes "\n"

-- a variable of the old program that goes on as none of the new one; what lies at a place stays there
abbrev pub ended_line : List Variable → Variable → List ℕ
ended_line new u = if has_own u
    then (if list_any (λ v. goes_on u v) new then [] else codes "ends     " ++ variable_text u ++ codes "\n")
    else []

abbrev pub ended_instance_line : List Instance → Instance → List ℕ
ended_instance_line new x =
    if list_any (λ y. goes_on_as x y) new then [] else codes "ends     " ++ instance_text x ++ codes "\n"

-- whether two programs are the same: their declarations, names and instructions, as the bytes of their images spell them
abbrev pub verdict_text : Program → Program → List ℕ
verdict_text Q R = if bytes_eq (spelling Q) (spelling R) then codes "same program\n" else codes "another program\n"

-- that, all names of the new program, and then those of the old one that go on as none of it
abbrev pub compared_text : Program → Program → List ℕ
compared_text Q R = verdict_text Q R
    ++ flat_map (variable_line Q.variables) R.variables
    ++ flat_map (instance_line Q.instances) R.instances
    ++ flat_map (ended_line R.variables) Q.variables
    ++ flat_map (ended_instance_line R.instances) Q.instances
