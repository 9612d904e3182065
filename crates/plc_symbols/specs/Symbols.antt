-- What a program's names are to whoever reads and writes its plant: their types, their places, and where Modbus has them.
use Rattle.std.specs.Prelude.{ℕ, ◌/◌, ◌%◌, List, ◌++◌, Option, None, Some, codes}
use Rattle.std.specs.List.{flat_map}
use Rattle.std.specs.Fmt.{decimal}
use Rattle.il_model.specs.declared.program.Area.{Area}
use Rattle.il_model.specs.declared.program.Area.TheVariants.{Input, Output, Memory}
use Rattle.il_model.specs.declared.program.Loc.{Loc}
use Rattle.il_model.specs.declared.program.Loc.TheVariants.{Bit, Word, Pattern, Double}
use Rattle.il_model.specs.declared.program.Variable.{Variable}
use Rattle.il_model.specs.Program.{Program}
use Rattle.il_lister.specs.Listing.{area_letter, type_name}

-- %IX0.3, %QW7, %MD4 (IEC 61131-3:2003, 2.4.1.1)
abbrev pub place_text : Loc → List ℕ
place_text (Bit area n) =
    codes "%" ++ area_letter area ++ codes "X" ++ decimal (n / 8) ++ codes "." ++ decimal (n % 8)
place_text (Word area n) = codes "%" ++ area_letter area ++ codes "W" ++ decimal n
place_text (Pattern area n) = codes "%" ++ area_letter area ++ codes "W" ++ decimal n
place_text (Double area n t) = codes "%" ++ area_letter area ++ codes "D" ++ decimal n

-- the table of Modbus that has it, and its address there, that of the first of two registers for a double word; nothing
-- of a marker
abbrev pub bit_table : Area → ℕ → List ℕ
bit_table Input n = codes "coil," ++ decimal n
bit_table Output n = codes "discrete input," ++ decimal n
bit_table Memory n = codes ","

abbrev pub word_table : Area → ℕ → List ℕ
word_table Input n = codes "holding register," ++ decimal n
word_table Output n = codes "input register," ++ decimal n
word_table Memory n = codes ","

abbrev pub table_text : Loc → List ℕ
table_text (Bit area n) = bit_table area n
table_text (Word area n) = word_table area n
table_text (Pattern area n) = word_table area n
table_text (Double area n t) = word_table area n

-- place, table and address; of a variable that has no place none of these
abbrev pub columns : Option Loc → List ℕ
columns None = codes ",,"
columns (Some loc) = place_text loc ++ codes "," ++ table_text loc

-- a variable's line: name, type, place, table, address
abbrev pub symbol_line : Variable → List ℕ
symbol_line v = v.name ++ codes "," ++ type_name v.ty ++ codes "," ++ columns v.location ++ codes "\n"

-- a program's variables, in the order in which they are declared: comma-separated values (RFC 4180, but for its line
-- ends, which are LF alone)
abbrev pub symbols_text : Program → List ℕ
symbols_text Q = codes "name,type,place,table,address\n" ++ flat_map symbol_line Q.variables
