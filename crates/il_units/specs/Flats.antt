-- A unit with all that it calls replaced.
use Rattle.std.specs.Prelude.{ℕ, ◌+◌, List, [], ◌∷◌, ◌++◌, map, find, Option, Some, None, option_and_then, Bool, true}
use Rattle.std.specs.Prelude.{false, nat_lt}
use Rattle.std.specs.Prelude.{if◌then◌else◌}
use Rattle.std.specs.List.{list_any}
use Rattle.std.specs.Str.{bytes_eq}
use Rattle.il_units.specs.declared.contents.UnitKind.{UnitKind}
use Rattle.il_units.specs.declared.contents.UnitKind.TheVariants as units
use Rattle.il_units.specs.declared.contents.SectionKind.{SectionKind}
use Rattle.il_units.specs.declared.contents.SectionKind.TheVariants as sections
use Rattle.il_units.specs.declared.word.Sort.TheVariants as sorts
use Rattle.il_units.specs.declared.word.Line.{Line}
use Rattle.il_units.specs.declared.word.Entry.{Entry}
use Rattle.il_units.specs.declared.flat.TheConstants.{MOST_DEPTH}
use Rattle.il_units.specs.declared.members.Member.{Member}
use Rattle.il_units.specs.Words.{Placing, placed_entry, moved_entry}
use Rattle.il_units.specs.Members.{member_named, entry_of}

-- A unit with all that it calls replaced, in names of its own: the variables of the functions that it uses, its
-- VAR_IN_OUT, all other variables and instances with those under its own instances, and its lines; and how many units
-- stand in each other there.
pub record FlatUnit : Type 0 where
  pub kind : UnitKind
  pub name : List ℕ
  pub members : List Member
  pub shared : List Entry
  pub bound : List Entry
  pub declared : List Entry
  pub lines : List Line
  pub depth : ℕ

-- the unit of a name, among those above
abbrev pub unit_named : List FlatUnit → List ℕ → Option FlatUnit
unit_named above name = find (λ (u : FlatUnit). bytes_eq u.name name) above

abbrev pub is_block : UnitKind → Bool
is_block units.FunctionBlock = true
is_block kind = false

abbrev pub if_block : FlatUnit → Option FlatUnit
if_block u = if is_block u.kind then Some u else None

-- the block of a name
abbrev pub block_named : List FlatUnit → List ℕ → Option FlatUnit
block_named above name = option_and_then if_block (unit_named above name)

-- the own block of which the member of a name is an instance
abbrev pub block_of : List FlatUnit → List Member → List ℕ → Option FlatUnit
block_of above members name =
    option_and_then (λ (m : Member). block_named above m.ty.text) (member_named members name)

-- ---- what a unit declares

-- what stands under an instance of an own block
abbrev pub under_instance : Member → FlatUnit → List Entry
under_instance m block = let at : Placing = record {
  front = m.name.text;
  sort = sorts.Own;
  call = [];
  given = [];
  left = m.name.left;
} in map (placed_entry at m.retained) block.declared

abbrev pub declared_by : Option FlatUnit → Member → List Entry
declared_by None m = entry_of m ∷ []
declared_by (Some block) m = under_instance m block

-- a constant is declared nowhere, and a VAR_IN_OUT only where its unit stands alone
abbrev pub declared_as : SectionKind → List FlatUnit → Member → List Entry
declared_as sections.Constant above m = []
declared_as sections.InOut above m = []
declared_as kind above m = declared_by (block_named above m.ty.text) m

abbrev pub declared_in : List FlatUnit → Member → List Entry
declared_in above m = declared_as m.kind above m

abbrev pub bound_as : SectionKind → Member → List Entry
bound_as sections.InOut m = entry_of m ∷ []
bound_as kind m = []

abbrev pub bound_in : Member → List Entry
bound_in m = bound_as m.kind m

-- ---- what lines come to

-- What lines come to: what all uses of the functions share that they use, the lines, and how many units stand in each
-- other below.
pub record Body : Type 0 where
  pub shared : List Entry
  pub lines : List Line
  pub depth : ℕ

abbrev pub no_lines : Body
no_lines = record { shared = []; lines = []; depth = 0 }

abbrev pub only_lines : List Line → Body
only_lines ls = record { shared = []; lines = ls; depth = 0 }

abbrev pub declares : List ℕ → Entry → Bool
declares name e = bytes_eq e.name.text name

abbrev pub is_known : List Entry → Entry → Bool
is_known known e = list_any (declares e.name.text) known

abbrev pub with_new : List Entry → Entry → List Entry
with_new known e = if is_known known e then known else known ++ e ∷ []

-- what all uses of a function share is declared once
unfoldable pub with_shared : List Entry → List Entry → List Entry
with_shared known [] = known
with_shared known (e ∷ es) = with_shared (with_new known e) es

-- one more of them, of which no more are counted
abbrev pub one_deeper : ℕ → ℕ
one_deeper depth = if nat_lt depth MOST_DEPTH then depth + 1 else depth

abbrev pub greater : ℕ → ℕ → ℕ
greater m n = if nat_lt m n then n else m

-- the one behind the other
abbrev pub joined : Body → Body → Body
joined b more = record {
  shared = with_shared b.shared more.shared;
  lines = b.lines ++ more.lines;
  depth = greater b.depth more.depth;
}

-- what a block brings that there is an instance of
abbrev pub brought_by : Option FlatUnit → ℕ → Body
brought_by None left = no_lines
brought_by (Some block) left =
    record { shared = map (moved_entry left) block.shared; lines = []; depth = block.depth }

abbrev pub brought : List FlatUnit → Member → Body
brought above m = brought_by (block_named above m.ty.text) m.name.left

-- before its first line: what the blocks of its instances bring
unfoldable pub begun_from : List FlatUnit → Body → List Member → Body
begun_from above b [] = b
begun_from above b (m ∷ ms) = begun_from above (joined b (brought above m)) ms
