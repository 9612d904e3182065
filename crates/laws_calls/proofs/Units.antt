-- The units that a unit uses, and their lines with all that they call replaced.
use Rattle.std.proofs.Common.{◌≡◌, ℕ, suc, ◌+◌, ◌<◌, Bool, true, false, List, [], ◌∷◌, ◌++◌, map, length, Option, Some, None, refl, sym, ap, ◌∙◌, subst, arith, append_assoc, append-nil, length-append}
use Rattle.std.specs.Prelude.{find, option_map, option_and_then, if◌then◌else◌}
use Rattle.std.specs.List.{AllByRecursion}
use Rattle.std.specs.Str.{bytes_eq}
use Rattle.il_model.specs.Words.{split_last}
use Rattle.il_reader.specs.Grammar.{OperandText, Constant, Direct, Named, Field}
use Rattle.il_units.specs.declared.members.Member.{Member}
use Rattle.il_units.specs.declared.word.Line.{Line}
use Rattle.il_units.specs.declared.choices.Choice.{Choice}
use Rattle.il_units.specs.declared.choices.Choice.TheVariants as choices
use Rattle.il_units.specs.Units.{UnitText, LineText}
use Rattle.il_units.specs.Words.{capitals}
use Rattle.il_units.specs.Members.{members_of, member_named}
use Rattle.il_units.specs.Flats.{FlatUnit, unit_named, block_named, block_of, if_block, is_block, Body, no_lines, joined, brought, brought_by, begun_from}
use Rattle.il_units.specs.Choices.{field_type_by, type_of_field, type_of_parts, type_of_name, type_of_operand, type_of_choice, made}
use Rattle.il_units.specs.Expansion.{ScopeText, flat_of, flats_from, line_body, body_from, choice_by}
use Rattle.laws_calls.specs.Calls.{UnitAt, unit_in, used_by, only_block, block_at, declared_by}
use Rattle.laws_calls.proofs.Labels.{all_both}

abbrev pub flat_at : List ℕ → UnitAt → FlatUnit
flat_at text u = flat_of text (flats_from text [] u.above) u.unit

abbrev pub scope_at : List ℕ → UnitAt → ScopeText
scope_at text u = record { text = text; above = flats_from text [] u.above; members = members_of u.unit }

-- ---- flat units in order

flats_append : (text : List ℕ) (above : List FlatUnit) (us vs : List UnitText) → flats_from text above (us ++ vs) ≡ flats_from text (flats_from text above us) vs
unfolding flats_from
flats_append text above [] vs = refl
flats_append text above (u ∷ us) vs = flats_append text (above ++ flat_of text above u ∷ []) us vs

flats_snoc : (text : List ℕ) (us : List UnitText) (u : UnitText) → flats_from text [] us ++ flat_of text (flats_from text [] us) u ∷ [] ≡ flats_from text [] (us ++ u ∷ [])
unfolding flats_from
flats_snoc text us u = sym (flats_append text [] us (u ∷ []))

no_flats : (text : List ℕ) → flats_from text [] [] ≡ []
unfolding flats_from
no_flats text = refl

abbrev more_flats : List ℕ → List FlatUnit → List UnitText → List FlatUnit
more_flats text above [] = []
more_flats text above (u ∷ more) = flat_of text above u ∷ more_flats text (above ++ flat_of text above u ∷ []) more

all_flats : (text : List ℕ) (above : List FlatUnit) (us : List UnitText) → flats_from text above us ≡ above ++ more_flats text above us
unfolding flats_from
all_flats text above [] = sym (append-nil above)
all_flats text above (u ∷ us) = all_flats text (above ++ flat_of text above u ∷ []) us ∙ append_assoc above (flat_of text above u ∷ []) (more_flats text (above ++ flat_of text above u ∷ []) us)

-- ---- the unit of a name

abbrev named : List ℕ → FlatUnit → Bool
named name u = bytes_eq u.name name

found_by : (g : UnitAt → FlatUnit) (b : Bool) (f : FlatUnit) (rest : Option FlatUnit) (v : UnitAt) (more : Option UnitAt) → f ≡ g v → rest ≡ option_map g more
    → (if b then Some f else rest) ≡ option_map g (if b then Some v else more)
found_by g true f rest v more is e = ap Some is
found_by g false f rest v more is e = e

found_flat : (text : List ℕ) (before us : List UnitText) (name : List ℕ) → find (named name) (more_flats text (flats_from text [] before) us) ≡ option_map (flat_at text) (unit_in before us name)
found_flat text before [] name = refl
found_flat text before (u ∷ us) name =
    let more = subst (λ (fs : List FlatUnit). find (named name) (more_flats text fs us) ≡ option_map (flat_at text) (unit_in (before ++ u ∷ []) us name)) (sym (flats_snoc text before u)) (found_flat text (before ++ u ∷ []) us name) in
    found_by (flat_at text) (bytes_eq (capitals u.name.text) name) (flat_of text (flats_from text [] before) u) _ (record { above = before; unit = u }) _ refl more

pub unit_is : (text : List ℕ) (us : List UnitText) (name : List ℕ) → unit_named (flats_from text [] us) name ≡ option_map (flat_at text) (unit_in [] us name)
unit_is text us name =
    let start = subst (λ (fs : List FlatUnit). find (named name) (more_flats text fs us) ≡ option_map (flat_at text) (unit_in [] us name)) (no_flats text) (found_flat text [] us name) in
    ap (find (named name)) (all_flats text [] us) ∙ start

abbrev as_declared : UnitAt → FlatUnit
as_declared v = declared_by v.unit

found_declared : (before us : List UnitText) (name : List ℕ) → find (named name) (map declared_by us) ≡ option_map as_declared (unit_in before us name)
found_declared before [] name = refl
found_declared before (u ∷ us) name =
    found_by as_declared (bytes_eq (capitals u.name.text) name) (declared_by u) _ (record { above = before; unit = u }) _ refl (found_declared (before ++ u ∷ []) us name)

-- ---- the block of an instance

kind_by : (g : UnitAt → FlatUnit) (v : UnitAt) (b : Bool) → (if b then Some (g v) else None) ≡ option_map g (if b then Some v else None)
kind_by g v true = refl
kind_by g v false = refl

if_flat : (text : List ℕ) (o : Option UnitAt) → option_and_then if_block (option_map (flat_at text) o) ≡ option_map (flat_at text) (option_and_then only_block o)
if_flat text None = refl
if_flat text (Some v) = kind_by (flat_at text) v (is_block v.unit.kind)

if_declared : (o : Option UnitAt) → option_and_then if_block (option_map as_declared o) ≡ option_map as_declared (option_and_then only_block o)
if_declared None = refl
if_declared (Some v) = kind_by as_declared v (is_block v.unit.kind)

block_by : (text : List ℕ) (u : UnitAt) (o : Option Member) → option_and_then (λ (m : Member). block_named (flats_from text [] u.above) m.ty.text) o ≡ option_map (flat_at text) (option_and_then (λ (m : Member). option_and_then only_block (used_by u m.ty.text)) o)
block_by text u None = refl
block_by text u (Some m) = ap (option_and_then if_block) (unit_is text u.above m.ty.text) ∙ if_flat text (used_by u m.ty.text)

pub block_is : (text : List ℕ) (u : UnitAt) (name : List ℕ) → block_of (flats_from text [] u.above) (members_of u.unit) name ≡ option_map (flat_at text) (block_at u name)
block_is text u name = block_by text u (member_named (members_of u.unit) name)

declared_block : (u : UnitAt) (o : Option Member) → option_and_then (λ (m : Member). block_named (map declared_by u.above) m.ty.text) o ≡ option_map as_declared (option_and_then (λ (m : Member). option_and_then only_block (used_by u m.ty.text)) o)
declared_block u None = refl
declared_block u (Some m) = ap (option_and_then if_block) (found_declared [] u.above m.ty.text) ∙ if_declared (used_by u m.ty.text)

-- ---- which units are used

used_so : (P : UnitText → Type 0) (before us : List UnitText) (u : UnitText) (v w : UnitAt) (b : Bool) (more : Option UnitAt)
    → w ≡ record { above = before; unit = u } → (if b then Some w else more) ≡ Some v → AllByRecursion P before → P u
    → (more ≡ Some v → AllByRecursion P v.above × P v.unit × (length v.above < length before + suc (length us)))
    → AllByRecursion P v.above × P v.unit × (length v.above < length before + suc (length us))
used_so P before us u v w true more is e all good next =
    let same : record { above = before; unit = u } ≡ v = cc in
    subst (λ (x : UnitAt). AllByRecursion P x.above × P x.unit × (length x.above < length before + suc (length us))) same (all, good, omega arith)
used_so P before us u v w false more is e all good next = next e

pub used_good : (P : UnitText → Type 0) (before us : List UnitText) (name : List ℕ) (v : UnitAt) → unit_in before us name ≡ Some v → AllByRecursion P before → AllByRecursion P us
    → AllByRecursion P v.above × P v.unit × (length v.above < length before + length us)
used_good P before [] name v e all more = absurd cc
used_good P before (u ∷ us) name v e all more =
    used_so P before us u v (record { above = before; unit = u }) (bytes_eq (capitals u.name.text) name) (unit_in (before ++ u ∷ []) us name) refl e all more.0
    (λ (e : unit_in (before ++ u ∷ []) us name ≡ Some v). let r = used_good P (before ++ u ∷ []) us name v e (all_both P before (u ∷ []) all (more.0, tt)) more.1 in
    (r.0, r.1, omega (arith, r.2, length-append before (u ∷ []))))

block_used : (u : UnitAt) (o : Option Member) (v : UnitAt) → option_and_then (λ (m : Member). option_and_then only_block (used_by u m.ty.text)) o ≡ Some v → (name : List ℕ) × (used_by u name ≡ Some v)
block_used u None v e = absurd cc
block_used u (Some m) v e = (m.ty.text, from_only (used_by u m.ty.text) v e)
  where
    by_kind : (x v : UnitAt) (b : Bool) → (if b then Some x else None) ≡ Some v → Some x ≡ Some v
    by_kind x v true e = e
    by_kind x v false e = absurd cc

    from_only : (o : Option UnitAt) (v : UnitAt) → option_and_then only_block o ≡ Some v → o ≡ Some v
    from_only None v e = absurd cc
    from_only (Some x) v e = by_kind x v (is_block x.unit.kind) e

pub block_at_used : (u : UnitAt) (name : List ℕ) (v : UnitAt) → block_at u name ≡ Some v → (word : List ℕ) × (used_by u word ≡ Some v)
block_at_used u name v e = block_used u (member_named (members_of u.unit) name) v e

-- ---- types of choices need no lines

field_same : (text : List ℕ) (ms : List Member) (x field : List ℕ) (o : Option UnitAt) → field_type_by (option_map (flat_at text) o) ms x field ≡ field_type_by (option_map as_declared o) ms x field
field_same text ms x field None = refl
field_same text ms x field (Some v) = refl

type_field : (text : List ℕ) (u : UnitAt) (x field : List ℕ) → type_of_field (flats_from text [] u.above) (members_of u.unit) x field ≡ type_of_field (map declared_by u.above) (members_of u.unit) x field
type_field text u x field =
    ap (λ (o : Option FlatUnit). field_type_by o (members_of u.unit) x field) (block_is text u x)
    ∙ field_same text (members_of u.unit) x field (block_at u x)
    ∙ sym (ap (λ (o : Option FlatUnit). field_type_by o (members_of u.unit) x field) (declared_block u (member_named (members_of u.unit) x)))

type_parts : (text : List ℕ) (u : UnitAt) (o : Option (List ℕ × List ℕ)) → type_of_parts (flats_from text [] u.above) (members_of u.unit) o ≡ type_of_parts (map declared_by u.above) (members_of u.unit) o
type_parts text u None = refl
type_parts text u (Some (x, field)) = type_field text u x field

type_name : (text : List ℕ) (u : UnitAt) (name : List ℕ) (o : Option Member) → type_of_name (flats_from text [] u.above) (members_of u.unit) name o ≡ type_of_name (map declared_by u.above) (members_of u.unit) name o
type_name text u name None = type_parts text u (split_last name)
type_name text u name (Some m) = refl

type_operand : (text : List ℕ) (u : UnitAt) (x : OperandText) → type_of_operand (flats_from text [] u.above) (members_of u.unit) x ≡ type_of_operand (map declared_by u.above) (members_of u.unit) x
type_operand text u (Constant t) = refl
type_operand text u (Direct t) = refl
type_operand text u (Named t) = type_name text u (capitals t.text) (member_named (members_of u.unit) (capitals t.text))
type_operand text u (Field t f) = type_field text u (capitals t.text) (capitals f.text)

type_choice : (text : List ℕ) (u : UnitAt) (xs : List OperandText) → type_of_choice (flats_from text [] u.above) (members_of u.unit) xs ≡ type_of_choice (map declared_by u.above) (members_of u.unit) xs
unfolding type_of_choice
type_choice text u [] = refl
type_choice text u (x ∷ xs) = rw (type_choice text u xs, type_operand text u x) refl

made_same : (text : List ℕ) (u : UnitAt) (call : List ℕ) (xs : List OperandText) (left : ℕ) (choice : Choice)
    → made choice (flats_from text [] u.above) (members_of u.unit) call xs left ≡ made choice (map declared_by u.above) (members_of u.unit) call xs left
made_same text u call xs left choices.Limit = refl
made_same text u call xs left choices.Sel = rw (type_choice text u xs) refl
made_same text u call xs left choices.Mux = rw (type_choice text u xs) refl

pub choice_same : (text : List ℕ) (u : UnitAt) (call : List ℕ) (xs : List OperandText) (left : ℕ) (o : Option Choice)
    → choice_by o (scope_at text u) call xs left ≡ choice_by o (record { text = text; above = map declared_by u.above; members = members_of u.unit }) call xs left
choice_same text u call xs left None = refl
choice_same text u call xs left (Some choice) = made_same text u call xs left choice

-- ---- the lines of a unit, line by line

abbrev pub lines_in : ScopeText → ℕ → List LineText → List Line
lines_in s k [] = []
lines_in s k (l ∷ ls) = (line_body s k l).lines ++ lines_in s (suc k) ls

body_lines : (s : ScopeText) (b : Body) (k : ℕ) (ls : List LineText) → (body_from s b k ls).lines ≡ b.lines ++ lines_in s k ls
unfolding body_from
body_lines s b k [] = sym (append-nil b.lines)
body_lines s b k (l ∷ ls) = body_lines s (joined b (line_body s k l)) (suc k) ls ∙ append_assoc b.lines (line_body s k l).lines (lines_in s (suc k) ls)

brought_lines : (o : Option FlatUnit) (left : ℕ) → (brought_by o left).lines ≡ []
brought_lines None left = refl
brought_lines (Some block) left = refl

begun_lines : (above : List FlatUnit) (b : Body) (ms : List Member) → (begun_from above b ms).lines ≡ b.lines
unfolding begun_from
begun_lines above b [] = refl
begun_lines above b (m ∷ ms) = begun_lines above (joined b (brought above m)) ms ∙ ap (λ (ls : List Line). b.lines ++ ls) (brought_lines (block_named above m.ty.text) m.name.left) ∙ append-nil b.lines

pub unit_lines : (text : List ℕ) (u : UnitAt) → (flat_at text u).lines ≡ lines_in (scope_at text u) 1 u.unit.lines
unit_lines text u =
    body_lines (scope_at text u) (begun_from (flats_from text [] u.above) no_lines (members_of u.unit)) 1 u.unit.lines
    ∙ ap (λ (ls : List Line). ls ++ lines_in (scope_at text u) 1 u.unit.lines) (begun_lines (flats_from text [] u.above) no_lines (members_of u.unit))
