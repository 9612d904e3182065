-- The faults of a text stand in the order of the text, and at one place in the order of their numbers.
use Rattle.std.proofs.Common.{◌≡◌, inl, inr, ℕ, suc, ◌<◌, ◌≤◌, Bool, true, false, List, [], ◌∷◌, ◌++◌, length, map, Option, Some, None, refl, sym, ap, subst, arith, not, append_assoc, ◌||◌}
use Rattle.std.specs.Prelude.{is_none}
use Rattle.std.specs.List.{flat_map, AllByRecursion}
use Rattle.std.proofs.lemmas.List.{append-nil}
use Rattle.il_model.specs.declared.dialect.Dialect.{Dialect}
use Rattle.il_model.specs.Dialects.{literal_in, location_in}
use Rattle.il_model.specs.declared.program.Loc.{Loc}
use Rattle.il_model.specs.declared.program.Side.{Side}
use Rattle.il_model.specs.declared.program.Side.TheVariants as sides
use Rattle.il_model.specs.Words.{is_reserved, split_last}
use Rattle.il_reader.specs.Tokens.{Token}
use Rattle.il_reader.specs.Grammar.{BlockText, is_retained, OperandText, Constant, Direct, Named, Field, BehindText, Nothing, Given, Target, Opened, Called, ArgumentText, written_arguments, OperationText, LineText, Labelled, Plain, NamesText, Located, More, DeclarationText, ProgramText, ends_names, ends_block, ends_blocks, ends_lines, ends_named, ends_arguments, is_line_stop}
use Rattle.il_reader.specs.Spelling.{spelled_qualifier, Part, breaks, ahead, Says, spelled_operand, spelled_inner_operand, spelled_side, spelled_argument, spelled_next, spelled_inside, spelled_arguments, spelled_behind, spelled_operation, spelled_optional_operation, spelled_line, spelled_name, spelled_names, spelled_initial, spelled_declaration, spelled_block, spelled_program, spelled_by, going, listed}
use Rattle.il_declarations.specs.declared.variables.DeclaredType.{DeclaredType}
use Rattle.il_declarations.specs.declared.variables.DeclaredType.TheVariants.{Elementary, Block}
use Rattle.il_declarations.specs.declared.fault.DeclKind.{DeclKind}
use Rattle.il_declarations.specs.declared.fault.DeclKind.TheVariants as kinds
use Rattle.il_declarations.specs.declared.fault.FaultAt.{FaultAt}
use Rattle.il_declarations.specs.FirstFault.{kind_number, IsNoLater}
use Rattle.il_declarations.specs.Resolution.{capitals, suits, written_value}
use Rattle.il_declarations.specs.Declaring.{DeclaredName, BlockDeclaration, in_block, declarations_in, named_in, other_names, names_in, names_of, type_in, written_location, is_declared, names_variable, names_instance, arguments_behind, is_shadowed}
use Rattle.il_declarations.specs.TextFaults.{has_no_room, is_past_room, is_overlapping, names_field}
use Rattle.il_declarations.proofs.Agreeing.{beside_append}
use Rattle.il_declarations.proofs.FaultList.{when, beside, name_faults, place_faults, location_faults, start_faults, declaration_faults, operand_faults, behind_faults, operation_faults, line_faults, faults_of, Among}
use Rattle.il_declarations.proofs.Falling.{Falls, split, at_most, text_falls, operator_at}

-- each is told no later than all behind it
abbrev pub InOrder : List FaultAt → Type 0
InOrder [] = Unit {0}
InOrder (f ∷ fs) = AllByRecursion (IsNoLater f) fs × InOrder fs

abbrev Between : ℕ → ℕ → FaultAt → Type 0
Between n m f = (m ≤ f.left) × (f.left < n)

-- faults that stand behind the first number and not behind the second, in order
pub record Ordered (n : ℕ) (fs : List FaultAt) (m : ℕ) : Type 0 where
  pub most : m ≤ n
  pub inside : AllByRecursion (Between n m) fs
  pub order : InOrder fs

all_map : {X : Type 0} (P Q : X → Type 0) → ((x : X) → P x → Q x) → (xs : List X) → AllByRecursion P xs → AllByRecursion Q xs
all_map P Q f [] all = tt
all_map P Q f (x ∷ xs) all = (f x all.0, all_map P Q f xs all.1)

all_both : {X : Type 0} (P : X → Type 0) (xs ys : List X) → AllByRecursion P xs → AllByRecursion P ys → AllByRecursion P (xs ++ ys)
all_both P [] ys a b = b
all_both P (x ∷ xs) ys a b = (a.0, all_both P xs ys a.1 b)

pub none : (n m : ℕ) → m ≤ n → Ordered n [] m
none n m le = record { most = le; inside = tt; order = tt }

order_both : (n k m : ℕ) (fs gs : List FaultAt) → AllByRecursion (Between n k) fs → InOrder fs → AllByRecursion (Between k m) gs → InOrder gs → InOrder (fs ++ gs)
order_both n k m [] gs a o b p = p
order_both n k m (f ∷ fs) gs a o b p =
    let above = a.0.0 in
    (all_both (IsNoLater f) fs gs o.0 (all_map (Between k m) (IsNoLater f) (λ g h. let below = h.1 in inl (omega arith)) gs b), order_both n k m fs gs a.1 o.1 b p)

pub both : (n k m : ℕ) (fs gs : List FaultAt) → Ordered n fs k → Ordered k gs m → Ordered n (fs ++ gs) m
both n k m fs gs a b =
    let high = a.most in
    let low = b.most in
    record {
      most = omega arith;
      inside = all_both (Between n m) fs gs
          (all_map (Between n k) (Between n m) (λ f h. let l = h.0 in let u = h.1 in (omega arith, omega arith)) fs a.inside)
          (all_map (Between k m) (Between n m) (λ f h. let l = h.0 in let u = h.1 in (omega arith, omega arith)) gs b.inside);
      order = order_both n k m fs gs a.inside a.order b.inside b.order;
    }

-- a narrower place fits a wider one
wider : (n k m : ℕ) (fs : List FaultAt) → Ordered n fs k → m ≤ k → Ordered n fs m
wider n k m fs a le =
    let high = a.most in
    record { most = omega arith; inside = all_map (Between n k) (Between n m) (λ f h. let l = h.0 in let u = h.1 in (omega arith, omega arith)) fs a.inside; order = a.order }

earlier : (n k m : ℕ) (fs : List FaultAt) → Ordered k fs m → k ≤ n → Ordered n fs m
earlier n k m fs a le =
    let high = a.most in
    record { most = omega arith; inside = all_map (Between k m) (Between n m) (λ f h. let l = h.0 in let u = h.1 in (omega arith, omega arith)) fs a.inside; order = a.order }

-- ---- faults at one token

one_fault : (n left : ℕ) (a : Bool) (kind : DeclKind) → left < n → Ordered n (when a kind left) left
one_fault n left true kind lt = record { most = omega arith; inside = ((omega arith, lt), tt); order = (tt, tt) }
one_fault n left false kind lt = none n left (omega arith)

-- more faults at the same token, of no smaller numbers
more_faults : (n left : ℕ) (a : Bool) (kind : DeclKind) (fs : List FaultAt) → left < n → Ordered n fs left → AllByRecursion (λ g. (left ≡ g.left) × (kind_number kind ≤ kind_number g.kind)) fs → Ordered n (when a kind left ++ fs) left
more_faults n left true kind fs lt o same = record { most = o.most; inside = ((omega arith, lt), o.inside); order = (all_map _ (IsNoLater (record { kind = kind; left = left })) (λ g h. inr h) fs same, o.order) }
more_faults n left false kind fs lt o same = o

here : (P : FaultAt → Type 0) (a : Bool) (kind : DeclKind) (left : ℕ) → P (record { kind = kind; left = left }) → AllByRecursion P (when a kind left)
here P true kind left p = (p, tt)
here P false kind left p = tt

name_ordered : (dialect : Dialect) → (n : ℕ) (before : List DeclaredName) (x : DeclaredName) → x.name.left < n → Ordered n (name_faults dialect before x) x.name.left
name_ordered dialect n before x lt =
    let left = x.name.left in
    let many = has_no_room dialect (type_in dialect x.by) before in
    let reserved = is_reserved (capitals x.name.text) in
    more_faults n left (is_declared before (capitals x.name.text) || is_shadowed dialect before x) kinds.Duplicate (when reserved kinds.ReservedName left ++ when many kinds.TooMany left) lt
    (more_faults n left reserved kinds.ReservedName (when many kinds.TooMany left) lt (one_fault n left many kinds.TooMany lt) (here _ many kinds.TooMany left (refl, omega arith)))
    (all_both _ (when reserved kinds.ReservedName left) (when many kinds.TooMany left) (here _ reserved kinds.ReservedName left (refl, omega arith)) (here _ many kinds.TooMany left (refl, omega arith)))

place_ordered : (dialect : Dialect) → (n : ℕ) (before : List DeclaredName) (type : Option DeclaredType) (t : Token) (o : Option Loc) → t.left < n → Ordered n (place_faults dialect before type t o) t.left
place_ordered dialect n before type t None lt = one_fault n t.left true kinds.BadLocation lt
place_ordered dialect n before type t (Some loc) lt =
    let taken = is_overlapping dialect before (Some loc) in
    more_faults n t.left (not (suits type loc)) kinds.BadLocation (when taken kinds.Overlap t.left) lt (one_fault n t.left taken kinds.Overlap lt) (here _ taken kinds.Overlap t.left (refl, omega arith))

-- ---- lists

-- what each thing of a list has stands where its parts stand
beside_ordered : {X Y : Type 0} (s : X → List Part) (g : X → Y) (fs : List Y → Y → List FaultAt) → ((before : List Y) (x : X) (n m : ℕ) → Falls n (s x) m → Ordered n (fs before (g x)) m)
    → (before : List Y) (xs : List X) (n m : ℕ) → Falls n (flat_map s xs) m → Ordered n (beside fs before (map g xs)) m
unfolding beside
beside_ordered s g fs each before [] n m falls = none n m falls
beside_ordered s g fs each before (x ∷ xs) n m falls =
    let h = split n (s x) (flat_map s xs) m falls in
    both n h.0 m (fs before (g x)) (beside fs (before ++ g x ∷ []) (map g xs)) (each before x n h.0 h.1) (beside_ordered s g fs each (before ++ g x ∷ []) xs h.0 m h.2)

map_same : {X : Type 0} (xs : List X) → map (λ x. x) xs ≡ xs
map_same [] = refl
map_same (x ∷ xs) = ap (λ (ys : List _). x ∷ ys) (map_same xs)

items_ordered : {X : Type 0} (s : X → List Part) (fs : List X → X → List FaultAt) → ((before : List X) (x : X) (n m : ℕ) → Falls n (s x) m → Ordered n (fs before x) m)
    → (before xs : List X) (n m : ℕ) → Falls n (flat_map s xs) m → Ordered n (beside fs before xs) m
items_ordered s fs each before xs n m falls = subst (λ (ys : List _). Ordered n (beside fs before ys) m) (map_same xs) (beside_ordered s (λ x. x) fs each before xs n m falls)

-- ---- declarations

other_ordered : (dialect : Dialect) → (d : BlockDeclaration) (before : List DeclaredName) (t : Token) (n m : ℕ) → Falls n (spelled_name t) m → Ordered n (name_faults dialect before (named_in d t)) m
other_ordered dialect d before t n m falls = wider n t.left m _ (name_ordered dialect n before (named_in d t) falls.0) falls.1

abbrev names_and_place : (dialect : Dialect) → BlockDeclaration → List DeclaredName → NamesText → List FaultAt
names_and_place dialect d before x = beside (name_faults dialect) before (map (named_in d) (d.text.name ∷ other_names x)) ++ location_faults dialect before (type_in dialect d.text) x

names_ordered : (dialect : Dialect) → (d : BlockDeclaration) (before : List DeclaredName) (x : NamesText) (n m : ℕ) → d.text.name.left < n → Falls d.text.name.left (spelled_names x) m → Ordered n (names_and_place dialect d before x) m
unfolding beside
names_ordered dialect d before (Located at) n m lt falls =
    both n d.text.name.left m _ _
    (subst (λ (fs : List FaultAt). Ordered n fs d.text.name.left) (sym (append-nil (name_faults dialect before (named_in d d.text.name)))) (name_ordered dialect n before (named_in d d.text.name) lt))
    (wider d.text.name.left at.left m _ (place_ordered dialect d.text.name.left before (type_in dialect d.text) at (location_in dialect at.text) falls.0) falls.1)
names_ordered dialect d before (More ts) n m lt falls =
    let h = split d.text.name.left (flat_map spelled_name ts) (ahead ends_names ∷ []) m falls in
    subst (λ (fs : List FaultAt). Ordered n fs m) (sym (append-nil (beside (name_faults dialect) before (map (named_in d) (d.text.name ∷ ts)))))
    (wider n h.0 m _
    (both n d.text.name.left h.0 _ _ (name_ordered dialect n before (named_in d d.text.name) lt) (beside_ordered spelled_name (named_in d) (name_faults dialect) (other_ordered dialect d) (before ++ named_in d d.text.name ∷ []) ts d.text.name.left h.0 h.1))
    h.2)

start_ordered : (dialect : Dialect) → (n m : ℕ) (loc : Option Loc) (o : Option Token) (type : Option DeclaredType) → Falls n (spelled_initial o) m → Ordered n (start_faults dialect loc o type) m
start_ordered dialect n m loc None type falls = none n m falls
start_ordered dialect n m loc (Some t) None falls = none n m (at_most n (spelled_initial (Some t)) m falls)
start_ordered dialect n m loc (Some t) (Some (Elementary type)) falls = wider n t.left m _ (one_fault n t.left (is_none (written_value dialect type loc t)) kinds.BadInitial falls.0) falls.1
start_ordered dialect n m loc (Some t) (Some (Block kind)) falls = wider n t.left m _ (one_fault n t.left true kinds.BadInitial falls.0) falls.1

declaration_ordered : (dialect : Dialect) → (before : List BlockDeclaration) (d : BlockDeclaration) (n m : ℕ) → Falls n (going ends_block spelled_declaration d.text) m → Ordered n (declaration_faults dialect (flat_map names_in before) d) m
declaration_ordered dialect before d n m falls =
    let seen = flat_map names_in before in
    let h = split d.text.name.left (spelled_names d.text.names) _ m falls.1 in
    let k = split d.text.ty.left (spelled_initial d.text.initial) _ m h.2.1 in
    subst (λ (fs : List FaultAt). Ordered n fs m) (append_assoc (beside (name_faults dialect) seen (names_in d)) (location_faults dialect seen (type_in dialect d.text) d.text.names) _)
    (both n h.0 m _ _ (names_ordered dialect d seen d.text.names n h.0 falls.0 h.1)
    (both h.0 d.text.ty.left m _ _ (one_fault h.0 d.text.ty.left (is_none (type_in dialect d.text)) kinds.UnknownType h.2.0)
    (wider d.text.ty.left k.0 m _ (start_ordered dialect d.text.ty.left k.0 (written_location dialect d.text.names) d.text.initial (type_in dialect d.text) k.1) k.2)))

abbrev of_declaration : (dialect : Dialect) → List BlockDeclaration → BlockDeclaration → List FaultAt
of_declaration dialect before d = declaration_faults dialect (flat_map names_in before) d

-- the declarations of a block, as they are spelled
in_block_falls : (r : Bool) (ds : List DeclarationText) → flat_map (λ (d : BlockDeclaration). going ends_block spelled_declaration d.text) (map (in_block r) ds) ≡ flat_map (going ends_block spelled_declaration) ds
in_block_falls r [] = refl
in_block_falls r (d ∷ ds) = ap (λ (ps : List Part). going ends_block spelled_declaration d ++ ps) (in_block_falls r ds)

blocks_ordered : (dialect : Dialect) → (before : List BlockDeclaration) (bs : List BlockText) (n m : ℕ) → Falls n (flat_map (going (ends_blocks dialect) (spelled_block dialect)) bs) m → Ordered n (beside (of_declaration dialect) before (flat_map declarations_in bs)) m
unfolding beside
blocks_ordered dialect before [] n m falls = none n m falls
blocks_ordered dialect before (b ∷ bs) n m falls =
    let ds = declarations_in b in
    let h = split n (going (ends_blocks dialect) (spelled_block dialect) b) (flat_map (going (ends_blocks dialect) (spelled_block dialect)) bs) m falls in
    let q = split n (spelled_qualifier dialect b.qualifier) _ h.0 h.1 in
    let k = split q.0 (listed ends_block spelled_declaration b.declarations) _ h.0 q.2 in
    let l = split q.0 (flat_map (going ends_block spelled_declaration) b.declarations) (ahead ends_block ∷ []) k.0 k.1 in
    let falls-in = subst (λ (ps : List Part). Falls q.0 ps l.0) (sym (in_block_falls (is_retained b) b.declarations)) l.1 in
    rw (beside_append (of_declaration dialect) before ds (flat_map declarations_in bs))
    (both n h.0 m _ _
    (wider n k.0 h.0 _ (wider n l.0 k.0 _ (earlier n q.0 l.0 _ (items_ordered (λ (d : BlockDeclaration). going ends_block spelled_declaration d.text) (of_declaration dialect) (declaration_ordered dialect) before ds q.0 l.0 falls-in) (at_most n (spelled_qualifier dialect b.qualifier) q.0 q.1)) l.2) k.2)
    (blocks_ordered dialect (before ++ ds) bs h.0 m h.2))

-- ---- instructions

operand_ordered : (dialect : Dialect) → (names : List DeclaredName) (x : OperandText) (n m : ℕ) → Falls n (spelled_operand x) m → Ordered n (operand_faults dialect names x) m
operand_ordered dialect names (Constant t) n m falls = wider n t.left m _ (one_fault n t.left (is_none (literal_in dialect t.text)) kinds.UnknownName falls.0) falls.1
operand_ordered dialect names (Direct t) n m falls = wider n t.left m _ (one_fault n t.left (is_none (location_in dialect t.text)) kinds.BadLocation falls.0) falls.1
operand_ordered dialect names (Named t) n m falls = wider n t.left m _ (one_fault n t.left (not (names_variable dialect names (capitals t.text) || names_field dialect names (split_last (capitals t.text)))) kinds.UnknownName falls.0) falls.1
operand_ordered dialect names (Field t f) n m falls =
    let below = falls.1.0 in
    let low = falls.1.1 in
    wider n t.left m _ (one_fault n t.left (not (names_instance dialect names (capitals t.text))) kinds.UnknownName falls.0) (omega arith)

inner_ordered : (dialect : Dialect) → (names : List DeclaredName) (x : OperandText) (n m : ℕ) → Falls n (spelled_inner_operand x) m → Ordered n (operand_faults dialect names x) m
inner_ordered dialect names (Constant t) n m falls = operand_ordered dialect names (Constant t) n m falls
inner_ordered dialect names (Direct t) n m falls = operand_ordered dialect names (Direct t) n m falls
inner_ordered dialect names (Named t) n m falls = operand_ordered dialect names (Named t) n m falls
inner_ordered dialect names (Field t f) n m falls = operand_ordered dialect names (Field t f) n m falls

-- what stands lower has room above
higher : (n k m : ℕ) (fs : List FaultAt) → k ≤ n → Ordered k fs m → Ordered n fs m
higher n k m fs le a =
    let low = a.most in
    record { most = omega arith; inside = all_map (Between k m) (Between n m) (λ f h. let l = h.0 in let u = h.1 in (l, omega arith)) fs a.inside; order = a.order }

argument_ordered : (dialect : Dialect) → (names : List DeclaredName) (a : ArgumentText) (n m : ℕ) → Falls n (spelled_argument a) m → Ordered n (operand_faults dialect names a.operand) m
argument_ordered dialect names a n m falls = higher n a.field.left m _ (let lt = falls.0 in omega arith) (by_side a.side falls.1)
  where
    by_side : (side : Side) → Falls a.field.left (breaks ∷ (spelled_side side ++ breaks ∷ spelled_inner_operand a.operand)) m → Ordered a.field.left (operand_faults dialect names a.operand) m
    by_side sides.Input h = inner_ordered dialect names a.operand a.field.left m h
    by_side sides.Output h = inner_ordered dialect names a.operand a.field.left m h

flat_ordered : {X : Type 0} (s : X → List Part) (fs : X → List FaultAt) → ((x : X) (n m : ℕ) → Falls n (s x) m → Ordered n (fs x) m) → (xs : List X) (n m : ℕ) → Falls n (flat_map s xs) m → Ordered n (flat_map fs xs) m
flat_ordered s fs each [] n m falls = none n m falls
flat_ordered s fs each (x ∷ xs) n m falls =
    let h = split n (s x) (flat_map s xs) m falls in
    both n h.0 m (fs x) (flat_map fs xs) (each x n h.0 h.1) (flat_ordered s fs each xs h.0 m h.2)

abbrev of_argument : (dialect : Dialect) → List DeclaredName → ArgumentText → List FaultAt
of_argument dialect names a = operand_faults dialect names a.operand

inside_ordered : (dialect : Dialect) → (names : List DeclaredName) (xs : List ArgumentText) (n m : ℕ) → Falls n (spelled_inside xs) m → Ordered n (flat_map (of_argument dialect names) xs) m
inside_ordered dialect names [] n m falls = none n m falls
inside_ordered dialect names (a ∷ more) n m falls =
    let h = split n (spelled_argument a) _ m falls in
    let k = split h.0 (flat_map spelled_next more) (ahead ends_arguments ∷ []) m h.2 in
    both n h.0 m _ _ (argument_ordered dialect names a n h.0 h.1) (wider h.0 k.0 m _ (flat_ordered spelled_next (of_argument dialect names) (λ x i j f. argument_ordered dialect names x i j f) more h.0 k.0 k.1) k.2)

arguments_ordered : (dialect : Dialect) → (names : List DeclaredName) (o : Option (List ArgumentText)) (n m : ℕ) → Falls n (spelled_arguments o) m → Ordered n (flat_map (of_argument dialect names) (written_arguments o)) m
arguments_ordered dialect names None n m falls = none n m falls
arguments_ordered dialect names (Some xs) n m falls =
    let h = split n (spelled_inside xs) _ m falls in
    wider n h.0 m _ (inside_ordered dialect names xs n h.0 h.1) h.2

behind_ordered : (dialect : Dialect) → (names : List DeclaredName) (b : BehindText) (n m : ℕ) → Falls n (spelled_behind b) m → Ordered n (behind_faults dialect names b ++ flat_map (of_argument dialect names) (arguments_behind b)) m
behind_ordered dialect names Nothing n m falls = none n m falls
behind_ordered dialect names (Given x) n m falls = subst (λ (fs : List FaultAt). Ordered n fs m) (sym (append-nil (operand_faults dialect names x))) (operand_ordered dialect names x n m falls)
behind_ordered dialect names (Target t) n m falls = none n m (at_most n (spelled_behind (Target t)) m falls)
behind_ordered dialect names (Opened None) n m falls = none n m falls
behind_ordered dialect names (Opened (Some x)) n m falls = subst (λ (fs : List FaultAt). Ordered n fs m) (sym (append-nil (operand_faults dialect names x))) (operand_ordered dialect names x n m falls)
behind_ordered dialect names (Called c) n m falls =
    both n c.instance.left m _ _ (one_fault n c.instance.left (not (names_instance dialect names (capitals c.instance.text))) kinds.UnknownName falls.0) (arguments_ordered dialect names c.written c.instance.left m falls.1)

-- an operation's operands stand behind its operator
record Operates (dialect : Dialect) (names : List DeclaredName) (o : OperationText) (n m : ℕ) : Type 0 where
  above : o.operator.left < n
  operands : Ordered o.operator.left (operation_faults dialect names (Some o)) m

operation_ordered : (dialect : Dialect) → (names : List DeclaredName) (o : OperationText) (n m : ℕ) → Falls n (spelled_operation dialect o) m → Operates dialect names o n m
operation_ordered dialect names o n m falls =
    let at = operator_at dialect o.behind falls.0 o.operator falls.1 in
    let P : ℕ → Type 0 = λ left. (left < n) × Falls left (spelled_behind o.behind) m in
    let h = subst P (sym at) (falls.2, falls.3) in
    record { above = h.0; operands = behind_ordered dialect names o.behind o.operator.left m h.1 }

optional_ordered : (dialect : Dialect) → (names : List DeclaredName) (o : Option OperationText) (n m : ℕ) → Falls n (spelled_optional_operation dialect o) m → Ordered n (operation_faults dialect names o) m
optional_ordered dialect names None n m falls = none n m falls
optional_ordered dialect names (Some o) n m falls = let h = operation_ordered dialect names o n m falls in higher n o.operator.left m _ (let lt = h.above in omega arith) h.operands

content_ordered : (dialect : Dialect) → (names : List DeclaredName) (before : List LineText) (l : LineText) (n m : ℕ) → Falls n (spelled_line dialect l) m → Ordered n (line_faults dialect names before l) m
content_ordered dialect names before (Plain o) n m falls =
    let h = split n (spelled_operation dialect o) (ahead is_line_stop ∷ []) m falls in
    let g = operation_ordered dialect names o n h.0 h.1 in
    wider n h.0 m _ (both n o.operator.left h.0 _ _ (one_fault n o.operator.left (is_past_room dialect before (Plain o)) kinds.TooMany g.above) g.operands) h.2
content_ordered dialect names before (Labelled t o) n m falls =
    let h = split t.left (spelled_optional_operation dialect o) (ahead is_line_stop ∷ []) m falls.1 in
    let many = is_past_room dialect before (Labelled t o) in
    let reserved = is_reserved (capitals t.text) in
    let label = more_faults n t.left reserved kinds.ReservedName (when many kinds.TooMany t.left) falls.0 (one_fault n t.left many kinds.TooMany falls.0) (here _ many kinds.TooMany t.left (refl, omega arith)) in
    subst (λ (fs : List FaultAt). Ordered n fs m) (append_assoc (when reserved kinds.ReservedName t.left) (when many kinds.TooMany t.left) (operation_faults dialect names o))
    (wider n h.0 m _ (both n t.left h.0 _ _ label (optional_ordered dialect names o t.left h.0 h.1)) h.2)

-- ---- the whole

body_ordered : (dialect : Dialect) → (p : ProgramText) (stops : List Token → Bool) (qs : List Part) (n : ℕ) → Falls n (listed (ends_blocks dialect) (spelled_block dialect) p.blocks ++ (listed stops (spelled_line dialect) p.lines ++ qs)) 0 → Ordered n (faults_of dialect p) 0
body_ordered dialect p stops qs n falls =
    let h = split n (listed (ends_blocks dialect) (spelled_block dialect) p.blocks) _ 0 falls in
    let k = split h.0 (listed stops (spelled_line dialect) p.lines) qs 0 h.2 in
    let b = split n (flat_map (going (ends_blocks dialect) (spelled_block dialect)) p.blocks) (ahead (ends_blocks dialect) ∷ []) h.0 h.1 in
    let l = split h.0 (flat_map (going stops (spelled_line dialect)) p.lines) (ahead stops ∷ []) k.0 k.1 in
    both n h.0 0 _ _
    (wider n b.0 h.0 _ (blocks_ordered dialect [] p.blocks n b.0 b.1) b.2)
    (wider h.0 l.0 0 _ (items_ordered (going stops (spelled_line dialect)) (line_faults dialect (names_of p)) (content_ordered dialect (names_of p)) [] p.lines h.0 l.0 l.1) (omega arith))

program_ordered : (dialect : Dialect) → (o : Option Token) (p : ProgramText) (n : ℕ) → Falls n (spelled_by dialect o p) 0 → Ordered n (faults_of dialect p) 0
program_ordered dialect None p n falls = body_ordered dialect p ends_lines _ n falls
program_ordered dialect (Some t) p n falls =
    let lt = falls.0 in
    higher n t.left 0 _ (omega arith) (body_ordered dialect p ends_named _ t.left falls.1)

-- the faults of a text that was read
pub text_ordered : (dialect : Dialect) → (bytes : List ℕ) (p : ProgramText) → Says dialect bytes p → InOrder (faults_of dialect p)
text_ordered dialect bytes p says = (program_ordered dialect p.name p (suc (length bytes)) (text_falls dialect bytes (spelled_program dialect p) says.0 says.1)).order

among : {X : Type 0} (P : X → Type 0) (x : X) (xs : List X) → Among x xs → AllByRecursion P xs → P x
among P x [] a all = absurd a
among P x (y ∷ ys) (inl e) all = subst P e all.0
among P x (y ∷ ys) (inr a) all = among P x ys a all.1

-- the first of them is told no later than each
pub first_told : (f : FaultAt) (fs : List FaultAt) → InOrder (f ∷ fs) → (g : FaultAt) → Among g (f ∷ fs) → IsNoLater f g
first_told f fs order g a = among (IsNoLater f) g (f ∷ fs) a (inr (refl, omega arith), order.0)
