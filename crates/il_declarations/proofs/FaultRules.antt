-- The faults of the list are those that a text has.
use Rattle.std.proofs.Common.{◌≡◌, ◌⊎◌, inl, inr, ℕ, Bool, true, false, List, [], ◌∷◌, ◌++◌, map, Option, Some, None, refl, sym, ap, subst, ◌∙◌, append_assoc, ◌||◌}
use Rattle.std.specs.Prelude.{is_none}
use Rattle.std.specs.List.{flat_map}
use Rattle.std.proofs.lemmas.List.{append-nil}
use Rattle.il_model.specs.declared.dialect.Dialect.{Dialect}
use Rattle.il_model.specs.declared.program.Loc.{Loc}
use Rattle.il_model.specs.Words.{is_reserved}
use Rattle.il_model.specs.Dialects.{location_in}
use Rattle.il_reader.specs.Tokens.{Token}
use Rattle.il_reader.specs.Grammar.{OperandText, Constant, Direct, Named, Field, BehindText, Nothing, Given, Target, Opened, Called, ArgumentText, arguments_of, OperationText, LineText, Labelled, Plain, NamesText, Located, More, ProgramText}
use Rattle.il_declarations.specs.declared.variables.DeclaredType.{DeclaredType}
use Rattle.il_declarations.specs.declared.fault.DeclKind.{DeclKind}
use Rattle.il_declarations.specs.declared.fault.DeclKind.TheVariants as kinds
use Rattle.il_declarations.specs.declared.fault.FaultAt.{FaultAt}
use Rattle.il_declarations.specs.Resolution.{capitals}
use Rattle.il_declarations.specs.Declaring.{DeclaredName, BlockDeclaration, names_in, declarations_of, names_of, type_in, written_location, is_declared, is_shadowed, arguments_behind}
use Rattle.il_declarations.specs.TextFaults.{Somewhere, has_no_room, is_past_room, is_no_place, is_overlapping, is_bad_start, Asked, AsVariable, AsInstance, AsLocation, AsLiteral, asked_token, asked_kind, is_missing, asked_by, asked_behind, asked_of, asked_in, begins_at, HasFaultOf, HasFault}
use Rattle.il_declarations.proofs.Agreeing.{each_by_itself, beside_append}
use Rattle.il_declarations.proofs.DeclarationFaults.{before_of, before_push}
use Rattle.il_declarations.proofs.FaultList.{when, beside, name_faults, place_faults, location_faults, start_faults, declaration_faults, faults_of_declarations, operand_faults, behind_faults, operation_faults, line_faults, faults_of, Among}

-- ---- lists

left_in : {X : Type 0} (x : X) (xs ys : List X) → Among x xs → Among x (xs ++ ys)
left_in x [] ys a = absurd a
left_in x (z ∷ xs) ys (inl e) = inl e
left_in x (z ∷ xs) ys (inr a) = inr (left_in x xs ys a)

right_in : {X : Type 0} (x : X) (xs ys : List X) → Among x ys → Among x (xs ++ ys)
right_in x [] ys a = a
right_in x (z ∷ xs) ys a = inr (right_in x xs ys a)

later : {X : Type 0} (x z : X) (xs ys : List X) → Among x xs ⊎ Among x ys → Among x (z ∷ xs) ⊎ Among x ys
later x z xs ys (inl a) = inl (inr a)
later x z xs ys (inr b) = inr b

parted : {X : Type 0} (x : X) (xs ys : List X) → Among x (xs ++ ys) → Among x xs ⊎ Among x ys
parted x [] ys a = inr a
parted x (z ∷ xs) ys (inl e) = inl (inl e)
parted x (z ∷ xs) ys (inr a) = later x z xs ys (parted x xs ys a)

-- in what things of a list give, one of them gives it
in_beside : {X Y : Type 0} (F : List X → X → List Y) (y : Y) (before xs : List X) → Among y (beside F before xs) → Somewhere (λ b x. Among y (F (before ++ b) x)) xs
unfolding beside
in_beside F y before [] a = absurd a
in_beside F y before (x ∷ xs) a = chosen (parted y (F before x) (beside F (before ++ x ∷ []) xs) a) (λ h. in_beside F y (before ++ x ∷ []) xs h)
  where
    chosen : Among y (F before x) ⊎ Among y (beside F (before ++ x ∷ []) xs) → (Among y (beside F (before ++ x ∷ []) xs) → Somewhere (λ b z. Among y (F ((before ++ x ∷ []) ++ b) z)) xs) → Somewhere (λ b z. Among y (F (before ++ b) z)) (x ∷ xs)
    chosen (inl h) more = record { before = []; item = x; behind = xs; is = refl; holds = subst (λ (b : List _). Among y (F b x)) (sym (append-nil before)) h }
    chosen (inr h) more =
        let s = more h in
        record { before = x ∷ s.before; item = s.item; behind = s.behind; is = ap (λ (zs : List _). x ∷ zs) s.is; holds = subst (λ (b : List _). Among y (F b s.item)) (append_assoc before (x ∷ []) s.before) s.holds }

beside_at : {X Y : Type 0} (F : List X → X → List Y) (y : Y) (before b : List X) (x : X) (behind : List X) → Among y (F (before ++ b) x) → Among y (beside F before (b ++ x ∷ behind))
unfolding beside
beside_at F y before [] x behind a = left_in y (F before x) (beside F (before ++ x ∷ []) behind) (subst (λ (c : List _). Among y (F c x)) (append-nil before) a)
beside_at F y before (z ∷ b) x behind a =
    right_in y (F before z) (beside F (before ++ z ∷ []) (b ++ x ∷ behind))
    (beside_at F y (before ++ z ∷ []) b x behind (subst (λ (c : List _). Among y (F c x)) (sym (append_assoc before (z ∷ []) b)) a))

beside_in : {X Y : Type 0} (F : List X → X → List Y) (y : Y) (xs : List X) → Somewhere (λ b x. Among y (F b x)) xs → Among y (beside F [] xs)
beside_in F y xs s = subst (λ (zs : List _). Among y (beside F [] zs)) (sym s.is) (beside_at F y [] s.before s.item s.behind s.holds)

in_flat : {X Y : Type 0} (f : X → List Y) (y : Y) (xs : List X) → Among y (flat_map f xs) → Somewhere (λ b x. Among y (f x)) xs
in_flat f y xs a = in_beside (λ b x. f x) y [] xs (subst (λ (ys : List _). Among y ys) (sym (each_by_itself f [] xs)) a)

flat_in : {X Y : Type 0} (f : X → List Y) (y : Y) (xs : List X) → Somewhere (λ b x. Among y (f x)) xs → Among y (flat_map f xs)
flat_in f y xs s = subst (λ (ys : List _). Among y ys) (each_by_itself f [] xs) (beside_in (λ b x. f x) y xs s)

-- ---- one test

-- a test of a list was passed
record Passed (b : Bool) (kind : DeclKind) (left : ℕ) (f : FaultAt) : Type 0 where
  test : b ≡ true
  is : record { kind = kind; left = left } ≡ f

was : (b : Bool) (kind : DeclKind) (left : ℕ) (f : FaultAt) → Among f (when b kind left) → Passed b kind left f
was true kind left f (inl e) = record { test = refl; is = e }
was true kind left f (inr n) = absurd n
was false kind left f n = absurd n

is_when : (b : Bool) (kind : DeclKind) (left : ℕ) → b ≡ true → Among (record { kind = kind; left = left }) (when b kind left)
is_when true kind left e = inl refl
is_when false kind left e = absurd cc

-- that fault
told : (dialect : Dialect) → (p : ProgramText) (kind : DeclKind) (left : ℕ) (f : FaultAt) → record { kind = kind; left = left } ≡ f → HasFaultOf dialect p kind left → HasFault dialect p f
told dialect p kind left f e h = subst (λ (g : FaultAt). (HasFaultOf dialect) p g.kind g.left) e h

abbrev fault : DeclKind → ℕ → FaultAt
fault kind left = record { kind = kind; left = left }

-- ---- names

abbrev names_part : (dialect : Dialect) → List BlockDeclaration → BlockDeclaration → List FaultAt
names_part dialect before d = beside (name_faults dialect) (before_of before) (names_in d)

names_flat : (dialect : Dialect) → (before ds : List BlockDeclaration) → beside (names_part dialect) before ds ≡ beside (name_faults dialect) (before_of before) (before_of ds)
unfolding beside
names_flat dialect before [] = refl
names_flat dialect before (d ∷ ds) =
    ap (λ (fs : List FaultAt). (names_part dialect) before d ++ fs) (names_flat dialect (before ++ d ∷ []) ds ∙ ap (λ (b : List DeclaredName). beside (name_faults dialect) b (before_of ds)) (before_push before d))
    ∙ sym (beside_append (name_faults dialect) (before_of before) (names_in d) (before_of ds))

name_had : (dialect : Dialect) → (p : ProgramText) (f : FaultAt) → Somewhere (λ b x. Among f (name_faults dialect b x)) (names_of p) → HasFault dialect p f
name_had dialect p f s = first (parted f (when doubled kinds.Duplicate left) (when reserved kinds.ReservedName left ++ when many kinds.TooMany left) s.holds)
  where
    left : ℕ
    left = s.item.name.left

    doubled : Bool
    doubled = is_declared s.before (capitals s.item.name.text) || is_shadowed dialect s.before s.item

    reserved : Bool
    reserved = is_reserved (capitals s.item.name.text)

    many : Bool
    many = has_no_room dialect (type_in dialect s.item.by) s.before

    second : Among f (when reserved kinds.ReservedName left) ⊎ Among f (when many kinds.TooMany left) → HasFault dialect p f
    second (inl a) = let w = was reserved kinds.ReservedName left f a in told dialect p kinds.ReservedName left f w.is (inl (record { before = s.before; item = s.item; behind = s.behind; is = s.is; holds = (refl, w.test) }))
    second (inr a) = let w = was many kinds.TooMany left f a in told dialect p kinds.TooMany left f w.is (inl (record { before = s.before; item = s.item; behind = s.behind; is = s.is; holds = (refl, w.test) }))

    first : Among f (when doubled kinds.Duplicate left) ⊎ Among f (when reserved kinds.ReservedName left ++ when many kinds.TooMany left) → HasFault dialect p f
    first (inl a) = let w = was doubled kinds.Duplicate left f a in told dialect p kinds.Duplicate left f w.is (record { before = s.before; item = s.item; behind = s.behind; is = s.is; holds = (refl, w.test) })
    first (inr a) = second (parted f (when reserved kinds.ReservedName left) (when many kinds.TooMany left) a)

-- ---- declarations

abbrev type_part : (dialect : Dialect) → BlockDeclaration → List FaultAt
type_part dialect d = when (is_none (type_in dialect d.text)) kinds.UnknownType d.text.ty.left

abbrev start_part : (dialect : Dialect) → BlockDeclaration → List FaultAt
start_part dialect d = start_faults dialect (written_location dialect d.text.names) d.text.initial (type_in dialect d.text)

-- what was found in a declaration
record InDeclaration (p : ProgramText) (before : List BlockDeclaration) (d : BlockDeclaration) : Type 0 where
  behind : List BlockDeclaration
  is : declarations_of p ≡ before ++ d ∷ behind

place_had : (dialect : Dialect) → (p : ProgramText) (f : FaultAt) (before : List BlockDeclaration) (d : BlockDeclaration) → InDeclaration p before d → Among f (location_faults dialect (before_of before) (type_in dialect d.text) d.text.names) → HasFault dialect p f
place_had dialect p f before d i a = by_names d.text.names refl a
  where
    by_names : (x : NamesText) → d.text.names ≡ x → Among f (location_faults dialect (before_of before) (type_in dialect d.text) x) → HasFault dialect p f
    by_names (More ts) e h = absurd h
    by_names (Located t) e h = chosen (parted f (when (is_no_place (type_in dialect d.text) (location_in dialect t.text)) kinds.BadLocation t.left) (when (is_overlapping dialect (before_of before) (location_in dialect t.text)) kinds.Overlap t.left) h)
      where
        chosen : Among f (when (is_no_place (type_in dialect d.text) (location_in dialect t.text)) kinds.BadLocation t.left) ⊎ Among f (when (is_overlapping dialect (before_of before) (location_in dialect t.text)) kinds.Overlap t.left) → HasFault dialect p f
        chosen (inl b) =
            let w = was (is_no_place (type_in dialect d.text) (location_in dialect t.text)) kinds.BadLocation t.left f b in
            told dialect p kinds.BadLocation t.left f w.is (inl (record { before = before; item = d; behind = i.behind; is = i.is; holds = (t, e, refl, w.test) }))
        chosen (inr b) =
            let w = was (is_overlapping dialect (before_of before) (location_in dialect t.text)) kinds.Overlap t.left f b in
            told dialect p kinds.Overlap t.left f w.is (record { before = before; item = d; behind = i.behind; is = i.is; holds = (t, e, refl, w.test) })

type_had : (dialect : Dialect) → (p : ProgramText) (f : FaultAt) (before : List BlockDeclaration) (d : BlockDeclaration) → InDeclaration p before d → Among f (type_part dialect d) → HasFault dialect p f
type_had dialect p f before d i a =
    let w = was (is_none (type_in dialect d.text)) kinds.UnknownType d.text.ty.left f a in
    told dialect p kinds.UnknownType d.text.ty.left f w.is (record { before = before; item = d; behind = i.behind; is = i.is; holds = (refl, w.test) })

start_had : (dialect : Dialect) → (p : ProgramText) (f : FaultAt) (before : List BlockDeclaration) (d : BlockDeclaration) → InDeclaration p before d → Among f (start_part dialect d) → HasFault dialect p f
start_had dialect p f before d i a = by_initial d.text.initial refl a
  where
    by_initial : (o : Option Token) → d.text.initial ≡ o → Among f (start_faults dialect (written_location dialect d.text.names) o (type_in dialect d.text)) → HasFault dialect p f
    by_initial None e h = absurd h
    by_initial (Some t) e h =
        let w = was (is_bad_start dialect (written_location dialect d.text.names) t (type_in dialect d.text)) kinds.BadInitial t.left f h in
        told dialect p kinds.BadInitial t.left f w.is (record { before = before; item = d; behind = i.behind; is = i.is; holds = (t, e, refl, w.test) })

abbrev of_declaration : (dialect : Dialect) → List BlockDeclaration → BlockDeclaration → List FaultAt
of_declaration dialect before d = declaration_faults dialect (before_of before) d

declaration_had : (dialect : Dialect) → (p : ProgramText) (f : FaultAt) → Somewhere (λ b d. Among f (of_declaration dialect b d)) (declarations_of p) → HasFault dialect p f
declaration_had dialect p f s = first (parted f (names_part dialect s.before s.item) (location_faults dialect (before_of s.before) (type_in dialect s.item.text) s.item.text.names ++ (type_part dialect s.item ++ start_part dialect s.item)) s.holds)
  where
    here : InDeclaration p s.before s.item
    here = record { behind = s.behind; is = s.is }

    third : Among f (type_part dialect s.item) ⊎ Among f (start_part dialect s.item) → HasFault dialect p f
    third (inl a) = type_had dialect p f s.before s.item here a
    third (inr a) = start_had dialect p f s.before s.item here a

    second : Among f (location_faults dialect (before_of s.before) (type_in dialect s.item.text) s.item.text.names) ⊎ Among f (type_part dialect s.item ++ start_part dialect s.item) → HasFault dialect p f
    second (inl a) = place_had dialect p f s.before s.item here a
    second (inr a) = third (parted f (type_part dialect s.item) (start_part dialect s.item) a)

    first : Among f (names_part dialect s.before s.item) ⊎ Among f (location_faults dialect (before_of s.before) (type_in dialect s.item.text) s.item.text.names ++ (type_part dialect s.item ++ start_part dialect s.item)) → HasFault dialect p f
    first (inl a) =
        name_had dialect p f (in_beside (name_faults dialect) f [] (names_of p)
        (subst (λ (fs : List FaultAt). Among f fs) (names_flat dialect [] (declarations_of p)) (beside_in (names_part dialect) f (declarations_of p) (record { before = s.before; item = s.item; behind = s.behind; is = s.is; holds = a }))))
    first (inr a) = second (parted f (location_faults dialect (before_of s.before) (type_in dialect s.item.text) s.item.text.names) (type_part dialect s.item ++ start_part dialect s.item) a)

-- ---- lines

abbrev asked_faults : (dialect : Dialect) → List DeclaredName → Asked → List FaultAt
asked_faults dialect names a = when (is_missing dialect names a) (asked_kind a) (asked_token a).left

operand_asked : (dialect : Dialect) → (names : List DeclaredName) (x : OperandText) → operand_faults dialect names x ≡ asked_faults dialect names (asked_by x)
operand_asked dialect names (Constant t) = refl
operand_asked dialect names (Direct t) = refl
operand_asked dialect names (Named t) = refl
operand_asked dialect names (Field t f) = refl

arguments_asked : (dialect : Dialect) → (names : List DeclaredName) (xs : List ArgumentText) → flat_map (λ a. operand_faults dialect names a.operand) xs ≡ flat_map (asked_faults dialect names) (map (λ a. asked_by a.operand) xs)
arguments_asked dialect names [] = refl
arguments_asked dialect names (x ∷ xs) =
    ap (λ (fs : List FaultAt). fs ++ flat_map (λ a. operand_faults dialect names a.operand) xs) (operand_asked dialect names x.operand)
    ∙ ap (λ (fs : List FaultAt). (asked_faults dialect) names (asked_by x.operand) ++ fs) (arguments_asked dialect names xs)

behind_asked : (dialect : Dialect) → (names : List DeclaredName) (b : BehindText) → behind_faults dialect names b ++ flat_map (λ a. operand_faults dialect names a.operand) (arguments_behind b) ≡ flat_map (asked_faults dialect names) (asked_behind b)
behind_asked dialect names Nothing = refl
behind_asked dialect names (Given x) = ap (λ (fs : List FaultAt). fs ++ []) (operand_asked dialect names x)
behind_asked dialect names (Target t) = refl
behind_asked dialect names (Opened None) = refl
behind_asked dialect names (Opened (Some x)) = ap (λ (fs : List FaultAt). fs ++ []) (operand_asked dialect names x)
behind_asked dialect names (Called c) = ap (λ (fs : List FaultAt). (behind_faults dialect) names (Called c) ++ fs) (arguments_asked dialect names (arguments_of c))

operation_asked : (dialect : Dialect) → (names : List DeclaredName) (o : Option OperationText) → operation_faults dialect names o ≡ flat_map (asked_faults dialect names) (asked_of o)
operation_asked dialect names None = refl
operation_asked dialect names (Some o) = behind_asked dialect names o.behind

-- what was found in a line
record InLine (p : ProgramText) (before : List LineText) (l : LineText) : Type 0 where
  behind : List LineText
  is : p.lines ≡ before ++ l ∷ behind

abbrev IsMissing : (dialect : Dialect) → ProgramText → DeclKind → ℕ → Asked → Type 0
IsMissing dialect p kind left a = (asked_kind a ≡ kind) × (left ≡ (asked_token a).left) × (is_missing dialect (names_of p) a ≡ true)

missing_had : (dialect : Dialect) → (p : ProgramText) (f : FaultAt) (before : List LineText) (l : LineText) → InLine p before l → Among f (flat_map (asked_faults dialect (names_of p)) (asked_in l)) → HasFault dialect p f
missing_had dialect p f before l i a = by_asked s.item refl
  where
    s : Somewhere (λ b x. Among f (asked_faults dialect (names_of p) x)) (asked_in l)
    s = in_flat (asked_faults dialect (names_of p)) f (asked_in l) a

    w : Passed (is_missing dialect (names_of p) s.item) (asked_kind s.item) (asked_token s.item).left f
    w = was (is_missing dialect (names_of p) s.item) (asked_kind s.item) (asked_token s.item).left f s.holds

    there : (kind : DeclKind) → asked_kind s.item ≡ kind → Somewhere (λ b m. Somewhere (λ others x. IsMissing dialect p kind (asked_token s.item).left x) (asked_in m)) p.lines
    there kind e = record { before = before; item = l; behind = i.behind; is = i.is; holds = record { before = s.before; item = s.item; behind = s.behind; is = s.is; holds = (e, refl, w.test) } }

    as_kind : (kind : DeclKind) → asked_kind s.item ≡ kind → fault kind (asked_token s.item).left ≡ f
    as_kind kind e = ap (λ (k : DeclKind). fault k (asked_token s.item).left) (sym e) ∙ w.is

    unknown : asked_kind s.item ≡ kinds.UnknownName → HasFault dialect p f
    unknown e = told dialect p kinds.UnknownName (asked_token s.item).left f (as_kind kinds.UnknownName e) (there kinds.UnknownName e)

    by_asked : (x : Asked) → s.item ≡ x → HasFault dialect p f
    by_asked (AsVariable t) e = unknown (ap asked_kind e)
    by_asked (AsInstance t) e = unknown (ap asked_kind e)
    by_asked (AsLiteral t) e = unknown (ap asked_kind e)
    by_asked (AsLocation t) e = told dialect p kinds.BadLocation (asked_token s.item).left f (as_kind kinds.BadLocation (ap asked_kind e)) (inr (there kinds.BadLocation (ap asked_kind e)))

many_had : (dialect : Dialect) → (p : ProgramText) (f : FaultAt) (before : List LineText) (l : LineText) → InLine p before l → Among f (when (is_past_room dialect before l) kinds.TooMany (begins_at l)) → HasFault dialect p f
many_had dialect p f before l i a =
    let w = was (is_past_room dialect before l) kinds.TooMany (begins_at l) f a in
    told dialect p kinds.TooMany (begins_at l) f w.is (inr (record { before = before; item = l; behind = i.behind; is = i.is; holds = (refl, w.test) }))

label_had : (dialect : Dialect) → (p : ProgramText) (f : FaultAt) (before : List LineText) (t : Token) (o : Option OperationText) → InLine p before (Labelled t o) → Among f (when (is_reserved (capitals t.text)) kinds.ReservedName t.left) → HasFault dialect p f
label_had dialect p f before t o i a =
    let w = was (is_reserved (capitals t.text)) kinds.ReservedName t.left f a in
    told dialect p kinds.ReservedName t.left f w.is (inr (record { before = before; item = Labelled t o; behind = i.behind; is = i.is; holds = (t, o, refl, refl, w.test) }))

behind_had : (dialect : Dialect) → (p : ProgramText) (f : FaultAt) (before : List LineText) (l : LineText) (o : Option OperationText) → asked_in l ≡ asked_of o → InLine p before l
    → Among f (when (is_past_room dialect before l) kinds.TooMany (begins_at l)) ⊎ Among f (operation_faults dialect (names_of p) o) → HasFault dialect p f
behind_had dialect p f before l o e i (inl a) = many_had dialect p f before l i a
behind_had dialect p f before l o e i (inr a) =
    missing_had dialect p f before l i (subst (λ (xs : List Asked). Among f (flat_map (asked_faults dialect (names_of p)) xs)) (sym e) (subst (λ (fs : List FaultAt). Among f fs) (operation_asked dialect (names_of p) o) a))

line_had : (dialect : Dialect) → (p : ProgramText) (f : FaultAt) (before : List LineText) (l : LineText) → InLine p before l → Among f (line_faults dialect (names_of p) before l) → HasFault dialect p f
line_had dialect p f before (Plain o) i a = behind_had dialect p f before (Plain o) (Some o) refl i (parted f (when (is_past_room dialect before (Plain o)) kinds.TooMany o.operator.left) (operation_faults dialect (names_of p) (Some o)) a)
line_had dialect p f before (Labelled t o) i a = chosen (parted f (when (is_reserved (capitals t.text)) kinds.ReservedName t.left) (when (is_past_room dialect before (Labelled t o)) kinds.TooMany t.left ++ operation_faults dialect (names_of p) o) a)
  where
    chosen : Among f (when (is_reserved (capitals t.text)) kinds.ReservedName t.left) ⊎ Among f (when (is_past_room dialect before (Labelled t o)) kinds.TooMany t.left ++ operation_faults dialect (names_of p) o) → HasFault dialect p f
    chosen (inl b) = label_had dialect p f before t o i b
    chosen (inr b) = behind_had dialect p f before (Labelled t o) o refl i (parted f (when (is_past_room dialect before (Labelled t o)) kinds.TooMany t.left) (operation_faults dialect (names_of p) o) b)

-- each fault of the list is one that the text has
pub had : (dialect : Dialect) → (p : ProgramText) (f : FaultAt) → Among f (faults_of dialect p) → HasFault dialect p f
had dialect p f a = chosen (parted f (faults_of_declarations dialect (declarations_of p)) (beside (line_faults dialect (names_of p)) [] p.lines) a)
  where
    chosen : Among f (faults_of_declarations dialect (declarations_of p)) ⊎ Among f (beside (line_faults dialect (names_of p)) [] p.lines) → HasFault dialect p f
    chosen (inl b) = declaration_had dialect p f (in_beside (of_declaration dialect) f [] (declarations_of p) b)
    chosen (inr b) =
        let s = in_beside (line_faults dialect (names_of p)) f [] p.lines b in
        line_had dialect p f s.before s.item (record { behind = s.behind; is = s.is }) s.holds

-- ---- and the other way round

in_declaration : (dialect : Dialect) → (p : ProgramText) (f : FaultAt) → Somewhere (λ b d. Among f (of_declaration dialect b d)) (declarations_of p) → Among f (faults_of dialect p)
in_declaration dialect p f s = left_in f (faults_of_declarations dialect (declarations_of p)) (beside (line_faults dialect (names_of p)) [] p.lines) (beside_in (of_declaration dialect) f (declarations_of p) s)

in_line : (dialect : Dialect) → (p : ProgramText) (f : FaultAt) → Somewhere (λ b l. Among f (line_faults dialect (names_of p) b l)) p.lines → Among f (faults_of dialect p)
in_line dialect p f s = right_in f (faults_of_declarations dialect (declarations_of p)) (beside (line_faults dialect (names_of p)) [] p.lines) (beside_in (line_faults dialect (names_of p)) f p.lines s)

in_names : (dialect : Dialect) → (p : ProgramText) (f : FaultAt) → Somewhere (λ b x. Among f (name_faults dialect b x)) (names_of p) → Among f (faults_of dialect p)
in_names dialect p f s =
    let flat = beside_in (name_faults dialect) f (names_of p) s in
    let d = in_beside (names_part dialect) f [] (declarations_of p) (subst (λ (fs : List FaultAt). Among f fs) (sym (names_flat dialect [] (declarations_of p))) flat) in
    in_declaration dialect p f (record { before = d.before; item = d.item; behind = d.behind; is = d.is; holds = left_in f (names_part dialect d.before d.item) _ d.holds })

name_listed : (dialect : Dialect) → (p : ProgramText) (kind : DeclKind) (left : ℕ) (test : List DeclaredName → DeclaredName → Bool) → ((b : List DeclaredName) (x : DeclaredName) → test b x ≡ true → Among (fault kind x.name.left) (name_faults dialect b x))
    → Somewhere (λ b x. (left ≡ x.name.left) × (test b x ≡ true)) (names_of p) → Among (fault kind left) (faults_of dialect p)
name_listed dialect p kind left test inside s =
    in_names dialect p (fault kind left) (record { before = s.before; item = s.item; behind = s.behind; is = s.is; holds = subst (λ (n : ℕ). Among (fault kind n) (name_faults dialect s.before s.item)) (sym s.holds.0) (inside s.before s.item s.holds.1) })

place_listed : (dialect : Dialect) → (p : ProgramText) (kind : DeclKind) (left : ℕ) (test : List DeclaredName → Option DeclaredType → Option Loc → Bool)
    → ((b : List DeclaredName) (type : Option DeclaredType) (t : Token) (o : Option Loc) → test b type o ≡ true → Among (fault kind t.left) (place_faults dialect b type t o))
    → Somewhere (λ b d. (t : Token) × (d.text.names ≡ Located t) × (left ≡ t.left) × (test (before_of b) (type_in dialect d.text) (location_in dialect t.text) ≡ true)) (declarations_of p) → Among (fault kind left) (faults_of dialect p)
place_listed dialect p kind left test inside s =
    let b = s.before in
    let d = s.item in
    let t = s.holds.0 in
    let at = subst (λ (n : ℕ). Among (fault kind n) (place_faults dialect (before_of b) (type_in dialect d.text) t (location_in dialect t.text))) (sym s.holds.2) (inside (before_of b) (type_in dialect d.text) t (location_in dialect t.text) s.holds.3) in
    let named = subst (λ (x : NamesText). Among (fault kind left) (location_faults dialect (before_of b) (type_in dialect d.text) x)) (sym s.holds.1) at in
    in_declaration dialect p (fault kind left) (record { before = b; item = d; behind = s.behind; is = s.is; holds = right_in (fault kind left) (names_part dialect b d) _ (left_in (fault kind left) (location_faults dialect (before_of b) (type_in dialect d.text) d.text.names) _ named) })

type_listed : (dialect : Dialect) → (p : ProgramText) (left : ℕ) → Somewhere (λ b d. (left ≡ d.text.ty.left) × (is_none (type_in dialect d.text) ≡ true)) (declarations_of p) → Among (fault kinds.UnknownType left) (faults_of dialect p)
type_listed dialect p left s =
    let f = fault kinds.UnknownType left in
    let b = s.before in
    let d = s.item in
    let at = subst (λ (n : ℕ). Among (fault kinds.UnknownType n) (type_part dialect d)) (sym s.holds.0) (is_when (is_none (type_in dialect d.text)) kinds.UnknownType d.text.ty.left s.holds.1) in
    in_declaration dialect p f (record { before = b; item = d; behind = s.behind; is = s.is; holds = right_in f (names_part dialect b d) _ (right_in f (location_faults dialect (before_of b) (type_in dialect d.text) d.text.names) _ (left_in f (type_part dialect d) (start_part dialect d) at)) })

start_listed : (dialect : Dialect) → (p : ProgramText) (left : ℕ) → Somewhere (λ b d. (t : Token) × (d.text.initial ≡ Some t) × (left ≡ t.left) × (is_bad_start dialect (written_location dialect d.text.names) t (type_in dialect d.text) ≡ true)) (declarations_of p) → Among (fault kinds.BadInitial left) (faults_of dialect p)
start_listed dialect p left s =
    let f = fault kinds.BadInitial left in
    let b = s.before in
    let d = s.item in
    let t = s.holds.0 in
    let at = subst (λ (n : ℕ). Among (fault kinds.BadInitial n) (start_faults dialect (written_location dialect d.text.names) (Some t) (type_in dialect d.text))) (sym s.holds.2) (is_when (is_bad_start dialect (written_location dialect d.text.names) t (type_in dialect d.text)) kinds.BadInitial t.left s.holds.3) in
    let written = subst (λ (o : Option Token). Among f (start_faults dialect (written_location dialect d.text.names) o (type_in dialect d.text))) (sym s.holds.1) at in
    in_declaration dialect p f (record { before = b; item = d; behind = s.behind; is = s.is; holds = right_in f (names_part dialect b d) _ (right_in f (location_faults dialect (before_of b) (type_in dialect d.text) d.text.names) _ (right_in f (type_part dialect d) (start_part dialect d) written)) })

missing_in : (dialect : Dialect) → (names : List DeclaredName) (f : FaultAt) (before : List LineText) (l : LineText) → Among f (flat_map (asked_faults dialect names) (asked_in l)) → Among f (line_faults dialect names before l)
missing_in dialect names f before (Plain o) a = right_in f (when (is_past_room dialect before (Plain o)) kinds.TooMany o.operator.left) (operation_faults dialect names (Some o)) (subst (λ (fs : List FaultAt). Among f fs) (sym (operation_asked dialect names (Some o))) a)
missing_in dialect names f before (Labelled t o) a =
    right_in f (when (is_reserved (capitals t.text)) kinds.ReservedName t.left) _
    (right_in f (when (is_past_room dialect before (Labelled t o)) kinds.TooMany t.left) (operation_faults dialect names o) (subst (λ (fs : List FaultAt). Among f fs) (sym (operation_asked dialect names o)) a))

missing_listed : (dialect : Dialect) → (p : ProgramText) (kind : DeclKind) (left : ℕ) → Somewhere (λ b l. Somewhere (λ others a. IsMissing dialect p kind left a) (asked_in l)) p.lines → Among (fault kind left) (faults_of dialect p)
missing_listed dialect p kind left s =
    let t = s.holds in
    let a = t.item in
    let as_kind = subst (λ (k : DeclKind). Among (fault k (asked_token a).left) (asked_faults dialect (names_of p) a)) t.holds.0 (is_when (is_missing dialect (names_of p) a) (asked_kind a) (asked_token a).left t.holds.2) in
    let at = subst (λ (n : ℕ). Among (fault kind n) (asked_faults dialect (names_of p) a)) (sym t.holds.1) as_kind in
    in_line dialect p (fault kind left) (record {
      before = s.before;
      item = s.item;
      behind = s.behind;
      is = s.is;
      holds = missing_in dialect (names_of p) (fault kind left) s.before s.item (flat_in (asked_faults dialect (names_of p)) (fault kind left) (asked_in s.item) (record { before = t.before; item = a; behind = t.behind; is = t.is; holds = at }));
    })

label_listed : (dialect : Dialect) → (p : ProgramText) (left : ℕ) → Somewhere (λ b l. (t : Token) × (o : Option OperationText) × (l ≡ Labelled t o) × (left ≡ t.left) × (is_reserved (capitals t.text) ≡ true)) p.lines → Among (fault kinds.ReservedName left) (faults_of dialect p)
label_listed dialect p left s =
    let f = fault kinds.ReservedName left in
    let t = s.holds.0 in
    let o = s.holds.1 in
    let at = subst (λ (n : ℕ). Among (fault kinds.ReservedName n) (when (is_reserved (capitals t.text)) kinds.ReservedName t.left)) (sym s.holds.3) (is_when (is_reserved (capitals t.text)) kinds.ReservedName t.left s.holds.4) in
    in_line dialect p f (record {
      before = s.before;
      item = s.item;
      behind = s.behind;
      is = s.is;
      holds = subst (λ (l : LineText). Among f (line_faults dialect (names_of p) s.before l)) (sym s.holds.2) (left_in f (when (is_reserved (capitals t.text)) kinds.ReservedName t.left) _ at);
    })

many_in : (dialect : Dialect) → (names : List DeclaredName) (before : List LineText) (l : LineText) → is_past_room dialect before l ≡ true → Among (fault kinds.TooMany (begins_at l)) (line_faults dialect names before l)
many_in dialect names before (Plain o) e = left_in _ (when (is_past_room dialect before (Plain o)) kinds.TooMany o.operator.left) _ (is_when (is_past_room dialect before (Plain o)) kinds.TooMany o.operator.left e)
many_in dialect names before (Labelled t o) e =
    right_in _ (when (is_reserved (capitals t.text)) kinds.ReservedName t.left) _
    (left_in _ (when (is_past_room dialect before (Labelled t o)) kinds.TooMany t.left) (operation_faults dialect names o) (is_when (is_past_room dialect before (Labelled t o)) kinds.TooMany t.left e))

many_listed : (dialect : Dialect) → (p : ProgramText) (left : ℕ) → Somewhere (λ b l. (left ≡ begins_at l) × (is_past_room dialect b l ≡ true)) p.lines → Among (fault kinds.TooMany left) (faults_of dialect p)
many_listed dialect p left s =
    in_line dialect p (fault kinds.TooMany left) (record {
      before = s.before;
      item = s.item;
      behind = s.behind;
      is = s.is;
      holds = subst (λ (n : ℕ). Among (fault kinds.TooMany n) (line_faults dialect (names_of p) s.before s.item)) (sym s.holds.0) (many_in dialect (names_of p) s.before s.item s.holds.1);
    })

abbrev is_doubled : Dialect → List DeclaredName → DeclaredName → Bool
is_doubled dialect b x = is_declared b (capitals x.name.text) || is_shadowed dialect b x

abbrev has_reserved : List DeclaredName → DeclaredName → Bool
has_reserved b x = is_reserved (capitals x.name.text)

abbrev is_crowded : (dialect : Dialect) → List DeclaredName → DeclaredName → Bool
is_crowded dialect b x = has_no_room dialect (type_in dialect x.by) b

kind_listed : (dialect : Dialect) → (p : ProgramText) (kind : DeclKind) (left : ℕ) → HasFaultOf dialect p kind left → Among (fault kind left) (faults_of dialect p)
kind_listed dialect p kinds.Duplicate left h =
    name_listed dialect p kinds.Duplicate left (is_doubled dialect) (λ b x e. left_in (fault kinds.Duplicate x.name.left) (when (is_doubled dialect b x) kinds.Duplicate x.name.left) _ (is_when (is_doubled dialect b x) kinds.Duplicate x.name.left e)) h
kind_listed dialect p kinds.UnknownType left h = type_listed dialect p left h
kind_listed dialect p kinds.UnknownName left h = missing_listed dialect p kinds.UnknownName left h
kind_listed dialect p kinds.BadLocation left (inl h) =
    place_listed dialect p kinds.BadLocation left (λ b type o. is_no_place type o) (λ b type t o e. left_in (fault kinds.BadLocation t.left) (when (is_no_place type o) kinds.BadLocation t.left) _ (is_when (is_no_place type o) kinds.BadLocation t.left e)) h
kind_listed dialect p kinds.BadLocation left (inr h) = missing_listed dialect p kinds.BadLocation left h
kind_listed dialect p kinds.Overlap left h =
    place_listed dialect p kinds.Overlap left (λ b type o. is_overlapping dialect b o) (λ b type t o e. right_in (fault kinds.Overlap t.left) (when (is_no_place type o) kinds.BadLocation t.left) _ (is_when (is_overlapping dialect b o) kinds.Overlap t.left e)) h
kind_listed dialect p kinds.BadInitial left h = start_listed dialect p left h
kind_listed dialect p kinds.ReservedName left (inl h) =
    name_listed dialect p kinds.ReservedName left has_reserved
    (λ b x e. right_in (fault kinds.ReservedName x.name.left) (when (is_doubled dialect b x) kinds.Duplicate x.name.left) _ (left_in (fault kinds.ReservedName x.name.left) (when (has_reserved b x) kinds.ReservedName x.name.left) _ (is_when (has_reserved b x) kinds.ReservedName x.name.left e))) h
kind_listed dialect p kinds.ReservedName left (inr h) = label_listed dialect p left h
kind_listed dialect p kinds.TooMany left (inl h) =
    name_listed dialect p kinds.TooMany left (is_crowded dialect)
    (λ b x e. right_in (fault kinds.TooMany x.name.left) (when (is_doubled dialect b x) kinds.Duplicate x.name.left) _ (right_in (fault kinds.TooMany x.name.left) (when (has_reserved b x) kinds.ReservedName x.name.left) _ (is_when (is_crowded dialect b x) kinds.TooMany x.name.left e))) h
kind_listed dialect p kinds.TooMany left (inr h) = many_listed dialect p left h

-- each fault that the text has is one of the list
pub listed : (dialect : Dialect) → (p : ProgramText) (f : FaultAt) → HasFault dialect p f → Among f (faults_of dialect p)
listed dialect p f h = kind_listed dialect p f.kind f.left h
