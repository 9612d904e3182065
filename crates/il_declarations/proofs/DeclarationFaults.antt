-- The walk over declarations ends at the first of their faults, and else has their variables and instances.
use Rattle.std.proofs.Common.{◌≡◌, ℕ, Bool, true, false, cond, List, [], ◌∷◌, ◌++◌, map, Option, Some, None, Result, Ok, refl, sym, ap, subst, ◌∙◌, not, ◌||◌, append_assoc}
use Rattle.std.specs.Prelude.{is_some, is_none}
use Rattle.std.specs.List.{filter_map, flat_map, list_any}
use Rattle.std.proofs.lemmas.List.{append-nil}
use Rattle.std.proofs.lemmas.List.Elements.{filter_map-append}
use Rattle.std.proofs.lemmas.List.Concat.{flat_map-append}
use Rattle.il_model.specs.declared.dialect.Dialect.{Dialect}
use Rattle.il_values.specs.declared.value.Ty.{Ty}
use Rattle.il_values.specs.declared.value.Value.{Value}
use Rattle.il_values.specs.declared.value.Value.TheVariants as values
use Rattle.il_model.specs.declared.program.Loc.{Loc}
use Rattle.il_model.specs.Program.{Declarations}
use Rattle.il_model.specs.Words.{is_reserved}
use Rattle.il_model.specs.CodedOperands.{loc_code}
use Rattle.il_model.specs.Codes.{is_taken, is_overlapped}
use Rattle.il_model.specs.Dialects.{location_in}
use Rattle.il_model.specs.Locations.{parts_of}
use Rattle.il_values.specs.Values.{zero_of}
use Rattle.il_reader.specs.Tokens.{Token}
use Rattle.il_reader.specs.Grammar.{NamesText, Located, More, DeclarationText, ProgramText}
use Rattle.il_declarations.specs.declared.variables.Plan.{Plan}
use Rattle.il_declarations.specs.declared.variables.DeclaredType.{DeclaredType}
use Rattle.il_declarations.specs.declared.variables.DeclaredType.TheVariants.{Elementary, Block}
use Rattle.il_declarations.specs.declared.fault.DeclKind.TheVariants as kinds
use Rattle.il_declarations.specs.declared.fault.FaultAt.{FaultAt}
use Rattle.il_declarations.specs.Resolution.{capitals, declared_type, suits, place_as, written_value}
use Rattle.il_declarations.specs.Walk.{◌>>=◌, each, refused, nothing, has_name, has_instance, is_shadowed, is_full, new_name, free_loc, free_location, found_type, known_type, fitted, elementary_value, first_value, planned_value, with_declared, plan_of, declare_name, declare_located, declare_listed, declare_by, declare, declare_block}
use Rattle.il_declarations.specs.Declaring.{DeclaredName, BlockDeclaration, named_in, other_names, names_in, declarations_in, declarations_of, type_in, written_location, start_of, variable_by, variable_of, is_occupied}
use Rattle.il_declarations.specs.TextFaults.{is_overlapping}
use Rattle.il_declarations.proofs.FaultList.{when, beside, name_faults, place_faults, location_faults, start_faults, declaration_faults, faults_of_declarations}
use Rattle.il_declarations.proofs.Agreeing.{Agrees, done, ok_is, then_agrees, made_agrees, test_agrees, last_agrees, each_agrees, each_kept, each_flat, bind_ok, bind_assoc}
use Rattle.il_declarations.proofs.Names.{planned, planned_by, planned_start, planned_same, made, taken_known, room_known, place_known, one_more, start_planned}

-- ---- one name

new_agrees : (dialect : Dialect) → (names : List DeclaredName) (d : BlockDeclaration) (t : Token) → Agrees (new_name dialect (type_in dialect d.text) (made dialect names) t) (name_faults dialect names (named_in d t))
unfolding new_name
new_agrees dialect names d t =
    test_agrees _ _ (taken_known dialect names (named_in d t)) kinds.Duplicate t.left _ _
    (test_agrees (is_reserved (capitals t.text)) _ refl kinds.ReservedName t.left _ _
    (last_agrees _ _ (room_known dialect names (type_in dialect d.text)) kinds.TooMany t.left (capitals t.text)))

new_gives : (dialect : Dialect) (type : Option DeclaredType) (known : Declarations) (t : Token) (name : List ℕ) → new_name dialect type known t ≡ Ok name → capitals t.text ≡ name
unfolding new_name
new_gives dialect type known t name e = chosen ((has_name known (capitals t.text) || has_instance known (capitals t.text)) || is_shadowed type known (capitals t.text)) (is_reserved (capitals t.text)) (is_full dialect type known) e
  where
    chosen : (a b c : Bool) → cond a (refused kinds.Duplicate t) (cond b (refused kinds.ReservedName t) (cond c (refused kinds.TooMany t) (Ok (capitals t.text)))) ≡ Ok name → capitals t.text ≡ name
    chosen true b c h = absurd cc
    chosen false true c h = absurd cc
    chosen false false true h = absurd cc
    chosen false false false h = ok_is (capitals t.text) name h

name_agrees : (dialect : Dialect) → (names : List DeclaredName) (d : BlockDeclaration) (plan : Plan) (t : Token) → plan.ty ≡ type_in dialect d.text → Agrees (declare_name dialect plan (made dialect names) t) (name_faults dialect names (named_in d t))
unfolding declare_name
name_agrees dialect names d plan t type =
    made_agrees (new_name dialect plan.ty (made dialect names) t) (λ name. with_declared plan (made dialect names) name None plan.ty) (name_faults dialect names (named_in d t))
    (subst (λ (o : Option DeclaredType). Agrees (new_name dialect o (made dialect names) t) (name_faults dialect names (named_in d t))) (sym type) (new_agrees dialect names d t))

name_kept : (dialect : Dialect) → (names : List DeclaredName) (d : BlockDeclaration) (t : Token) (z : Declarations) → written_location dialect d.text.names ≡ None → declare_name dialect (plan_of dialect d) (made dialect names) t ≡ Ok z → z ≡ made dialect (names ++ named_in d t ∷ [])
unfolding declare_name
name_kept dialect names d t z place e =
    let m = bind_ok (new_name dialect (type_in dialect d.text) (made dialect names) t) (λ name. Ok (with_declared (plan_of dialect d) (made dialect names) name None (type_in dialect d.text))) z e in
    let n = new_gives dialect (type_in dialect d.text) (made dialect names) t m.0 m.1 in
    sym (ok_is (with_declared (plan_of dialect d) (made dialect names) m.0 None (type_in dialect d.text)) z m.2)
    ∙ sym (ap (λ (name : List ℕ). with_declared (plan_of dialect d) (made dialect names) name None (type_in dialect d.text)) n)
    ∙ one_more dialect names (named_in d t) (type_in dialect d.text) (type_in dialect d.text) None (planned_value dialect (type_in dialect d.text) d.text.initial) refl place (planned_same dialect (type_in dialect d.text) d.text.initial)

-- ---- the names of a list

abbrev Stands : (dialect : Dialect) → List DeclaredName → BlockDeclaration → List Token → Declarations → Type 0
Stands dialect names d before y = y ≡ made dialect (names ++ map (named_in d) before)

map_push : (d : BlockDeclaration) (names : List DeclaredName) (before : List Token) (t : Token) → (names ++ map (named_in d) before) ++ named_in d t ∷ [] ≡ names ++ map (named_in d) (before ++ t ∷ [])
map_push d names [] t = ap (λ (xs : List DeclaredName). xs ++ named_in d t ∷ []) (append-nil names)
map_push d names (x ∷ before) t =
    append_assoc names (named_in d x ∷ map (named_in d) before) (named_in d t ∷ [])
    ∙ ap (λ (xs : List DeclaredName). names ++ named_in d x ∷ xs) (map_push d [] before t)

beside_names : (dialect : Dialect) → (d : BlockDeclaration) (names : List DeclaredName) (before ts : List Token) → beside (λ b t. name_faults dialect (names ++ map (named_in d) b) (named_in d t)) before ts ≡ beside (name_faults dialect) (names ++ map (named_in d) before) (map (named_in d) ts)
unfolding beside
beside_names dialect d names before [] = refl
beside_names dialect d names before (t ∷ ts) =
    ap (λ (fs : List FaultAt). (name_faults dialect) (names ++ map (named_in d) before) (named_in d t) ++ fs)
    (beside_names dialect d names (before ++ t ∷ []) ts ∙ ap (λ (b : List DeclaredName). beside (name_faults dialect) b (map (named_in d) ts)) (sym (map_push d names before t)))

names_agree : (dialect : Dialect) → (names : List DeclaredName) (d : BlockDeclaration) (ts : List Token) → written_location dialect d.text.names ≡ None → Agrees (each (declare_name dialect (plan_of dialect d)) (made dialect names) ts) (beside (name_faults dialect) names (map (named_in d) ts))
names_agree dialect names d ts place =
    subst (λ (fs : List FaultAt). Agrees (each (declare_name dialect (plan_of dialect d)) (made dialect names) ts) fs)
    (beside_names dialect d names [] ts ∙ ap (λ (b : List DeclaredName). beside (name_faults dialect) b (map (named_in d) ts)) (append-nil names))
    (each_agrees (Stands dialect names d) (declare_name dialect (plan_of dialect d)) (λ b t. name_faults dialect (names ++ map (named_in d) b) (named_in d t)) agree keep [] ts (made dialect names) (ap (made dialect) (sym (append-nil names))))
  where
    agree : (before : List Token) (t : Token) (y : Declarations) → Stands dialect names d before y → Agrees (declare_name dialect (plan_of dialect d) y t) (name_faults dialect (names ++ map (named_in d) before) (named_in d t))
    agree before t y stands =
        subst (λ (known : Declarations). Agrees (declare_name dialect (plan_of dialect d) known t) (name_faults dialect (names ++ map (named_in d) before) (named_in d t))) (sym stands)
        (name_agrees dialect (names ++ map (named_in d) before) d (plan_of dialect d) t refl)

    keep : (before : List Token) (t : Token) (y z : Declarations) → Stands dialect names d before y → declare_name dialect (plan_of dialect d) y t ≡ Ok z → Stands dialect names d (before ++ t ∷ []) z
    keep before t y z stands e =
        name_kept dialect (names ++ map (named_in d) before) d t z place (subst (λ (known : Declarations). declare_name dialect (plan_of dialect d) known t ≡ Ok z) stands e)
        ∙ ap (made dialect) (map_push d names before t)

names_kept : (dialect : Dialect) → (names : List DeclaredName) (d : BlockDeclaration) (ts : List Token) (z : Declarations) → written_location dialect d.text.names ≡ None → each (declare_name dialect (plan_of dialect d)) (made dialect names) ts ≡ Ok z → z ≡ made dialect (names ++ map (named_in d) ts)
names_kept dialect names d ts z place e = each_kept (Stands dialect names d) (declare_name dialect (plan_of dialect d)) keep [] ts (made dialect names) z (ap (made dialect) (sym (append-nil names))) e
  where
    keep : (before : List Token) (t : Token) (y z : Declarations) → Stands dialect names d before y → declare_name dialect (plan_of dialect d) y t ≡ Ok z → Stands dialect names d (before ++ t ∷ []) z
    keep before t y z stands e =
        name_kept dialect (names ++ map (named_in d) before) d t z place (subst (λ (known : Declarations). declare_name dialect (plan_of dialect d) known t ≡ Ok z) stands e)
        ∙ ap (made dialect) (map_push d names before t)

-- ---- types, locations and first values

type_agrees : (dialect : Dialect) → (t : Token) → Agrees (known_type dialect t) (when (is_none (declared_type dialect t.text)) kinds.UnknownType t.left)
type_agrees dialect t = by_type (declared_type dialect t.text)
  where
    by_type : (o : Option DeclaredType) → Agrees (found_type t o) (when (is_none o) kinds.UnknownType t.left)
    by_type None = ([], refl)
    by_type (Some type) = refl

type_gives : (dialect : Dialect) → (t : Token) (type : DeclaredType) → known_type dialect t ≡ Ok type → declared_type dialect t.text ≡ Some type
type_gives dialect t type e = by_type (declared_type dialect t.text) e
  where
    by_type : (o : Option DeclaredType) → found_type t o ≡ Ok type → o ≡ Some type
    by_type None h = absurd cc
    by_type (Some x) h = ap (λ (y : DeclaredType). Some y) (ok_is x type h)

fitted_agrees : (t : Token) (o : Option Value) → Agrees (fitted t o) (when (is_none o) kinds.BadInitial t.left)
fitted_agrees t None = ([], refl)
fitted_agrees t (Some v) = refl

start_agrees : (dialect : Dialect) → (type : DeclaredType) (loc : Option Loc) (initial : Option Token) → Agrees (first_value dialect type loc initial) (start_faults dialect loc initial (Some type))
start_agrees dialect (Elementary type) loc None = refl
start_agrees dialect (Elementary type) loc (Some t) = fitted_agrees t (written_value dialect type loc t)
start_agrees dialect (Block kind) loc None = refl
start_agrees dialect (Block kind) loc (Some t) = ([], refl)

fitted_gives : (t : Token) (o : Option Value) (v : Value) → fitted t o ≡ Ok v → o ≡ Some v
fitted_gives t None v e = absurd cc
fitted_gives t (Some x) v e = ap (λ (w : Value). Some w) (ok_is x v e)

start_gives : (dialect : Dialect) → (type : Ty) (loc : Option Loc) (initial : Option Token) (v : Value) → elementary_value dialect type loc initial ≡ Ok v → start_of dialect type loc initial ≡ Some v
start_gives dialect type loc None v e = ap (λ (w : Value). Some w) (ok_is (zero_of type) v e)
start_gives dialect type loc (Some t) v e = fitted_gives t (written_value dialect type loc t) v e

all_alike : {X : Type 0} (p q : X → Bool) → ((x : X) → p x ≡ q x) → (xs : List X) → list_any p xs ≡ list_any q xs
all_alike p q same [] = refl
all_alike p q same (x ∷ xs) = rw (same x, all_alike p q same xs) refl

overlap_known : (dialect : Dialect) (names : List DeclaredName) (loc : Loc) → is_overlapped (made dialect names).variables loc ≡ is_overlapping dialect names (Some loc)
overlap_known dialect names loc = all_alike (λ (part : Loc). is_taken (made dialect names).variables (loc_code part)) (λ (part : Loc). is_occupied dialect names (loc_code part)) (λ part. place_known dialect names (loc_code part)) (parts_of loc)

place_agrees : (dialect : Dialect) → (names : List DeclaredName) (type : Option DeclaredType) (t : Token) → Agrees (free_location dialect type (made dialect names) t) (place_faults dialect names type t (location_in dialect t.text))
place_agrees dialect names type t = by_location (location_in dialect t.text)
  where
    swapped : (loc : Loc) (b : Bool) → Agrees (cond b (cond (is_overlapped (made dialect names).variables loc) (refused kinds.Overlap t) (Ok loc)) (refused kinds.BadLocation t)) (when (not b) kinds.BadLocation t.left ++ when (is_overlapping dialect names (Some loc)) kinds.Overlap t.left)
    swapped loc true = last_agrees _ _ (overlap_known dialect names loc) kinds.Overlap t.left loc
    swapped loc false = (when (is_overlapping dialect names (Some loc)) kinds.Overlap t.left, refl)

    by_location : (o : Option Loc) → Agrees (free_loc type (made dialect names) t o) (place_faults dialect names type t o)
    by_location None = ([], refl)
    by_location (Some loc) = swapped loc (suits type loc)

place_gives : (dialect : Dialect) (type : Option DeclaredType) (known : Declarations) (t : Token) (loc : Loc) → free_location dialect type known t ≡ Ok loc → location_in dialect t.text ≡ Some loc
place_gives dialect type known t loc e = by_location (location_in dialect t.text) e
  where
    chosen : (x : Loc) (a b : Bool) → cond a (cond b (refused kinds.Overlap t) (Ok x)) (refused kinds.BadLocation t) ≡ Ok loc → x ≡ loc
    chosen x false b h = absurd cc
    chosen x true true h = absurd cc
    chosen x true false h = ok_is x loc h

    by_location : (o : Option Loc) → free_loc type known t o ≡ Ok loc → o ≡ Some loc
    by_location None h = absurd cc
    by_location (Some x) h = ap (λ (y : Loc). Some y) (chosen x (suits type x) (is_overlapped known.variables x) h)

-- ---- a declaration

-- what a declaration that was not refused gave
record IsKept (dialect : Dialect) (names : List DeclaredName) (d : BlockDeclaration) (z : Declarations) : Type 0 where
  keeps : z ≡ made dialect (names ++ names_in d)
  starts : filter_map (planned dialect) (names_in d) ≡ filter_map (variable_of dialect) (names_in d)

starts_by : (dialect : Dialect) → (d : BlockDeclaration) (type : DeclaredType) (v : Value) → type_in dialect d.text ≡ Some type → first_value dialect type (written_location dialect d.text.names) d.text.initial ≡ Ok v → (x : DeclaredName) → x.by ≡ d.text → planned dialect x ≡ variable_of dialect x
starts_by dialect d type v typed e x is =
    subst (λ (q : DeclarationText). (planned_by dialect x.retained) (capitals x.name.text) (written_location dialect q.names) q.initial (type_in dialect q) ≡ variable_by dialect x.retained (capitals x.name.text) (written_location dialect q.names) q.initial (type_in dialect q)) (sym is)
    (subst (λ (o : Option DeclaredType). (planned_by dialect x.retained) (capitals x.name.text) (written_location dialect d.text.names) d.text.initial o ≡ variable_by dialect x.retained (capitals x.name.text) (written_location dialect d.text.names) d.text.initial o) (sym typed)
    (start_planned dialect x.retained type (capitals x.name.text) (written_location dialect d.text.names) d.text.initial (λ t elementary. good t elementary)))
  where
    good : (t : Ty) → type ≡ Elementary t → is_some (start_of dialect t (written_location dialect d.text.names) d.text.initial) ≡ true
    good t elementary = ap is_some (start_gives dialect t (written_location dialect d.text.names) d.text.initial v (subst (λ (y : DeclaredType). (first_value dialect) y (written_location dialect d.text.names) d.text.initial ≡ Ok v) elementary e))

all_start : (dialect : Dialect) → (d : BlockDeclaration) → ((x : DeclaredName) → x.by ≡ d.text → planned dialect x ≡ variable_of dialect x) → (ts : List Token) → filter_map (planned dialect) (map (named_in d) ts) ≡ filter_map (variable_of dialect) (map (named_in d) ts)
all_start dialect d same [] = refl
all_start dialect d same (t ∷ ts) = rw (same (named_in d t) refl, all_start dialect d same ts) refl

abbrev behind_names : (dialect : Dialect) → BlockDeclaration → Option Loc → Declarations → Result Declarations FaultAt
behind_names dialect d loc named = known_type dialect d.text.ty >>= λ type. first_value dialect type loc d.text.initial >>= λ v. Ok named

behind_agrees : (dialect : Dialect) → (d : BlockDeclaration) (named : Declarations) → Agrees (behind_names dialect d None named) (when (is_none (type_in dialect d.text)) kinds.UnknownType d.text.ty.left ++ start_faults dialect None d.text.initial (type_in dialect d.text))
behind_agrees dialect d named =
    then_agrees (known_type dialect d.text.ty) (λ type. first_value dialect type None d.text.initial >>= λ v. Ok named) _ _ (type_agrees dialect d.text.ty)
    (λ type e. subst (λ (o : Option DeclaredType). Agrees (first_value dialect type None d.text.initial >>= λ v. Ok named) (start_faults dialect None d.text.initial o)) (sym (type_gives dialect d.text.ty type e))
    (made_agrees (first_value dialect type None d.text.initial) (λ v. named) (start_faults dialect None d.text.initial (Some type)) (start_agrees dialect type None d.text.initial)))

-- a list of names, one after the other
listed_is : (dialect : Dialect) → (known : Declarations) (d : BlockDeclaration) (more : List Token) → declare_listed dialect known d more ≡ (each (declare_name dialect (plan_of dialect d)) known (d.text.name ∷ more) >>= behind_names dialect d None)
unfolding declare_listed each
listed_is dialect known d more = sym (bind_assoc (declare_name dialect (plan_of dialect d) known d.text.name) (λ first. each (declare_name dialect (plan_of dialect d)) first more) (behind_names dialect d None))

listed_agrees : (dialect : Dialect) → (names : List DeclaredName) (d : BlockDeclaration) (more : List Token) → d.text.names ≡ More more → Agrees (declare_listed dialect (made dialect names) d more) (declaration_faults dialect names d)
listed_agrees dialect names d more is =
    let place : written_location dialect d.text.names ≡ None = ap (written_location dialect) is in
    let P : NamesText → Type 0 = λ x. Agrees (declare_listed dialect (made dialect names) d more) (beside (name_faults dialect) names (map (named_in d) (d.text.name ∷ other_names x)) ++ (location_faults dialect names (type_in dialect d.text) x ++ (when (is_none (type_in dialect d.text)) kinds.UnknownType d.text.ty.left ++ start_faults dialect (written_location dialect x) d.text.initial (type_in dialect d.text)))) in
    subst P (sym is)
    (rw (listed_is dialect (made dialect names) d more)
    (then_agrees (each (declare_name dialect (plan_of dialect d)) (made dialect names) (d.text.name ∷ more)) (behind_names dialect d None) _ _ (names_agree dialect names d (d.text.name ∷ more) place) (λ named e. behind_agrees dialect d named)))

listed_kept : (dialect : Dialect) → (names : List DeclaredName) (d : BlockDeclaration) (more : List Token) (z : Declarations) → d.text.names ≡ More more → declare_listed dialect (made dialect names) d more ≡ Ok z → IsKept dialect names d z
listed_kept dialect names d more z is e =
    let place : written_location dialect d.text.names ≡ None = ap (written_location dialect) is in
    let a = bind_ok (each (declare_name dialect (plan_of dialect d)) (made dialect names) (d.text.name ∷ more)) (behind_names dialect d None) z (sym (listed_is dialect (made dialect names) d more) ∙ e) in
    let b = bind_ok (known_type dialect d.text.ty) (λ type. first_value dialect type None d.text.initial >>= λ v. Ok a.0) z a.2 in
    let c = bind_ok (first_value dialect b.0 None d.text.initial) (λ v. Ok a.0) z b.2 in
    let started = subst (λ (loc : Option Loc). (first_value dialect) b.0 loc d.text.initial ≡ Ok c.0) (sym place) c.1 in
    record {
      keeps = sym (ok_is a.0 z c.2) ∙ names_kept dialect names d (d.text.name ∷ more) a.0 place a.1 ∙ ap (λ (x : NamesText). (made dialect) (names ++ map (named_in d) (d.text.name ∷ other_names x))) (sym is);
      starts = all_start dialect d (starts_by dialect d b.0 c.0 (type_gives dialect d.text.ty b.0 b.1) started) (d.text.name ∷ other_names d.text.names);
    }

-- a name at a location
abbrev behind_place : (dialect : Dialect) → Declarations → BlockDeclaration → List ℕ → Loc → Result Declarations FaultAt
behind_place dialect known d name loc = known_type dialect d.text.ty >>= λ type. first_value dialect type (Some loc) d.text.initial >>= λ v. Ok (with_declared (record { ty = Some type; initial = v; retained = d.retained }) known name (Some (place_as type loc)) (Some type))

behind_place_agrees : (dialect : Dialect) → (known : Declarations) (d : BlockDeclaration) (name : List ℕ) (loc : Loc) → Agrees (behind_place dialect known d name loc) (when (is_none (type_in dialect d.text)) kinds.UnknownType d.text.ty.left ++ start_faults dialect (Some loc) d.text.initial (type_in dialect d.text))
behind_place_agrees dialect known d name loc =
    then_agrees (known_type dialect d.text.ty) (λ type. first_value dialect type (Some loc) d.text.initial >>= λ v. Ok (with_declared (record { ty = Some type; initial = v; retained = d.retained }) known name (Some (place_as type loc)) (Some type))) _ _ (type_agrees dialect d.text.ty)
    (λ type e. subst (λ (o : Option DeclaredType). Agrees (first_value dialect type (Some loc) d.text.initial >>= λ v. Ok (with_declared (record { ty = Some type; initial = v; retained = d.retained }) known name (Some (place_as type loc)) (Some type))) (start_faults dialect (Some loc) d.text.initial o)) (sym (type_gives dialect d.text.ty type e))
    (made_agrees (first_value dialect type (Some loc) d.text.initial) (λ v. with_declared (record { ty = Some type; initial = v; retained = d.retained }) known name (Some (place_as type loc)) (Some type)) (start_faults dialect (Some loc) d.text.initial (Some type)) (start_agrees dialect type (Some loc) d.text.initial)))

located_agrees : (dialect : Dialect) → (names : List DeclaredName) (d : BlockDeclaration) (at : Token) → d.text.names ≡ Located at → Agrees (declare_located dialect (made dialect names) d at) (declaration_faults dialect names d)
unfolding declare_located beside
located_agrees dialect names d at is =
    let P : NamesText → Type 0 = λ x. Agrees (declare_located dialect (made dialect names) d at) (beside (name_faults dialect) names (map (named_in d) (d.text.name ∷ other_names x)) ++ (location_faults dialect names (type_in dialect d.text) x ++ (when (is_none (type_in dialect d.text)) kinds.UnknownType d.text.ty.left ++ start_faults dialect (written_location dialect x) d.text.initial (type_in dialect d.text)))) in
    subst P (sym is)
    (then_agrees (new_name dialect (type_in dialect d.text) (made dialect names) d.text.name) (λ name. free_location dialect (type_in dialect d.text) (made dialect names) at >>= behind_place dialect (made dialect names) d name) _ _
    (subst (λ (fs : List FaultAt). Agrees (new_name dialect (type_in dialect d.text) (made dialect names) d.text.name) fs) (sym (append-nil (name_faults dialect names (named_in d d.text.name)))) (new_agrees dialect names d d.text.name))
    (λ name e. then_agrees (free_location dialect (type_in dialect d.text) (made dialect names) at) (behind_place dialect (made dialect names) d name) _ _ (place_agrees dialect names (type_in dialect d.text) at)
    (λ loc h. subst (λ (o : Option Loc). Agrees (behind_place dialect (made dialect names) d name loc) (when (is_none (type_in dialect d.text)) kinds.UnknownType d.text.ty.left ++ start_faults dialect o d.text.initial (type_in dialect d.text))) (sym (place_gives dialect (type_in dialect d.text) (made dialect names) at loc h))
    (behind_place_agrees dialect (made dialect names) d name loc))))

start_is : (dialect : Dialect) → (type : DeclaredType) (loc : Option Loc) (initial : Option Token) (v : Value) → first_value dialect type loc initial ≡ Ok v → v ≡ planned_start dialect loc initial (Some type)
start_is dialect (Elementary type) loc initial v e = rw (start_gives dialect type loc initial v e) refl
start_is dialect (Block kind) loc None v e = sym (ok_is (values.Bool false) v e)
start_is dialect (Block kind) loc (Some t) v e = absurd cc

-- what the steps of a declaration at a location gave is kept
located_made : (dialect : Dialect) (names : List DeclaredName) (d : BlockDeclaration) (at : Token) (name : List ℕ) (loc : Loc) (type : DeclaredType) (v : Value) → d.text.names ≡ Located at → new_name dialect (type_in dialect d.text) (made dialect names) d.text.name ≡ Ok name
    → free_location dialect (type_in dialect d.text) (made dialect names) at ≡ Ok loc → known_type dialect d.text.ty ≡ Ok type → first_value dialect type (Some loc) d.text.initial ≡ Ok v
    → IsKept dialect names d (with_declared (record { ty = Some type; initial = v; retained = d.retained }) (made dialect names) name (Some (place_as type loc)) (Some type))
located_made dialect names d at name loc type v is named free typed first =
    let place : written_location dialect d.text.names ≡ Some loc = ap (written_location dialect) is ∙ place_gives dialect (type_in dialect d.text) (made dialect names) at loc free in
    let is_type = type_gives dialect d.text.ty type typed in
    let started = subst (λ (o : Option Loc). first_value dialect type o d.text.initial ≡ Ok v) (sym place) first in
    record {
      keeps = sym (ap (λ (n : List ℕ). with_declared (record { ty = Some type; initial = v; retained = d.retained }) (made dialect names) n (Some (place_as type loc)) (Some type)) (new_gives dialect (type_in dialect d.text) (made dialect names) d.text.name name named))
          ∙ one_more dialect names (named_in d d.text.name) (Some type) (Some type) (Some loc) v is_type place (start_is dialect type (Some loc) d.text.initial v first)
          ∙ ap (λ (x : NamesText). made dialect (names ++ map (named_in d) (d.text.name ∷ other_names x))) (sym is);
      starts = all_start dialect d (starts_by dialect d type v is_type started) (d.text.name ∷ other_names d.text.names);
    }

kept_as : (dialect : Dialect) (names : List DeclaredName) (d : BlockDeclaration) (x z : Declarations) → done x ≡ done z → IsKept dialect names d x → IsKept dialect names d z
kept_as dialect names d x z e kept = subst (IsKept dialect names d) (ok_is x z e) kept

located_kept : (dialect : Dialect) → (names : List DeclaredName) (d : BlockDeclaration) (at : Token) (z : Declarations) → d.text.names ≡ Located at → declare_located dialect (made dialect names) d at ≡ Ok z → IsKept dialect names d z
unfolding declare_located
located_kept dialect names d at z is e =
    let a = bind_ok (new_name dialect (type_in dialect d.text) (made dialect names) d.text.name) (λ name. free_location dialect (type_in dialect d.text) (made dialect names) at >>= behind_place dialect (made dialect names) d name) z e in
    let b = bind_ok (free_location dialect (type_in dialect d.text) (made dialect names) at) (behind_place dialect (made dialect names) d a.0) z a.2 in
    let c = bind_ok (known_type dialect d.text.ty) (λ type. first_value dialect type (Some b.0) d.text.initial >>= λ v. Ok (with_declared (record { ty = Some type; initial = v; retained = d.retained }) (made dialect names) a.0 (Some (place_as type b.0)) (Some type))) z b.2 in
    let f = bind_ok (first_value dialect c.0 (Some b.0) d.text.initial) (λ v. Ok (with_declared (record { ty = Some c.0; initial = v; retained = d.retained }) (made dialect names) a.0 (Some (place_as c.0 b.0)) (Some c.0))) z c.2 in
    kept_as dialect names d (with_declared (record { ty = Some c.0; initial = f.0; retained = d.retained }) (made dialect names) a.0 (Some (place_as c.0 b.0)) (Some c.0)) z f.2 (located_made dialect names d at a.0 b.0 c.0 f.0 is a.1 b.1 c.1 f.1)

by_names_agrees : (dialect : Dialect) → (names : List DeclaredName) (d : BlockDeclaration) (x : NamesText) → d.text.names ≡ x → Agrees (declare_by dialect (made dialect names) d x) (declaration_faults dialect names d)
by_names_agrees dialect names d (Located at) is = located_agrees dialect names d at is
by_names_agrees dialect names d (More more) is = listed_agrees dialect names d more is

by_names_kept : (dialect : Dialect) → (names : List DeclaredName) (d : BlockDeclaration) (x : NamesText) (z : Declarations) → d.text.names ≡ x → declare_by dialect (made dialect names) d x ≡ Ok z → IsKept dialect names d z
by_names_kept dialect names d (Located at) z is e = located_kept dialect names d at z is e
by_names_kept dialect names d (More more) z is e = listed_kept dialect names d more z is e

-- ---- all declarations

abbrev pub before_of : List BlockDeclaration → List DeclaredName
before_of ds = flat_map names_in ds

pub record AreKept (dialect : Dialect) (ds : List BlockDeclaration) (z : Declarations) : Type 0 where
  pub keeps : z ≡ made dialect (before_of ds)
  pub starts : filter_map (planned dialect) (before_of ds) ≡ filter_map (variable_of dialect) (before_of ds)

pub before_push : (ds : List BlockDeclaration) (d : BlockDeclaration) → before_of (ds ++ d ∷ []) ≡ before_of ds ++ names_in d
before_push ds d = flat_map-append names_in ds (d ∷ []) ∙ ap (λ (xs : List DeclaredName). before_of ds ++ xs) (append-nil (names_in d))

declaration_agrees : (dialect : Dialect) → (before : List BlockDeclaration) (d : BlockDeclaration) (y : Declarations) → AreKept dialect before y → Agrees (declare dialect y d) (declaration_faults dialect (before_of before) d)
declaration_agrees dialect before d y are = subst (λ (known : Declarations). Agrees (declare dialect known d) (declaration_faults dialect (before_of before) d)) (sym are.keeps) (by_names_agrees dialect (before_of before) d d.text.names refl)

declaration_kept : (dialect : Dialect) → (before : List BlockDeclaration) (d : BlockDeclaration) (y z : Declarations) → AreKept dialect before y → declare dialect y d ≡ Ok z → AreKept dialect (before ++ d ∷ []) z
declaration_kept dialect before d y z are e =
    let k = by_names_kept dialect (before_of before) d d.text.names z refl (subst (λ (known : Declarations). (declare dialect) known d ≡ Ok z) are.keeps e) in
    record {
      keeps = k.keeps ∙ ap (made dialect) (sym (before_push before d));
      starts = rw (before_push before d, filter_map-append (planned dialect) (before_of before) (names_in d), filter_map-append (variable_of dialect) (before_of before) (names_in d), are.starts, k.starts) refl;
    }

none_kept : (dialect : Dialect) → AreKept dialect [] nothing
none_kept dialect = record { keeps = refl; starts = refl }

pub blocks_agree : (dialect : Dialect) → (p : ProgramText) → Agrees (each (declare_block dialect) nothing p.blocks) (faults_of_declarations dialect (declarations_of p))
blocks_agree dialect p = rw (each_flat (declare dialect) declarations_in nothing p.blocks) (each_agrees (AreKept dialect) (declare dialect) (λ before d. declaration_faults dialect (before_of before) d) (declaration_agrees dialect) (declaration_kept dialect) [] (declarations_of p) nothing (none_kept dialect))

pub blocks_kept : (dialect : Dialect) → (p : ProgramText) (z : Declarations) → each (declare_block dialect) nothing p.blocks ≡ Ok z → AreKept dialect (declarations_of p) z
blocks_kept dialect p z e = each_kept (AreKept dialect) (declare dialect) (declaration_kept dialect) [] (declarations_of p) nothing z (none_kept dialect) (sym (each_flat (declare dialect) declarations_in nothing p.blocks) ∙ e)
