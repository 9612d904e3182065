-- The names that were declared so far, as the walk keeps them.
use Rattle.std.proofs.Common.{◌≡◌, ℕ, suc, Bool, true, false, cond, leb, List, [], ◌∷◌, ◌++◌, length, Option, Some, None, refl, sym, ap, ◌∙◌, ◌&&◌, ◌||◌, not}
use Rattle.std.specs.Prelude.{is_some, nat_eq, unwrap_or}
use Rattle.std.specs.List.{filter, filter_map, list_any, position, cons_option}
use Rattle.std.specs.Option.{option_map}
use Rattle.std.proofs.lemmas.List.{append-nil}
use Rattle.std.proofs.lemmas.List.Elements.{filter_map-append}
use Rattle.il_model.specs.Limits.{most_variables, most_instances}
use Rattle.il_model.specs.Dialects.{newest}
use Rattle.il_model.specs.declared.dialect.Dialect.{Dialect}
use Rattle.il_values.specs.declared.value.Ty.{Ty}
use Rattle.il_values.specs.declared.value.Ty.TheVariants as types
use Rattle.il_values.specs.declared.value.Value.{Value}
use Rattle.il_values.specs.declared.value.Value.TheVariants as values
use Rattle.il_model.specs.declared.program.Loc.{Loc}
use Rattle.il_model.specs.declared.program.Variable.{Variable}
use Rattle.il_model.specs.declared.program.Instance.{Instance}
use Rattle.il_model.specs.Program.{Declarations}
use Rattle.il_model.specs.Words.{same_name, stands_under}
use Rattle.il_model.specs.Codes.{is_taken, has_code}
use Rattle.il_model.proofs.Positions.{position_first, position_later}
use Rattle.il_model.proofs.WrittenLocations.{parts_seen}
use Rattle.il_model.specs.Locations.{seen_as}
use Rattle.il_model.specs.CodedOperands.{loc_code}
use Rattle.il_reader.specs.Tokens.{Token}
use Rattle.il_declarations.specs.declared.variables.DeclaredType.{DeclaredType}
use Rattle.il_declarations.specs.declared.variables.DeclaredType.TheVariants.{Elementary, Block}
use Rattle.il_declarations.specs.Resolution.{capitals, variable, place_as}
use Rattle.il_declarations.specs.Walk.{has_name, has_instance, is_full, planned_value, with_declared}
use Rattle.il_declarations.specs.Walk as walk
use Rattle.il_declarations.specs.Declaring.{DeclaredName, type_in, is_kind, is_instance, is_variable, written_location, start_of, variable_by, instance_by, instance_of, is_called, is_declared, names_variable, names_instance, is_shadowed, is_occupied}
use Rattle.il_declarations.specs.TextFaults.{has_no_room}

-- Whatever stands for the first value of an instance, of an unknown type or of a bad literal, is never used.
abbrev pub planned_start : (dialect : Dialect) → Option Loc → Option Token → Option DeclaredType → Value
planned_start dialect loc initial None = values.Bool false
planned_start dialect loc initial (Some (Elementary type)) = unwrap_or (start_of dialect type loc initial) (values.Bool false)
planned_start dialect loc initial (Some (Block kind)) = values.Bool false

abbrev pub planned_by : (dialect : Dialect) → Bool → List ℕ → Option Loc → Option Token → Option DeclaredType → Option Variable
planned_by dialect r name loc initial None = Some (variable r name types.Bool loc (planned_start dialect loc initial None))
planned_by dialect r name loc initial (Some (Elementary type)) = Some (variable r name type (option_map (seen_as type) loc) (planned_start dialect loc initial (Some (Elementary type))))
planned_by dialect r name loc initial (Some (Block kind)) = None

abbrev pub planned : (dialect : Dialect) → DeclaredName → Option Variable
planned dialect x = planned_by dialect x.retained (capitals x.name.text) (written_location dialect x.by.names) x.by.initial (type_in dialect x.by)

-- what the walk keeps
abbrev pub made : (dialect : Dialect) → List DeclaredName → Declarations
made dialect names = record { variables = filter_map (planned dialect) names; instances = filter_map (instance_of dialect) names }

-- ---- looking up

any_position : {X : Type 0} (p : X → Bool) (xs : List X) → is_some (position p xs) ≡ list_any p xs
any_position p [] = refl
any_position p (x ∷ xs) = chosen (p x) refl (any_position p xs)
  where
    later : (o : Option ℕ) → is_some (option_map suc o) ≡ is_some o
    later None = refl
    later (Some n) = refl

    chosen : (b : Bool) → p x ≡ b → is_some (position p xs) ≡ list_any p xs → is_some (position p (x ∷ xs)) ≡ (p x || list_any p xs)
    chosen true e more = ap is_some (position_first p x xs e) ∙ rw e refl
    chosen false e more = ap is_some (position_later p x xs e) ∙ (later (position p xs) ∙ (more ∙ rw e refl))

abbrev passes : {X : Type 0} → (X → Bool) → Option X → Bool
passes p None = false
passes p (Some x) = p x

any_kept : {X Y : Type 0} (h : X → Option Y) (p : Y → Bool) (q : X → Bool) → ((x : X) → passes p (h x) ≡ q x) → (xs : List X) → list_any p (filter_map h xs) ≡ list_any q xs
any_kept h p q same [] = refl
any_kept h p q same (x ∷ xs) = found (h x) ∙ (ap (λ (b : Bool). b || list_any p (filter_map h xs)) (same x) ∙ ap (λ (b : Bool). q x || b) (any_kept h p q same xs))
  where
    found : (o : Option _) → list_any p (cons_option o (filter_map h xs)) ≡ (passes p o || list_any p (filter_map h xs))
    found None = refl
    found (Some y) = refl

variable_called : (dialect : Dialect) → (r : Bool) (name n : List ℕ) (loc : Option Loc) (initial : Option Token) (o : Option DeclaredType) → passes (λ (v : Variable). same_name v.name n) (planned_by dialect r name loc initial o) ≡ (not (is_kind o) && same_name name n)
variable_called dialect r name n loc initial None = refl
variable_called dialect r name n loc initial (Some (Elementary type)) = refl
variable_called dialect r name n loc initial (Some (Block kind)) = refl

instance_called : (r : Bool) (name n : List ℕ) (o : Option DeclaredType) → passes (λ (x : Instance). same_name x.name n) (instance_by r name o) ≡ (is_kind o && same_name name n)
instance_called r name n None = refl
instance_called r name n (Some (Elementary type)) = refl
instance_called r name n (Some (Block kind)) = refl

variable_placed : (dialect : Dialect) → (r : Bool) (name : List ℕ) (n : ℕ) (loc : Option Loc) (initial : Option Token) (o : Option DeclaredType) → passes (λ (v : Variable). has_code n v.location) (planned_by dialect r name loc initial o) ≡ (not (is_kind o) && has_code n loc)
variable_placed dialect r name n loc initial None = refl
variable_placed dialect r name n None initial (Some (Elementary type)) = refl
variable_placed dialect r name n (Some l) initial (Some (Elementary type)) = ap (λ (parts : List Loc). list_any (λ (part : Loc). nat_eq (loc_code part) n) parts) (parts_seen type l)
variable_placed dialect r name n loc initial (Some (Block kind)) = refl

pub name_known : (dialect : Dialect) → (names : List DeclaredName) (n : List ℕ) → has_name (made dialect names) n ≡ names_variable dialect names n
name_known dialect names n =
    any_position (λ (v : Variable). same_name v.name n) (filter_map (planned dialect) names)
    ∙ any_kept (planned dialect) (λ (v : Variable). same_name v.name n) (λ x. is_variable dialect x && is_called n x) (λ x. variable_called dialect x.retained (capitals x.name.text) n (written_location dialect x.by.names) x.by.initial (type_in dialect x.by)) names

pub instance_known : (dialect : Dialect) → (names : List DeclaredName) (n : List ℕ) → has_instance (made dialect names) n ≡ names_instance dialect names n
instance_known dialect names n =
    any_position (λ (x : Instance). same_name x.name n) (filter_map (instance_of dialect) names)
    ∙ any_kept (instance_of dialect) (λ (x : Instance). same_name x.name n) (λ x. is_instance dialect x && is_called n x) (λ x. instance_called x.retained (capitals x.name.text) n (type_in dialect x.by)) names

pub place_known : (dialect : Dialect) → (names : List DeclaredName) (n : ℕ) → is_taken (made dialect names).variables n ≡ is_occupied dialect names n
place_known dialect names n =
    any_position (λ (v : Variable). has_code n v.location) (filter_map (planned dialect) names)
    ∙ any_kept (planned dialect) (λ (v : Variable). has_code n v.location) (λ x. is_variable dialect x && has_code n (written_location dialect x.by.names)) (λ x. variable_placed dialect x.retained (capitals x.name.text) n (written_location dialect x.by.names) x.by.initial (type_in dialect x.by)) names

both : (i c a b d : Bool) → (a || b) ≡ d → (((not i && c) || a) || ((i && c) || b)) ≡ (c || d)
both true true true b d e = refl
both true true false b d e = refl
both true false a b d e = e
both false true a b d e = refl
both false false a b d e = e

declared_known : (dialect : Dialect) → (names : List DeclaredName) (n : List ℕ) → (has_name (made dialect names) n || has_instance (made dialect names) n) ≡ is_declared names n
declared_known dialect names n = rw (name_known dialect names n, instance_known dialect names n) (together names)
  where
    together : (xs : List DeclaredName) → (names_variable dialect xs n || names_instance dialect xs n) ≡ is_declared xs n
    together [] = refl
    together (x ∷ xs) = both (is_instance dialect x) (is_called n x) (names_variable dialect xs n) (names_instance dialect xs n) (is_declared xs n) (together xs)

-- ---- variables under instances

variable_under : (dialect : Dialect) → (r : Bool) (name n : List ℕ) (loc : Option Loc) (initial : Option Token) (o : Option DeclaredType) → passes (λ (v : Variable). stands_under n v.name) (planned_by dialect r name loc initial o) ≡ (not (is_kind o) && stands_under n name)
variable_under dialect r name n loc initial None = refl
variable_under dialect r name n loc initial (Some (Elementary type)) = refl
variable_under dialect r name n loc initial (Some (Block kind)) = refl

instance_under : (r : Bool) (name n : List ℕ) (o : Option DeclaredType) → passes (λ (x : Instance). stands_under x.name n) (instance_by r name o) ≡ (is_kind o && stands_under name n)
instance_under r name n None = refl
instance_under r name n (Some (Elementary type)) = refl
instance_under r name n (Some (Block kind)) = refl

instances_over : (dialect : Dialect) (names : List DeclaredName) (n : List ℕ) → list_any (λ (x : Instance). stands_under x.name n) (made dialect names).instances ≡ list_any (λ y. is_instance dialect y && stands_under (capitals y.name.text) n) names
instances_over dialect names n = any_kept (instance_of dialect) (λ (x : Instance). stands_under x.name n) (λ y. is_instance dialect y && stands_under (capitals y.name.text) n) (λ y. instance_under y.retained (capitals y.name.text) n (type_in dialect y.by)) names

variables_under : (dialect : Dialect) (names : List DeclaredName) (n : List ℕ) → list_any (λ (v : Variable). stands_under n v.name) (made dialect names).variables ≡ list_any (λ y. is_variable dialect y && stands_under n (capitals y.name.text)) names
variables_under dialect names n = any_kept (planned dialect) (λ (v : Variable). stands_under n v.name) (λ y. is_variable dialect y && stands_under n (capitals y.name.text)) (λ y. variable_under dialect y.retained (capitals y.name.text) n (written_location dialect y.by.names) y.by.initial (type_in dialect y.by)) names

shadow_known : (dialect : Dialect) (names : List DeclaredName) (x : DeclaredName) → walk.is_shadowed (type_in dialect x.by) (made dialect names) (capitals x.name.text) ≡ is_shadowed dialect names x
shadow_known dialect names x = by_type (type_in dialect x.by)
  where
    by_type : (o : Option DeclaredType) → walk.is_shadowed o (made dialect names) (capitals x.name.text)
        ≡ list_any (λ y. cond (is_kind o) (is_variable dialect y && stands_under (capitals x.name.text) (capitals y.name.text)) (is_instance dialect y && stands_under (capitals y.name.text) (capitals x.name.text))) names
    by_type None = instances_over dialect names (capitals x.name.text)
    by_type (Some (Elementary type)) = instances_over dialect names (capitals x.name.text)
    by_type (Some (Block kind)) = variables_under dialect names (capitals x.name.text)

-- what the walk refuses as declared before
pub taken_known : (dialect : Dialect) (names : List DeclaredName) (x : DeclaredName) → let n = capitals x.name.text in
    ((has_name (made dialect names) n || has_instance (made dialect names) n) || walk.is_shadowed (type_in dialect x.by) (made dialect names) n) ≡ (is_declared names n || is_shadowed dialect names x)
taken_known dialect names x =
    let n = capitals x.name.text in
    ap (λ (b : Bool). b || walk.is_shadowed (type_in dialect x.by) (made dialect names) n) (declared_known dialect names n)
    ∙ ap (λ (b : Bool). is_declared names n || b) (shadow_known dialect names x)

-- ---- counting

variables_counted : (dialect : Dialect) → (names : List DeclaredName) → length (filter_map (planned dialect) names) ≡ length (filter (is_variable dialect) names)
variables_counted dialect [] = refl
variables_counted dialect (x ∷ xs) = step (type_in dialect x.by) (variables_counted dialect xs)
  where
    step : (o : Option DeclaredType) → length (filter_map (planned dialect) xs) ≡ length (filter (is_variable dialect) xs) → length (cons_option (planned_by dialect x.retained (capitals x.name.text) (written_location dialect x.by.names) x.by.initial o) (filter_map (planned dialect) xs)) ≡ length (cond (not (is_kind o)) (x ∷ filter (is_variable dialect) xs) (filter (is_variable dialect) xs))
    step None more = ap suc more
    step (Some (Elementary type)) more = ap suc more
    step (Some (Block kind)) more = more

instances_counted : (dialect : Dialect) → (names : List DeclaredName) → length (filter_map (instance_of dialect) names) ≡ length (filter (is_instance dialect) names)
instances_counted dialect [] = refl
instances_counted dialect (x ∷ xs) = step (type_in dialect x.by) (instances_counted dialect xs)
  where
    step : (o : Option DeclaredType) → length (filter_map (instance_of dialect) xs) ≡ length (filter (is_instance dialect) xs) → length (cons_option (instance_by x.retained (capitals x.name.text) o) (filter_map (instance_of dialect) xs)) ≡ length (cond (is_kind o) (x ∷ filter (is_instance dialect) xs) (filter (is_instance dialect) xs))
    step None more = more
    step (Some (Elementary type)) more = more
    step (Some (Block kind)) more = ap suc more

pub room_known : (dialect : Dialect) → (names : List DeclaredName) (o : Option DeclaredType) → is_full dialect o (made dialect names) ≡ has_no_room dialect o names
room_known dialect names None = refl
room_known dialect names (Some (Elementary type)) = ap (leb (most_variables (newest dialect))) (variables_counted dialect names)
room_known dialect names (Some (Block kind)) = ap (leb (most_instances (newest dialect))) (instances_counted dialect names)

-- ---- one name more

pub planned_same : (dialect : Dialect) → (o : Option DeclaredType) (initial : Option Token) → planned_value dialect o initial ≡ planned_start dialect None initial o
planned_same dialect None None = refl
planned_same dialect None (Some t) = refl
planned_same dialect (Some (Elementary type)) None = refl
planned_same dialect (Some (Elementary type)) (Some t) = refl
planned_same dialect (Some (Block kind)) None = refl
planned_same dialect (Some (Block kind)) (Some t) = refl

-- where a declaration of a type puts its variable
abbrev pub placed : Option DeclaredType → Option Loc → Option Loc
placed type None = None
placed None (Some l) = Some l
placed (Some type) (Some l) = Some (place_as type l)

not_placed : (loc : Option Loc) → placed None loc ≡ loc
not_placed None = refl
not_placed (Some l) = refl

placed_seen : (type : Ty) (loc : Option Loc) → placed (Some (Elementary type)) loc ≡ option_map (seen_as type) loc
placed_seen type None = refl
placed_seen type (Some l) = refl

pub one_more : (dialect : Dialect) → (names : List DeclaredName) (x : DeclaredName) (o ty : Option DeclaredType) (loc : Option Loc) (v : Value) → type_in dialect x.by ≡ o → written_location dialect x.by.names ≡ loc → v ≡ planned_start dialect loc x.by.initial o
    → with_declared (record { ty = ty; initial = v; retained = x.retained }) (made dialect names) (capitals x.name.text) (placed o loc) o ≡ made dialect (names ++ x ∷ [])
one_more dialect names x o ty loc v type place start =
    by_type o start
    ∙ sym (ap (λ (q : Option DeclaredType). grown (planned_by dialect x.retained (capitals x.name.text) (written_location dialect x.by.names) x.by.initial q) (instance_by x.retained (capitals x.name.text) q)) type
    ∙ ap (λ (l : Option Loc). grown (planned_by dialect x.retained (capitals x.name.text) l x.by.initial o) (instance_by x.retained (capitals x.name.text) o)) place)
    ∙ sym (rw (filter_map-append (planned dialect) names (x ∷ []), filter_map-append (instance_of dialect) names (x ∷ [])) refl)
  where
    grown : Option Variable → Option Instance → Declarations
    grown a b = record { variables = filter_map (planned dialect) names ++ cons_option a []; instances = filter_map (instance_of dialect) names ++ cons_option b [] }

    by_type : (q : Option DeclaredType) → v ≡ planned_start dialect loc x.by.initial q → with_declared (record { ty = ty; initial = v; retained = x.retained }) (made dialect names) (capitals x.name.text) (placed q loc) q ≡ grown (planned_by dialect x.retained (capitals x.name.text) loc x.by.initial q) (instance_by x.retained (capitals x.name.text) q)
    by_type None e = rw (e, append-nil (filter_map (instance_of dialect) names), not_placed loc) refl
    by_type (Some (Elementary type)) e = rw (e, append-nil (filter_map (instance_of dialect) names), placed_seen type loc) refl
    by_type (Some (Block kind)) e = rw (append-nil (filter_map (planned dialect) names)) refl

-- ---- first values

pub start_planned : (dialect : Dialect) → (r : Bool) (type : DeclaredType) (name : List ℕ) (loc : Option Loc) (initial : Option Token) → ((t : Ty) → type ≡ Elementary t → is_some (start_of dialect t loc initial) ≡ true) → planned_by dialect r name loc initial (Some type) ≡ variable_by dialect r name loc initial (Some type)
start_planned dialect r (Block kind) name loc initial good = refl
start_planned dialect r (Elementary t) name loc initial good = by_start (start_of dialect t loc initial) (good t refl)
  where
    by_start : (o : Option Value) → is_some o ≡ true → Some (variable r name t (option_map (seen_as t) loc) (unwrap_or o (values.Bool false))) ≡ option_map (variable r name t (option_map (seen_as t) loc)) o
    by_start None e = absurd cc
    by_start (Some v) e = refl
