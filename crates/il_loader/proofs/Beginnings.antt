-- What more bytes change: what was read stays, what was cut off may go on, and every other fault stays a fault.
use Rattle.std.proofs.Common.{◌≡◌, ℕ, zero, suc, ◌-◌, ◌<◌, ◌≤◌, Bool, true, false, cond, ltb, List, [], ◌∷◌, ◌++◌, length, take, drop, Option, Some, None, Result, Ok, Err, refl, sym, ap, subst, ◌∙◌, arith, inl, inr, ◌&&◌}
use Rattle.std.specs.Prelude.{◌⊎◌, nat_le, nat_eq}
use Rattle.std.specs.Int.{Width, w8, w16, w32, byte_len, from_be_bytes}
use Rattle.std.proofs.lemmas.Bool.{ltb-false, le-ltb, ne_eqb}
use Rattle.std.proofs.lemmas.List.{length-append}
use Rattle.il_values.specs.declared.value.Ty.{Ty}
use Rattle.il_values.specs.declared.value.Value.{Value}
use Rattle.il_model.specs.declared.codes.Version.{Version}
use Rattle.il_model.specs.Limits.{most_variables, most_instances, most_instructions, most_constants}
use Rattle.il_model.specs.declared.program.Loc.{Loc}
use Rattle.il_model.specs.declared.program.Variable.{Variable}
use Rattle.il_model.specs.declared.program.Instance.{Instance}
use Rattle.il_model.specs.declared.program.Side.{Side}
use Rattle.il_model.specs.Program.{Program, Declarations}
use Rattle.il_model.specs.Marks.{Mark}
use Rattle.il_model.specs.Image.{magic, number_width, may_call, spelling}
use Rattle.il_model.specs.Kinds.{kind_of_code}
use Rattle.il_model.specs.Codes.{is_new_name, is_new_instance, is_new_label, length_in, type_in, retained_in, version_numbered, coded_location_in, initial_of, constant_of, op_in, letters_of, word_operand_in, side_of, argument_number, argument_operand_in}
use Rattle.il_model.specs.Fits.{IsImage}
use Rattle.il_records.specs.declared.counts.Counts.{Counts}
use Rattle.il_records.specs.declared.fault.LoadFault.{LoadFault}
use Rattle.il_records.specs.declared.fault.LoadFault.TheVariants.{Truncated, BadMagic, BadCount, BadWord, Trailing}
use Rattle.il_records.specs.declared.fault.LoadError.{LoadError}
use Rattle.il_loader.specs.Tables.{Tables}
use Rattle.il_loader.specs.Reading.{items_from, name_at, variable_at, instance_at, mark_at, instruction_at, argument_at, word_by, word_at, next_word, ended, bodies_at, tables_at}
use Rattle.il_records.specs.Fields.{◌>>=◌, Gives, number_at, signed_at, lawful, agrees, count_at, counts_at, lawful_version, header_at, spelled_name_at, first_value_at, declared_at, constant_at}
use Rattle.il_loader.specs.Judging.{judged_tables, image_of}
use Rattle.il_loader.proofs.Fields.{bind_ok}
use Rattle.il_loader.proofs.Images.{image_again}

abbrev IsErr : {X : Type 0} → Result X LoadFault → Type 0
IsErr (Ok x) = ⊥
IsErr (Err f) = Unit {0}

-- what comes of a reading with more bytes, where P says it of what was read without them
abbrev Relates : {X : Type 0} → (X → Result X LoadFault → Type 0) → Result X LoadFault → Result X LoadFault → Type 0
Relates P (Ok x) b = P x b
Relates P (Err f) b = (f ≡ Truncated) ⊎ IsErr b

-- the same is read, changed so
abbrev Grows : {X : Type 0} → (X → X) → Result X LoadFault → Result X LoadFault → Type 0
Grows g a b = Relates (λ x b. b ≡ Ok (g x)) a b

-- with so many bytes behind those that are left
abbrev grown : {X : Type 0} → List ℕ → X × List ℕ → X × List ℕ
grown more x = (x.0, x.1 ++ more)

binds : {X Y : Type 0} (g : X → X) (P : Y → Result Y LoadFault → Type 0) (a b : Result X LoadFault) (F G : X → Result Y LoadFault) → Grows g a b → ((x : X) → Relates P (F x) (G (g x))) → Relates P (a >>= F) (b >>= G)
binds g P (Ok x) b F G is more = subst (λ (b : Result _ LoadFault). Relates P (F x) (b >>= G)) (sym is) (more x)
binds g P (Err f) b F G (inl cut) more = inl cut
binds g P (Err f) (Ok y) F G (inr fails) more = absurd fails
binds g P (Err f) (Err d) F G (inr fails) more = inr tt

abbrev id_at : {X : Type 0} → X → X
id_at x = x

lawful_grows : {A : Type 0} (p q : ℕ) (o : Option A) → Grows id_at (lawful p o) (lawful q o)
lawful_grows p q (Some x) = refl
lawful_grows p q None = inr tt

agrees_grows : (f g : LoadFault) (b : Bool) → Grows id_at (agrees f b) (agrees g b)
agrees_grows f g true = refl
agrees_grows f g false = inr tt

version_grows : (o : Option Version) → Grows id_at (lawful_version o) (lawful_version o)
version_grows (Some v) = refl
version_grows None = inr tt

-- ---- so many bytes

take_front : (n : ℕ) (xs ys : List ℕ) → n ≤ length xs → take n (xs ++ ys) ≡ take n xs
take_front zero xs ys le = refl
take_front (suc n) [] ys le = absurd (omega (arith, le))
take_front (suc n) (x ∷ xs) ys le = ap (λ (zs : List ℕ). x ∷ zs) (take_front n xs ys (omega (arith, le)))

drop_front : (n : ℕ) (xs ys : List ℕ) → n ≤ length xs → drop n (xs ++ ys) ≡ drop n xs ++ ys
drop_front zero xs ys le = refl
drop_front (suc n) [] ys le = absurd (omega (arith, le))
drop_front (suc n) (x ∷ xs) ys le = drop_front n xs ys (omega (arith, le))

-- so many bytes, made into something
abbrev piece : {X : Type 0} → (List ℕ → X) → ℕ → List ℕ → Result (X × List ℕ) LoadFault
piece f n bytes = cond (ltb (length bytes) n) (Err Truncated) (Ok (f (take n bytes), drop n bytes))

piece_by : {X : Type 0} (f : List ℕ → X) (n : ℕ) (bytes : List ℕ) → n ≤ length bytes → piece f n bytes ≡ Ok (f (take n bytes), drop n bytes)
piece_by f n bytes le = rw (le-ltb (length bytes) n le) refl

piece_grows : {X : Type 0} (f : List ℕ → X) (n : ℕ) (bytes more : List ℕ) → Grows (grown more) (piece f n bytes) (piece f n (bytes ++ more))
piece_grows f n bytes more =
    elim (ltb (length bytes) n) as (λ b. ltb (length bytes) n ≡ b → Grows (grown more) (cond b (Err Truncated) (Ok (f (take n bytes), drop n bytes))) (piece f n (bytes ++ more))) [
      | true ↦ λ is. inl refl
      | false ↦ λ is. (
          let le : n ≤ length bytes = ltb-false (length bytes) n is in
          let more_le : n ≤ length (bytes ++ more) = omega (arith, le, length-append bytes more) in
          piece_by f n (bytes ++ more) more_le
          ∙ ap (λ (xs : List ℕ). let r : Result (_ × List ℕ) LoadFault = Ok (f xs, drop n (bytes ++ more)) in r) (take_front n bytes more le)
          ∙ ap (λ (xs : List ℕ). let r : Result (_ × List ℕ) LoadFault = Ok (f (take n bytes), xs) in r) (drop_front n bytes more le))
    ] refl

number_grows : (w : Width) (bytes more : List ℕ) → Grows (grown more) (number_at w bytes) (number_at w (bytes ++ more))
number_grows w bytes more = piece_grows (from_be_bytes w) (byte_len w) bytes more

signed_grows : (version : Version) (bytes more : List ℕ) → Grows (grown more) (signed_at version bytes) (signed_at version (bytes ++ more))
signed_grows version bytes more = binds (grown more) _ _ _ _ _ (number_grows (number_width version) bytes more) (λ x. refl)

-- ---- the header

count_grows : (limit : ℕ) (bytes more : List ℕ) → Grows (grown more) (count_at limit bytes) (count_at limit (bytes ++ more))
count_grows limit bytes more = binds (grown more) _ _ _ _ _ (number_grows w16 bytes more) (λ n. binds id_at _ _ _ _ _ (agrees_grows BadCount BadCount (nat_le n.0 limit)) (λ u. refl))

counts_grow : (version : Version) (bytes more : List ℕ) → Grows (grown more) (counts_at version bytes) (counts_at version (bytes ++ more))
unfolding counts_at
counts_grow version bytes more =
    binds (grown more) _ _ _ _ _ (count_grows (most_variables version) bytes more) (λ a.
    binds (grown more) _ _ _ _ _ (count_grows (most_instances version) a.1 more) (λ b.
    binds (grown more) _ _ _ _ _ (count_grows (most_instructions version) b.1 more) (λ c.
    binds (grown more) _ _ _ _ _ (count_grows (most_constants version) c.1 more) (λ d.
    binds (grown more) _ _ _ _ _ (count_grows 36864 d.1 more) (λ e. refl)))))

abbrev head_grown : List ℕ → Version × Counts × List ℕ → Version × Counts × List ℕ
head_grown more x = (x.0, x.1, x.2 ++ more)

header_grows : (bytes more : List ℕ) → Grows (head_grown more) (header_at bytes) (header_at (bytes ++ more))
unfolding header_at
header_grows bytes more =
    binds (grown more) _ _ _ _ _ (number_grows w32 bytes more) (λ word.
    binds id_at _ _ _ _ _ (agrees_grows BadMagic BadMagic (nat_eq word.0 (from_be_bytes w32 magic))) (λ u.
    binds (grown more) _ _ _ _ _ (number_grows w16 word.1 more) (λ number.
    binds id_at _ _ _ _ _ (version_grows (version_numbered number.0)) (λ version.
    binds (grown more) _ _ _ _ _ (counts_grow version number.1 more) (λ counts. refl)))))

-- ---- records

spelled_grows : (version : Version) (p q : ℕ) (bytes more : List ℕ) → Grows (grown more) (spelled_name_at version p bytes) (spelled_name_at version q (bytes ++ more))
unfolding spelled_name_at
spelled_grows version p q bytes more =
    binds (grown more) _ _ _ _ _ (number_grows w8 bytes more) (λ first.
    binds id_at _ _ _ _ _ (lawful_grows p q (length_in version first.0)) (λ n. piece_grows (λ xs. xs) n first.1 more))

name_grows : (version : Version) (p q : ℕ) (is_new : List ℕ → Bool) (bytes more : List ℕ) → Grows (grown more) (name_at version p is_new bytes) (name_at version q is_new (bytes ++ more))
unfolding name_at
name_grows version p q is_new bytes more =
    binds (grown more) _ _ _ _ _ (spelled_grows version p q bytes more) (λ name.
    binds id_at _ _ _ _ _ (agrees_grows (BadWord p) (BadWord q) (may_call version name.0 && is_new name.0)) (λ u. refl))

first_value_grows : (version : Version) (p q : ℕ) (type : Ty) (loc : Option Loc) (bytes more : List ℕ) → Grows (grown more) (first_value_at version p type loc bytes) (first_value_at version q type loc (bytes ++ more))
unfolding first_value_at
first_value_grows version p q type loc bytes more =
    binds (grown more) _ _ _ _ _ (signed_grows version bytes more) (λ number.
    binds id_at _ _ _ _ _ (lawful_grows p q (initial_of type loc number.0)) (λ value. refl))

declared_grows : (version : Version) (p q : ℕ) (bytes more : List ℕ) → Grows (grown more) (declared_at version p bytes) (declared_at version q (bytes ++ more))
unfolding declared_at
declared_grows version p q bytes more =
    binds (grown more) _ _ _ _ _ (number_grows w8 bytes more) (λ code.
    binds id_at _ _ _ _ _ (lawful_grows p q (retained_in version code.0)) (λ retained. refl))

variable_grows : (version : Version) (total full : ℕ) (more : List ℕ) (seen : List Variable) (bytes : List ℕ) → Grows (grown more) (variable_at version total seen bytes) (variable_at version full seen (bytes ++ more))
unfolding variable_at
variable_grows version total full more seen bytes =
    let p = total - length bytes in
    let q = full - length (bytes ++ more) in
    binds (grown more) _ _ _ _ _ (name_grows version p q (is_new_name seen) bytes more) (λ name.
    binds (grown more) _ _ _ _ _ (declared_grows version p q name.1 more) (λ code.
    binds id_at _ _ _ _ _ (lawful_grows p q (type_in version code.0.1)) (λ type.
    binds (grown more) _ _ _ _ _ (number_grows w16 code.1 more) (λ place.
    binds id_at _ _ _ _ _ (lawful_grows p q (coded_location_in version seen type place.0)) (λ loc.
    binds (grown more) _ _ _ _ _ (first_value_grows version p q type loc place.1 more) (λ first. refl))))))

instance_grows : (version : Version) (total full : ℕ) (vs : List Variable) (more : List ℕ) (seen : List Instance) (bytes : List ℕ) → Grows (grown more) (instance_at version total vs seen bytes) (instance_at version full vs seen (bytes ++ more))
unfolding instance_at
instance_grows version total full vs more seen bytes =
    let p = total - length bytes in
    let q = full - length (bytes ++ more) in
    binds (grown more) _ _ _ _ _ (name_grows version p q (is_new_instance vs seen) bytes more) (λ name.
    binds (grown more) _ _ _ _ _ (declared_grows version p q name.1 more) (λ code.
    binds id_at _ _ _ _ _ (lawful_grows p q (kind_of_code code.0.1)) (λ kind. refl)))

mark_grows : (version : Version) (total full : ℕ) (more : List ℕ) (seen : List Mark) (bytes : List ℕ) → Grows (grown more) (mark_at version total seen bytes) (mark_at version full seen (bytes ++ more))
unfolding mark_at
mark_grows version total full more seen bytes =
    binds (grown more) _ _ _ _ _ (name_grows version (total - length bytes) (full - length (bytes ++ more)) (is_new_label seen) bytes more) (λ name.
    binds (grown more) _ _ _ _ _ (number_grows w16 name.1 more) (λ address. refl))

constant_grows : (version : Version) (total full : ℕ) (more : List ℕ) (seen : List Value) (bytes : List ℕ) → Grows (grown more) (constant_at version total seen bytes) (constant_at version full seen (bytes ++ more))
unfolding constant_at
constant_grows version total full more seen bytes =
    let p = total - length bytes in
    let q = full - length (bytes ++ more) in
    binds (grown more) _ _ _ _ _ (number_grows w8 bytes more) (λ code.
    binds id_at _ _ _ _ _ (lawful_grows p q (type_in version code.0)) (λ type.
    binds (grown more) _ _ _ _ _ (signed_grows version code.1 more) (λ number.
    binds id_at _ _ _ _ _ (lawful_grows p q (constant_of seen type number.0)) (λ value. refl))))

instruction_grows : (version : Version) (p q : ℕ) (ds : Declarations) (marks : List Mark) (cs : List Value) (n code : ℕ) (bytes more : List ℕ) → Grows (grown more) (instruction_at version p ds marks cs n code bytes) (instruction_at version q ds marks cs n code (bytes ++ more))
unfolding instruction_at
instruction_grows version p q ds marks cs n code bytes more =
    binds id_at _ _ _ _ _ (lawful_grows p q (op_in version code)) (λ op.
    binds (grown more) _ _ _ _ _ (number_grows w8 bytes more) (λ letters.
    binds id_at _ _ _ _ _ (lawful_grows p q (letters_of op letters.0)) (λ m.
    binds (grown more) _ _ _ _ _ (number_grows w16 letters.1 more) (λ slot.
    binds id_at _ _ _ _ _ (lawful_grows p q (word_operand_in version ds marks cs op m slot.0)) (λ operand. refl)))))

argument_grows : (version : Version) (p q : ℕ) (ds : Declarations) (cs : List Value) (side : Side) (bytes more : List ℕ) → Grows (grown more) (argument_at version p ds cs side bytes) (argument_at version q ds cs side (bytes ++ more))
unfolding argument_at
argument_grows version p q ds cs side bytes more =
    binds (grown more) _ _ _ _ _ (number_grows w8 bytes more) (λ number.
    binds id_at _ _ _ _ _ (lawful_grows p q (argument_number number.0)) (λ field.
    binds (grown more) _ _ _ _ _ (number_grows w16 number.1 more) (λ slot.
    binds id_at _ _ _ _ _ (lawful_grows p q (argument_operand_in version ds cs slot.0)) (λ operand. refl))))

by_side : (version : Version) (p q : ℕ) (ds : Declarations) (marks : List Mark) (cs : List Value) (n code : ℕ) (side : Option Side) (bytes more : List ℕ) → Grows (grown more) (word_by version p ds marks cs n code side bytes) (word_by version q ds marks cs n code side (bytes ++ more))
by_side version p q ds marks cs n code None bytes more = instruction_grows version p q ds marks cs n code bytes more
by_side version p q ds marks cs n code (Some side) bytes more = argument_grows version p q ds cs side bytes more

word_grows : (version : Version) (p q : ℕ) (ds : Declarations) (marks : List Mark) (cs : List Value) (n : ℕ) (bytes more : List ℕ) → Grows (grown more) (word_at version p ds marks cs n bytes) (word_at version q ds marks cs n (bytes ++ more))
unfolding word_at
word_grows version p q ds marks cs n bytes more =
    binds (grown more) _ _ _ _ _ (number_grows w8 bytes more) (λ code. by_side version p q ds marks cs n code.0 (side_of code.0) code.1 more)

-- ---- tables

items_grow : {X : Type 0} (item full : List X → List ℕ → Result (X × List ℕ) LoadFault) (more : List ℕ) → ((seen : List X) (bytes : List ℕ) → Grows (grown more) (item seen bytes) (full seen (bytes ++ more)))
    → (n : ℕ) (seen : List X) (bytes : List ℕ) → Grows (grown more) (items_from item n seen bytes) (items_from full n seen (bytes ++ more))
unfolding items_from
items_grow item full more each zero seen bytes = refl
items_grow item full more each (suc n) seen bytes =
    binds (grown more) _ _ _ _ _ (each seen bytes) (λ x. items_grow item full more each n (seen ++ x.0 ∷ []) x.1)

-- tables that are whole have something behind them
abbrev Ends : Result Tables LoadFault → Result Tables LoadFault → Type 0
Ends a b = Relates (λ t b. b ≡ Err Trailing) a b

over : (t : Tables) (rest : List ℕ) → 0 < length rest → ended (t, rest) ≡ Err Trailing
over t rest some = rw (ne_eqb (length rest) 0 (λ is. omega (arith, some, is))) refl

ended_ends : (t : Tables) (rest more : List ℕ) → 0 < length more → Ends (ended (t, rest)) (ended (t, rest ++ more))
ended_ends t rest more some =
    let end : ended (t, rest ++ more) ≡ Err Trailing = over t (rest ++ more) (omega (arith, some, length-append rest more)) in
    elim (nat_eq (length rest) 0) as (λ b. Ends (agrees Trailing b >>= λ _. Ok t) (ended (t, rest ++ more))) [
      | true ↦ end
      | false ↦ inr (subst IsErr (sym end) tt)
    ]

bodies_end : (version : Version) (total full : ℕ) (c : Counts) (bytes more : List ℕ) → 0 < length more → Ends (bodies_at version total c bytes) (bodies_at version full c (bytes ++ more))
unfolding bodies_at
bodies_end version total full c bytes more some =
    binds (grown more) _ _ _ _ _ (items_grow (variable_at version total) (variable_at version full) more (variable_grows version total full more) c.variables [] bytes) (λ vs.
    binds (grown more) _ _ _ _ _ (items_grow (instance_at version total vs.0) (instance_at version full vs.0) more (instance_grows version total full vs.0 more) c.instances [] vs.1) (λ xs.
    binds (grown more) _ _ _ _ _ (items_grow (mark_at version total) (mark_at version full) more (mark_grows version total full more) c.labels [] xs.1) (λ ms.
    binds (grown more) _ _ _ _ _ (items_grow (constant_at version total) (constant_at version full) more (constant_grows version total full more) c.constants [] ms.1) (λ cs.
    let ds : Declarations = record { variables = vs.0; instances = xs.0 } in
    binds (grown more) _ _ _ _ _ (items_grow (next_word version total ds ms.0 cs.0) (next_word version full ds ms.0 cs.0) more (λ seen bytes. word_grows version (total - length bytes) (full - length (bytes ++ more)) ds ms.0 cs.0 (length seen) bytes more) c.words [] cs.1) (λ ws.
    ended_ends _ ws.1 more some)))))

tables_end : (bytes more : List ℕ) → 0 < length more → Ends (tables_at bytes) (tables_at (bytes ++ more))
unfolding tables_at
tables_end bytes more some =
    binds (head_grown more) _ _ _ _ _ (header_grows bytes more) (λ head. bodies_end head.0 (length bytes) (length (bytes ++ more)) head.1 head.2 more some)

-- ---- images

cut_by : (a b : Result Tables LoadFault) (t : Tables) → Ends a b → b ≡ Ok t → a ≡ Err Truncated
cut_by (Ok x) b t end is = absurd (let other : Err Trailing ≡ Ok t = sym end ∙ is in cc)
cut_by (Err f) b t (inl cut) is = ap (λ (f : LoadFault). let r : Result Tables LoadFault = Err f in r) cut
cut_by (Err f) b t (inr fails) is = absurd (subst IsErr is fails)

more_by : (a b : Result Tables LoadFault) (t : Tables) → Ends a b → a ≡ Ok t → b ≡ Err Trailing
more_by (Ok x) b t end is = end
more_by (Err f) b t end is = absurd cc

tables_of_image : (Q : Program) (bytes : List ℕ) → IsImage Q → bytes ≡ spelling Q → (t : Tables) × (tables_at bytes ≡ Ok t)
unfolding image_of
tables_of_image Q bytes is same =
    let a = bind_ok (tables_at bytes) (λ t. judged_tables (length bytes) t) Q (ap image_of same ∙ image_again Q is) in
    (a.0, a.1)

-- what is left of an image is truncated
pub image_cut : (Q : Program) (bytes more : List ℕ) → IsImage Q → bytes ++ more ≡ spelling Q → 0 < length more → image_of bytes ≡ Err Truncated
unfolding image_of
image_cut Q bytes more is same some =
    let t = tables_of_image Q (bytes ++ more) is same in
    rw (cut_by (tables_at bytes) (tables_at (bytes ++ more)) t.0 (tables_end bytes more some) t.1) refl

-- what stands behind an image is trailing
pub image_more : (Q : Program) (bytes more : List ℕ) → IsImage Q → bytes ≡ spelling Q ++ more → 0 < length more → image_of bytes ≡ Err Trailing
unfolding image_of
image_more Q bytes more is same some =
    let t = tables_of_image Q (spelling Q) is refl in
    rw same (rw (more_by (tables_at (spelling Q)) (tables_at (spelling Q ++ more)) t.0 (tables_end (spelling Q) more some) t.1) refl)

-- ---- what a function tells that reads so

pub is_cut : {X : Type 0} (view : X → Program) (bytes more : List ℕ) (r : Result X LoadError) (Q : Program) → IsImage Q → bytes ++ more ≡ spelling Q → 0 < length more → Gives view r (image_of bytes) → Gives view r (Err Truncated)
is_cut view bytes more r Q is same some given = subst (Gives view r) (image_cut Q bytes more is same some) given

pub is_more : {X : Type 0} (view : X → Program) (bytes more : List ℕ) (r : Result X LoadError) (Q : Program) → IsImage Q → bytes ≡ spelling Q ++ more → 0 < length more → Gives view r (image_of bytes) → Gives view r (Err Trailing)
is_more view bytes more r Q is same some given = subst (Gives view r) (image_more Q bytes more is same some) given
