-- Tables that are read are spelled so, and tables that are spelled so are read.
use Rattle.std.proofs.Common.{◌≡◌, ℕ, ◌-◌, ◌^◌, ◌<◌, ◌≤◌, true, Bool, Option, Some, None, List, [], ◌++◌, length, Ok, refl, sym, ap, subst, ◌∙◌, append_assoc, arith}
use Rattle.std.specs.Prelude.{nat_eq, nat_le}
use Rattle.std.specs.List.{flat_map, list_all}
use Rattle.std.specs.Int.{w16, w32, from_be_bytes, to_be_bytes}
use Rattle.std.proofs.lemmas.Bool.{eqb-true, leb-true, le-leb}
use Rattle.std.proofs.lemmas.List.{append-nil, nil_from_length}
use Rattle.il_model.specs.declared.codes.Version.{Version}
use Rattle.il_model.specs.declared.codes.Version.TheVariants as versions
use Rattle.il_model.specs.Program.{Declarations}
use Rattle.il_model.specs.Limits.{most_variables, most_instances, most_instructions, most_constants}
use Rattle.il_model.specs.Image.{magic, version_number, may_call, may_declare, may_instantiate, may_keep, variable_bytes, instance_bytes, mark_bytes, constant_bytes, counts_bytes, header_bytes}
use Rattle.il_model.specs.Marks.{Mark}
use Rattle.il_model.specs.Codes.{version_numbered}
use Rattle.il_model.specs.Fits.{IsVariable, IsInstance, IsMark, IsConstant, AreItems}
use Rattle.il_model.proofs.Versions.{items_may, version_again, version_is}
use Rattle.il_model.proofs.Sizes.{variables_most, instances_most, instructions_most, constants_most}
use Rattle.il_records.specs.declared.counts.Counts.{Counts}
use Rattle.il_loader.specs.declared.word.Word.{Word}
use Rattle.il_records.specs.declared.fault.LoadFault.TheVariants.{BadMagic, BadCount, Trailing}
use Rattle.il_loader.specs.Tables.{Tables, declared_in}
use Rattle.il_loader.specs.Reading.{items_from, variable_at, instance_at, mark_at, next_word, ended, bodies_at, tables_at}
use Rattle.il_records.specs.Fields.{◌>>=◌, number_at, agrees, count_at, counts_at, lawful_version, header_at, constant_at}
use Rattle.il_loader.proofs.Fields.{IsBytes, bind_ok, agrees_ok, ok_is, Takes, Takes-then, wide16, wide32, number_takes, number_again}
use Rattle.il_loader.proofs.Records.{variable_takes, variable_again, instance_takes, instance_again, mark_takes, mark_again, constant_takes, constant_again, may_read, IsNext, read_word_bytes, word_takes, word_again, HasItems, items_take, items_again}

-- ---- the header

count_takes : (limit : ℕ) (bytes : List ℕ) (n : ℕ) (rest : List ℕ) → IsBytes bytes → count_at limit bytes ≡ Ok (n, rest) → Takes bytes (to_be_bytes w16 n) rest × (n ≤ limit)
count_takes limit bytes n rest fits e =
    let a = bind_ok (number_at w16 bytes) (λ n. agrees BadCount (nat_le n.0 limit) >>= λ _. Ok n) (n, rest) e in
    let b = bind_ok (agrees BadCount (nat_le a.0.0 limit)) (λ _. Ok a.0) (n, rest) a.2 in
    let t = number_takes w16 (2 ^ 16) wide16 bytes a.0.0 a.0.1 fits a.1 in
    let le : a.0.0 ≤ limit = leb-true a.0.0 limit (agrees_ok BadCount (nat_le a.0.0 limit) b.0 b.1) in
    subst (λ (y : ℕ × List ℕ). Takes bytes (to_be_bytes w16 y.0) y.1 × (y.0 ≤ limit)) (ok_is a.0 (n, rest) b.2) (t.0, le)

count_again : (limit n : ℕ) (rest : List ℕ) → n ≤ limit → n < 2 ^ 16 → count_at limit (to_be_bytes w16 n ++ rest) ≡ Ok (n, rest)
count_again limit n rest le lt = rw (number_again w16 (2 ^ 16) wide16 n rest lt, le-leb n limit le) refl

regrouped_5 : (a b c d e rest : List ℕ) → (a ++ (b ++ (c ++ (d ++ e)))) ++ rest ≡ a ++ (b ++ (c ++ (d ++ (e ++ rest))))
regrouped_5 a b c d e rest = append_assoc a (b ++ (c ++ (d ++ e))) rest ∙ ap (λ (x : List ℕ). a ++ x) (append_assoc b (c ++ (d ++ e)) rest ∙ ap (λ (x : List ℕ). b ++ x) (append_assoc c (d ++ e) rest ∙ ap (λ (x : List ℕ). c ++ x) (append_assoc d e rest)))

counts_join : (bytes r0 r1 r2 r3 rest : List ℕ) (v i l c w : ℕ) → Takes bytes (to_be_bytes w16 v) r0 → Takes r0 (to_be_bytes w16 i) r1 → Takes r1 (to_be_bytes w16 l) r2 → Takes r2 (to_be_bytes w16 c) r3 → Takes r3 (to_be_bytes w16 w) rest
    → Takes bytes (counts_bytes v i l c w) rest
counts_join bytes r0 r1 r2 r3 rest v i l c w t0 t1 t2 t3 t4 =
    let e34 = Takes-then r2 (to_be_bytes w16 c) r3 (to_be_bytes w16 w) rest t3 t4 in
    let e24 = Takes-then r1 (to_be_bytes w16 l) r2 (to_be_bytes w16 c ++ to_be_bytes w16 w) rest t2 e34 in
    let e14 = Takes-then r0 (to_be_bytes w16 i) r1 (to_be_bytes w16 l ++ (to_be_bytes w16 c ++ to_be_bytes w16 w)) rest t1 e24 in
    Takes-then bytes (to_be_bytes w16 v) r0 (to_be_bytes w16 i ++ (to_be_bytes w16 l ++ (to_be_bytes w16 c ++ to_be_bytes w16 w))) rest t0 e14

pub record AreFew (version : Version) (c : Counts) : Type 0 where
  pub variables : c.variables ≤ most_variables version
  pub instances : c.instances ≤ most_instances version
  pub labels : c.labels ≤ most_instructions version
  pub constants : c.constants ≤ most_constants version
  pub words : c.words ≤ 36864

abbrev pub counts_of_header : Counts → List ℕ
counts_of_header c = counts_bytes c.variables c.instances c.labels c.constants c.words

counts_take : (version : Version) (bytes : List ℕ) (x : Counts × List ℕ) → IsBytes bytes → counts_at version bytes ≡ Ok x → Takes bytes (counts_of_header x.0) x.1 × AreFew version x.0
unfolding counts_at
counts_take version bytes x fits e =
    let b_variables = bind_ok (count_at (most_variables version) bytes) (λ variables. count_at (most_instances version) variables.1 >>= λ instances. count_at (most_instructions version) instances.1 >>= λ labels. count_at (most_constants version) labels.1 >>= λ constants. count_at 36864 constants.1 >>= λ words. Ok (record { variables = variables.0; instances = instances.0; labels = labels.0; constants = constants.0; words = words.0 }, words.1)) x e in
    let b_instances = bind_ok (count_at (most_instances version) b_variables.0.1) (λ instances. count_at (most_instructions version) instances.1 >>= λ labels. count_at (most_constants version) labels.1 >>= λ constants. count_at 36864 constants.1 >>= λ words. Ok (record { variables = b_variables.0.0; instances = instances.0; labels = labels.0; constants = constants.0; words = words.0 }, words.1)) x b_variables.2 in
    let b_labels = bind_ok (count_at (most_instructions version) b_instances.0.1) (λ labels. count_at (most_constants version) labels.1 >>= λ constants. count_at 36864 constants.1 >>= λ words. Ok (record { variables = b_variables.0.0; instances = b_instances.0.0; labels = labels.0; constants = constants.0; words = words.0 }, words.1)) x b_instances.2 in
    let b_constants = bind_ok (count_at (most_constants version) b_labels.0.1) (λ constants. count_at 36864 constants.1 >>= λ words. Ok (record { variables = b_variables.0.0; instances = b_instances.0.0; labels = b_labels.0.0; constants = constants.0; words = words.0 }, words.1)) x b_labels.2 in
    let b_words = bind_ok (count_at 36864 b_constants.0.1) (λ words. Ok (record { variables = b_variables.0.0; instances = b_instances.0.0; labels = b_labels.0.0; constants = b_constants.0.0; words = words.0 }, words.1)) x b_constants.2 in
    let t0 = count_takes (most_variables version) bytes b_variables.0.0 b_variables.0.1 fits b_variables.1 in
    let t1 = count_takes (most_instances version) b_variables.0.1 b_instances.0.0 b_instances.0.1 t0.0.rest_fits b_instances.1 in
    let t2 = count_takes (most_instructions version) b_instances.0.1 b_labels.0.0 b_labels.0.1 t1.0.rest_fits b_labels.1 in
    let t3 = count_takes (most_constants version) b_labels.0.1 b_constants.0.0 b_constants.0.1 t2.0.rest_fits b_constants.1 in
    let t4 = count_takes 36864 b_constants.0.1 b_words.0.0 b_words.0.1 t3.0.rest_fits b_words.1 in
    let whole = counts_join bytes b_variables.0.1 b_instances.0.1 b_labels.0.1 b_constants.0.1 b_words.0.1 b_variables.0.0 b_instances.0.0 b_labels.0.0 b_constants.0.0 b_words.0.0 t0.0 t1.0 t2.0 t3.0 t4.0 in
    let counts : Counts = record { variables = b_variables.0.0; instances = b_instances.0.0; labels = b_labels.0.0; constants = b_constants.0.0; words = b_words.0.0 } in
    let few : AreFew version counts = record { variables = t0.1; instances = t1.1; labels = t2.1; constants = t3.1; words = t4.1 } in
    subst (λ (y : Counts × List ℕ). Takes bytes (counts_of_header y.0) y.1 × AreFew version y.0) (ok_is (counts, b_words.0.1) x b_words.2) (whole, few)

counts_again : (version : Version) (c : Counts) (rest : List ℕ) → AreFew version c → counts_at version (counts_of_header c ++ rest) ≡ Ok (c, rest)
unfolding counts_at
counts_again version c rest few =
    let v-le : c.variables ≤ most_variables version = few.variables in
    let i-le : c.instances ≤ most_instances version = few.instances in
    let l-le : c.labels ≤ most_instructions version = few.labels in
    let c-le : c.constants ≤ most_constants version = few.constants in
    let w-le = few.words in
    let b1 = to_be_bytes w16 c.instances in
    let b2 = to_be_bytes w16 c.labels in
    let b3 = to_be_bytes w16 c.constants in
    let last = to_be_bytes w16 c.words ++ rest in
    ap (counts_at version) (regrouped_5 (to_be_bytes w16 c.variables) b1 b2 b3 (to_be_bytes w16 c.words) rest) ∙ rw (count_again (most_variables version) c.variables (b1 ++ (b2 ++ (b3 ++ last))) v-le (omega (arith, v-le, variables_most version)), count_again (most_instances version) c.instances (b2 ++ (b3 ++ last)) i-le (omega (arith, i-le, instances_most version)), count_again (most_instructions version) c.labels (b3 ++ last) l-le (omega (arith, l-le, instructions_most version)), count_again (most_constants version) c.constants last c-le (omega (arith, c-le, constants_most version)), count_again 36864 c.words rest w-le (omega arith)) refl

abbrev pub header_of : Version → Counts → List ℕ
header_of version c = header_bytes version c.variables c.instances c.labels c.constants c.words

abbrev magic_number : ℕ
magic_number = from_be_bytes w32 magic

lawful_version_ok : (o : Option Version) (version : Version) → lawful_version o ≡ Ok version → o ≡ Some version
lawful_version_ok (Some v) version e = let is : v ≡ version = cc in ap (λ (x : Version). Some x) is
lawful_version_ok None version e = absurd cc

version_small : (version : Version) → version_number version < 2 ^ 16
version_small versions.One = omega arith
version_small versions.Two = omega arith
version_small versions.Three = omega arith

-- what stands in front of the tables
abbrev Head : Type 0
Head = Version × Counts × List ℕ

header_takes : (bytes : List ℕ) (x : Head) → IsBytes bytes → header_at bytes ≡ Ok x → Takes bytes (header_of x.0 x.1) x.2 × AreFew x.0 x.1
unfolding header_at
header_takes bytes x fits e =
    let b_magic = bind_ok (number_at w32 bytes) (λ word. agrees BadMagic (nat_eq word.0 magic_number) >>= λ is. number_at w16 word.1 >>= λ number. lawful_version (version_numbered number.0) >>= λ version. counts_at version number.1 >>= λ counts. Ok (version, counts.0, counts.1)) x e in
    let b_is = bind_ok (agrees BadMagic (nat_eq b_magic.0.0 magic_number)) (λ is. number_at w16 b_magic.0.1 >>= λ number. lawful_version (version_numbered number.0) >>= λ version. counts_at version number.1 >>= λ counts. Ok (version, counts.0, counts.1)) x b_magic.2 in
    let b_number = bind_ok (number_at w16 b_magic.0.1) (λ number. lawful_version (version_numbered number.0) >>= λ version. counts_at version number.1 >>= λ counts. Ok (version, counts.0, counts.1)) x b_is.2 in
    let b_version = bind_ok (lawful_version (version_numbered b_number.0.0)) (λ version. counts_at version b_number.0.1 >>= λ counts. Ok (version, counts.0, counts.1)) x b_number.2 in
    let b_counts = bind_ok (counts_at b_version.0 b_number.0.1) (λ counts. Ok (b_version.0, counts.0, counts.1)) x b_version.2 in
    let t0 = number_takes w32 (2 ^ 32) wide32 bytes b_magic.0.0 b_magic.0.1 fits b_magic.1 in
    let t1 = number_takes w16 (2 ^ 16) wide16 b_magic.0.1 b_number.0.0 b_number.0.1 t0.0.rest_fits b_number.1 in
    let t2 = counts_take b_version.0 b_number.0.1 b_counts.0 t1.0.rest_fits b_counts.1 in
    let magic-is = eqb-true b_magic.0.0 magic_number (agrees_ok BadMagic (nat_eq b_magic.0.0 magic_number) b_is.0 b_is.1) in
    let version-is = version_is b_number.0.0 b_version.0 (lawful_version_ok (version_numbered b_number.0.0) b_version.0 b_version.1) in
    let s0 = subst (λ (k : ℕ). Takes bytes (to_be_bytes w32 k) b_magic.0.1) magic-is t0.0 in
    let s1 = subst (λ (k : ℕ). Takes b_magic.0.1 (to_be_bytes w16 k) b_number.0.1) (sym version-is) t1.0 in
    let counts = counts_of_header b_counts.0.0 in
    let number = to_be_bytes w16 (version_number b_version.0) in
    let e12 = Takes-then b_magic.0.1 number b_number.0.1 counts b_counts.0.1 s1 t2.0 in
    let whole = Takes-then bytes (to_be_bytes w32 magic_number) b_magic.0.1 (number ++ counts) b_counts.0.1 s0 e12 in
    subst (λ (y : Head). Takes bytes (header_of y.0 y.1) y.2 × AreFew y.0 y.1) (ok_is (b_version.0, b_counts.0.0, b_counts.0.1) x b_counts.2) (whole, t2.1)

regrouped_3 : (a b c rest : List ℕ) → (a ++ (b ++ c)) ++ rest ≡ a ++ (b ++ (c ++ rest))
regrouped_3 a b c rest = append_assoc a (b ++ c) rest ∙ ap (λ (x : List ℕ). a ++ x) (append_assoc b c rest)

header_again : (version : Version) (c : Counts) (rest : List ℕ) → AreFew version c → header_at (header_of version c ++ rest) ≡ Ok (version, c, rest)
unfolding header_at
header_again version c rest few =
    let counts = counts_of_header c in
    let number = to_be_bytes w16 (version_number version) in
    ap header_at (regrouped_3 (to_be_bytes w32 magic_number) number counts rest) ∙ rw (number_again w32 (2 ^ 32) wide32 magic_number (number ++ (counts ++ rest)) (omega arith), number_again w16 (2 ^ 16) wide16 (version_number version) (counts ++ rest) (version_small version), version_again version, counts_again version c rest few) refl

-- ---- the tables

ended_ok : (t t' : Tables) (rest : List ℕ) → ended (t, rest) ≡ Ok t' → (rest ≡ []) × (t ≡ t')
ended_ok t t' rest e =
    let b = bind_ok (agrees Trailing (nat_eq (length rest) 0)) (λ _. Ok t) t' e in
    (nil_from_length rest (eqb-true (length rest) 0 (agrees_ok Trailing (nat_eq (length rest) 0) b.0 b.1)), ok_is t t' b.2)

abbrev pub counts_of : Tables → Counts
counts_of t = record { variables = length t.variables; instances = length t.instances; labels = length t.labels; constants = length t.constants; words = length t.words }

abbrev pub bodies_bytes : Tables → List ℕ
bodies_bytes t = flat_map (variable_bytes t.version) t.variables ++ (flat_map instance_bytes t.instances ++ (flat_map mark_bytes t.labels ++ (flat_map (constant_bytes t.version) t.constants ++ flat_map read_word_bytes t.words)))

abbrev pub tables_bytes : Tables → List ℕ
tables_bytes t = header_of t.version (counts_of t) ++ bodies_bytes t

abbrev AreNext : Tables → List Word → Type 0
AreNext t ws = AreItems (IsNext (declared_in t) t.labels t.constants) [] ws

-- tables whose parts read back
pub record AreTables (t : Tables) : Type 0 where
  pub variables : AreItems IsVariable [] t.variables
  pub instances : AreItems (IsInstance t.variables) [] t.instances
  pub labels : AreItems IsMark [] t.labels
  pub constants : AreItems IsConstant [] t.constants
  pub words : AreNext t t.words
  pub few : AreFew t.version (counts_of t)

-- what is long in them is of their version
pub record AreShort (t : Tables) : Type 0 where
  pub variables : list_all (may_declare t.version) t.variables ≡ true
  pub instances : list_all (may_instantiate t.version) t.instances ≡ true
  pub labels : list_all (λ (m : Mark). may_call t.version m.name) t.labels ≡ true
  pub constants : list_all (may_keep t.version) t.constants ≡ true
  pub words : list_all (may_read t.version) t.words ≡ true

record AreBodies (version : Version) (c : Counts) (bytes : List ℕ) (t : Tables) : Type 0 where
  own : t.version ≡ version
  variables : AreItems IsVariable [] t.variables
  instances : AreItems (IsInstance t.variables) [] t.instances
  labels : AreItems IsMark [] t.labels
  constants : AreItems IsConstant [] t.constants
  words : AreNext t t.words
  counts : counts_of t ≡ c
  spelled : bytes ≡ bodies_bytes t

-- a table's own list
item_list : {X : Type 0} (spell : X → List ℕ) (IsItem : List X → X → Type 0) (n : ℕ) (bytes : List ℕ) (xs : List X) (rest : List ℕ) → HasItems spell IsItem n [] bytes (xs, rest)
    → AreItems IsItem [] xs × (length xs ≡ n) × Takes bytes (flat_map spell xs) rest
item_list spell IsItem n bytes xs rest h =
    let is : h.new ≡ xs = h.all in
    (subst (AreItems IsItem []) is h.items, ap length (sym is) ∙ h.count, subst (λ (ys : List _). Takes bytes (flat_map spell ys) rest) is h.takes)

bodies_join : (c : Counts) (bytes r1 r2 r3 r4 rest : List ℕ) (t : Tables) → HasItems (variable_bytes t.version) IsVariable c.variables [] bytes (t.variables, r1) → HasItems instance_bytes (IsInstance t.variables) c.instances [] r1 (t.instances, r2)
    → HasItems mark_bytes IsMark c.labels [] r2 (t.labels, r3) → HasItems (constant_bytes t.version) IsConstant c.constants [] r3 (t.constants, r4) → HasItems read_word_bytes (IsNext (declared_in t) t.labels t.constants) c.words [] r4 (t.words, rest) → rest ≡ [] → AreBodies t.version c bytes t
bodies_join c bytes r1 r2 r3 r4 rest t h0 h1 h2 h3 h4 end =
    let i0 = item_list (variable_bytes t.version) IsVariable c.variables bytes t.variables r1 h0 in
    let i1 = item_list instance_bytes (IsInstance t.variables) c.instances r1 t.instances r2 h1 in
    let i2 = item_list mark_bytes IsMark c.labels r2 t.labels r3 h2 in
    let i3 = item_list (constant_bytes t.version) IsConstant c.constants r3 t.constants r4 h3 in
    let i4 = item_list read_word_bytes (IsNext (declared_in t) t.labels t.constants) c.words r4 t.words rest h4 in
    let b0 = flat_map (variable_bytes t.version) t.variables in
    let b1 = flat_map instance_bytes t.instances in
    let b2 = flat_map mark_bytes t.labels in
    let b3 = flat_map (constant_bytes t.version) t.constants in
    let b4 = flat_map read_word_bytes t.words in
    let e34 = Takes-then r3 b3 r4 b4 rest i3.2 i4.2 in
    let e24 = Takes-then r2 b2 r3 (b3 ++ b4) rest i2.2 e34 in
    let e14 = Takes-then r1 b1 r2 (b2 ++ (b3 ++ b4)) rest i1.2 e24 in
    let e04 = Takes-then bytes b0 r1 (b1 ++ (b2 ++ (b3 ++ b4))) rest i0.2 e14 in
    let v-is : length t.variables ≡ c.variables = i0.1 in
    let x-is : length t.instances ≡ c.instances = i1.1 in
    let l-is : length t.labels ≡ c.labels = i2.1 in
    let c-is : length t.constants ≡ c.constants = i3.1 in
    let w-is : length t.words ≡ c.words = i4.1 in
    let same : counts_of t ≡ c = rw (v-is, x-is, l-is, c-is, w-is) refl in
    record { own = refl; variables = i0.0; instances = i1.0; labels = i2.0; constants = i3.0; words = i4.0; counts = same; spelled = e04.parts ∙ ap (λ (r : List ℕ). (b0 ++ (b1 ++ (b2 ++ (b3 ++ b4)))) ++ r) end ∙ append-nil (b0 ++ (b1 ++ (b2 ++ (b3 ++ b4)))) }

bodies_take : (version : Version) (total : ℕ) (c : Counts) (bytes : List ℕ) (t : Tables) → IsBytes bytes → bodies_at version total c bytes ≡ Ok t → AreBodies version c bytes t
unfolding bodies_at
bodies_take version total c bytes t fits e =
    let b_variables = bind_ok (items_from (variable_at version total) c.variables [] bytes) (λ variables. items_from (instance_at version total variables.0) c.instances [] variables.1 >>= λ instances. items_from (mark_at version total) c.labels [] instances.1 >>= λ labels. items_from (constant_at version total) c.constants [] labels.1 >>= λ constants. items_from (next_word version total (record { variables = variables.0; instances = instances.0 }) labels.0 constants.0) c.words [] constants.1 >>= λ words. ended (record { version = version; variables = variables.0; instances = instances.0; labels = labels.0; constants = constants.0; words = words.0 }, words.1)) t e in
    let vs = b_variables.0.0 in
    let b_instances = bind_ok (items_from (instance_at version total vs) c.instances [] b_variables.0.1) (λ instances. items_from (mark_at version total) c.labels [] instances.1 >>= λ labels. items_from (constant_at version total) c.constants [] labels.1 >>= λ constants. items_from (next_word version total (record { variables = vs; instances = instances.0 }) labels.0 constants.0) c.words [] constants.1 >>= λ words. ended (record { version = version; variables = vs; instances = instances.0; labels = labels.0; constants = constants.0; words = words.0 }, words.1)) t b_variables.2 in
    let xs = b_instances.0.0 in
    let b_labels = bind_ok (items_from (mark_at version total) c.labels [] b_instances.0.1) (λ labels. items_from (constant_at version total) c.constants [] labels.1 >>= λ constants. items_from (next_word version total (record { variables = vs; instances = xs }) labels.0 constants.0) c.words [] constants.1 >>= λ words. ended (record { version = version; variables = vs; instances = xs; labels = labels.0; constants = constants.0; words = words.0 }, words.1)) t b_instances.2 in
    let ms = b_labels.0.0 in
    let b_constants = bind_ok (items_from (constant_at version total) c.constants [] b_labels.0.1) (λ constants. items_from (next_word version total (record { variables = vs; instances = xs }) ms constants.0) c.words [] constants.1 >>= λ words. ended (record { version = version; variables = vs; instances = xs; labels = ms; constants = constants.0; words = words.0 }, words.1)) t b_labels.2 in
    let cs = b_constants.0.0 in
    let ds : Declarations = record { variables = vs; instances = xs } in
    let b_words = bind_ok (items_from (next_word version total ds ms cs) c.words [] b_constants.0.1) (λ words. ended (record { version = version; variables = vs; instances = xs; labels = ms; constants = cs; words = words.0 }, words.1)) t b_constants.2 in
    let t0 = items_take (variable_at version total) (variable_bytes version) IsVariable (variable_takes version total) c.variables [] bytes b_variables.0 fits b_variables.1 in
    let t1 = items_take (instance_at version total vs) instance_bytes (IsInstance vs) (instance_takes version total vs) c.instances [] b_variables.0.1 b_instances.0 t0.takes.rest_fits b_instances.1 in
    let t2 = items_take (mark_at version total) mark_bytes IsMark (mark_takes version total) c.labels [] b_instances.0.1 b_labels.0 t1.takes.rest_fits b_labels.1 in
    let t3 = items_take (constant_at version total) (constant_bytes version) IsConstant (constant_takes version total) c.constants [] b_labels.0.1 b_constants.0 t2.takes.rest_fits b_constants.1 in
    let t4 = items_take (next_word version total ds ms cs) read_word_bytes (IsNext ds ms cs) (λ seen bytes x. word_takes version (total - length bytes) ds ms cs (length seen) bytes x) c.words [] b_constants.0.1 b_words.0 t3.takes.rest_fits b_words.1 in
    let made : Tables = record { version = version; variables = vs; instances = xs; labels = ms; constants = cs; words = b_words.0.0 } in
    let end = ended_ok made t b_words.0.1 b_words.2 in
    subst (AreBodies version c bytes) end.1 (bodies_join c bytes b_variables.0.1 b_instances.0.1 b_labels.0.1 b_constants.0.1 b_words.0.1 made t0 t1 t2 t3 t4 end.0)

tables_join : (bytes rest : List ℕ) (version : Version) (c : Counts) (t : Tables) → Takes bytes (header_of version c) rest → AreFew version c → AreBodies version c rest t → AreTables t × (bytes ≡ tables_bytes t)
tables_join bytes rest version c t takes few are = (
  record { variables = are.variables; instances = are.instances; labels = are.labels; constants = are.constants; words = are.words; few = subst (AreFew t.version) (sym are.counts) (subst (λ (v : Version). AreFew v c) (sym are.own) few) },
  takes.parts ∙ ap (λ (r : List ℕ). header_of version c ++ r) are.spelled ∙ ap (λ (k : Counts). header_of version k ++ bodies_bytes t) (sym are.counts) ∙ ap (λ (v : Version). header_of v (counts_of t) ++ bodies_bytes t) (sym are.own),
)

pub tables_take : (bytes : List ℕ) (t : Tables) → IsBytes bytes → tables_at bytes ≡ Ok t → AreTables t × (bytes ≡ tables_bytes t)
unfolding tables_at
tables_take bytes t fits e =
    let b_head = bind_ok (header_at bytes) (λ head. bodies_at head.0 (length bytes) head.1 head.2) t e in
    let t0 = header_takes bytes b_head.0 fits b_head.1 in
    tables_join bytes b_head.0.2 b_head.0.0 b_head.0.1 t t0.0 t0.1 (bodies_take b_head.0.0 (length bytes) b_head.0.1 b_head.0.2 t t0.0.rest_fits b_head.2)

-- an item of a table, which the version may have
abbrev MayHave : {X : Type 0} → (X → Bool) → (List X → X → Type 0) → List X → X → Type 0
MayHave may IsItem seen x = IsItem seen x × (may x ≡ true)

bodies_again : (total : ℕ) (t : Tables) → AreTables t → AreShort t → bodies_at t.version total (counts_of t) (bodies_bytes t) ≡ Ok t
unfolding bodies_at
bodies_again total t are short =
    let version = t.version in
    let b1 = flat_map instance_bytes t.instances in
    let b2 = flat_map mark_bytes t.labels in
    let b3 = flat_map (constant_bytes version) t.constants in
    let b4 = flat_map read_word_bytes t.words in
    let ds = declared_in t in
    let next = next_word version total ds t.labels t.constants in
    let IsWord = IsNext ds t.labels t.constants in
    let variables = items_may IsVariable (may_declare version) [] t.variables are.variables short.variables in
    let instances = items_may (IsInstance t.variables) (may_instantiate version) [] t.instances are.instances short.instances in
    let labels = items_may IsMark (λ (m : Mark). may_call version m.name) [] t.labels are.labels short.labels in
    let constants = items_may IsConstant (may_keep version) [] t.constants are.constants short.constants in
    let words = items_may IsWord (may_read version) [] t.words are.words short.words in
    let h0 : items_from (variable_at version total) (length t.variables) [] (flat_map (variable_bytes version) t.variables ++ (b1 ++ (b2 ++ (b3 ++ b4)))) ≡ Ok (t.variables, b1 ++ (b2 ++ (b3 ++ b4))) = items_again (variable_at version total) (variable_bytes version) (MayHave (may_declare version) IsVariable) (λ seen v rest is. variable_again version total seen v rest is.0 is.1) t.variables [] (b1 ++ (b2 ++ (b3 ++ b4))) variables in
    let h1 : items_from (instance_at version total t.variables) (length t.instances) [] (b1 ++ (b2 ++ (b3 ++ b4))) ≡ Ok (t.instances, b2 ++ (b3 ++ b4)) = items_again (instance_at version total t.variables) instance_bytes (MayHave (may_instantiate version) (IsInstance t.variables)) (λ seen x rest is. instance_again version total t.variables seen x rest is.0 is.1) t.instances [] (b2 ++ (b3 ++ b4)) instances in
    let h2 : items_from (mark_at version total) (length t.labels) [] (b2 ++ (b3 ++ b4)) ≡ Ok (t.labels, b3 ++ b4) = items_again (mark_at version total) mark_bytes (MayHave (λ (m : Mark). may_call version m.name) IsMark) (λ seen m rest is. mark_again version total seen m rest is.0 is.1) t.labels [] (b3 ++ b4) labels in
    let h3 : items_from (constant_at version total) (length t.constants) [] (b3 ++ b4) ≡ Ok (t.constants, b4) = items_again (constant_at version total) (constant_bytes version) (MayHave (may_keep version) IsConstant) (λ seen v rest is. constant_again version total seen v rest is.0 is.1) t.constants [] b4 constants in
    let h4 : items_from next (length t.words) [] b4 ≡ Ok (t.words, []) = ap (items_from next (length t.words) []) (sym (append-nil b4)) ∙ items_again next read_word_bytes (MayHave (may_read version) IsWord) (λ seen w rest is. word_again version (total - length (read_word_bytes w ++ rest)) ds t.labels t.constants (length seen) w rest is.0 is.1) t.words [] [] words in
    rw (h0, h1, h2, h3, h4) refl

pub tables_again : (t : Tables) → AreTables t → AreShort t → tables_at (tables_bytes t) ≡ Ok t
unfolding tables_at
tables_again t are short = rw (header_again t.version (counts_of t) (bodies_bytes t) are.few) (bodies_again (length (tables_bytes t)) t are short)
