-- The two laws: what is read is the spelling of a typed program, and that spelling is read.
use Rattle.il_model.proofs.RowTypes.{and_yes}
use Rattle.std.proofs.Common.{◌≡◌, ℕ, ◌+◌, ◌≤◌, Bool, true, false, cond, List, [], ◌∷◌, length, Option, Some, None, Result, Ok, Err, refl, sym, ap, subst, ◌∙◌, arith}
use Rattle.std.specs.Prelude.{nat_eq, nat_le, ◌&&◌, ◌++◌, IfOk}
use Rattle.std.specs.List.{flat_map, list_all, position, AllByRecursion}
use Rattle.std.proofs.lemmas.Bool.{le-leb, eqb-true, eq-eqb}
use Rattle.std.proofs.lemmas.List.{take_all}
use Rattle.il_values.specs.declared.value.Value.{Value}
use Rattle.il_model.specs.declared.codes.Version.{Version}
use Rattle.il_model.specs.declared.program.Instance.{Instance}
use Rattle.il_model.specs.declared.program.Instr.{Instr}
use Rattle.il_model.specs.declared.program.Operand.{Operand}
use Rattle.il_model.specs.declared.typing.TypeFault.{TypeFault}
use Rattle.il_model.specs.Program.{Program, program_of}
use Rattle.il_model.specs.Limits.{most_variables, most_instances, most_instructions, most_constants, has_room}
use Rattle.il_model.specs.Typing.{IsTyped}
use Rattle.il_model.specs.Checking.{judgement_of}
use Rattle.il_model.specs.Marks.{Mark, with_mark, marks_from, word_count, words_in, AreRising, AreStarts}
use Rattle.il_model.specs.Constants.{same_value, operands_in, operands_of, constants_from, constants_of}
use Rattle.il_model.specs.Image.{version_number, op_version, may_have, may_call, may_label, may_name, may_write, version_with, version_of, instruction_bytes, spelling}
use Rattle.il_model.specs.Fits.{IsMark, IsConstant, AreItems, IsProgram, IsImage}
use Rattle.il_model.proofs.Marks.{table_again, table_rises, table_starts, table_labels}
use Rattle.il_model.proofs.ConstantLists.{are_apart}
use Rattle.il_model.proofs.Calls.{typed_lines}
use Rattle.il_model.proofs.Judged.{is_typed, faultless}
use Rattle.il_model.proofs.Versions.{same_version, version_may, version_within, version_constants}
use Rattle.il_model.proofs.Sizes.{IsWithin, room_is_small, instructions_most, constants_most}
use Rattle.il_model.proofs.Lawful.{marks_few}
use Rattle.il_loader.specs.declared.word.Word.{Word}
use Rattle.il_loader.specs.declared.word.Content.{Content}
use Rattle.il_loader.specs.declared.word.Content.TheVariants as contents
use Rattle.il_records.specs.declared.fault.LoadFault.{LoadFault}
use Rattle.il_records.specs.declared.fault.LoadFault.TheVariants.{BadVersion, BadWord}
use Rattle.il_records.specs.declared.fault.LoadError.{LoadError}
use Rattle.il_loader.specs.Tables.{Tables, declared_in, operand_in, with_line, lines_of}
use Rattle.il_loader.specs.Reading.{tables_at}
use Rattle.il_records.specs.Fields.{◌>>=◌, Gives, agrees}
use Rattle.il_loader.specs.Judging.{constant_place, risen, used_from, earlier, sooner, stray_from, misspelled, at_word, words_fine, all_used, is_own_version, small, judged_tables, image_of}
use Rattle.il_loader.proofs.Fields.{IsBytes, bind_ok, agrees_ok, ok_is}
use Rattle.il_loader.proofs.Records.{may_say, may_read, read_word_bytes}
use Rattle.il_loader.proofs.Spelled.{tables_bytes, AreTables, AreShort, tables_take, tables_again}
use Rattle.il_loader.proofs.Groups.{front, words_are, none_front, operands_are, word_operands, labels_read, risen_takes, risen_again}
use Rattle.il_loader.proofs.Words.{AreKnown}
use Rattle.il_loader.proofs.Used.{IsReadSomewhere, words_read, used_take, used_again_all}
use Rattle.il_loader.proofs.WordsRead.{silent, are_words}
use Rattle.il_loader.proofs.WordsOf.{words_of, lines_again, words_long, bytes_again, words_coded, words_again, none_stray, none_silent}

-- ---- what a judgement tells

small_ok : (o : Option Program) (Q : Program) → small o ≡ Ok Q → o ≡ Some Q
small_ok None Q e = absurd cc
small_ok (Some P) Q e = let is : P ≡ Q = cc in ap (λ (x : Program). Some x) is

program_by : (room : Bool) (P Q : Program) → cond room (Some P) None ≡ Some Q → (room ≡ true) × (P ≡ Q)
program_by true P Q e = (refl, cc)
program_by false P Q e = absurd cc

record IsFine (o : Option ℕ) (j : Result (Unit {0}) (TypeFault × ℕ)) : Type 0 where
  none : o ≡ None
  typed : j ≡ Ok tt

later_not : (b : Bool) (f g : LoadFault) (x : Unit {0}) → (let r : Result (Unit {0}) LoadFault = cond b (Err f) (Err g) in r ≡ Ok x) → ⊥
later_not true f g x e = cc
later_not false f g x e = cc

fine_takes : (total count : ℕ) (o : Option ℕ) (j : Result (Unit {0}) (TypeFault × ℕ)) (x : Unit {0}) → words_fine total count o j ≡ Ok x → IsFine o j
fine_takes total count None (Ok b) x e = record { none = refl; typed = refl }
fine_takes total count None (Err f) x e = absurd cc
fine_takes total count (Some n) (Ok b) x e = absurd cc
fine_takes total count (Some n) (Err f) x e = absurd (later_not (nat_le n f.1) _ _ x e)

-- where no fault is at a word there is none
word_ok : (Q : Program) (r : Result (Unit {0}) (TypeFault × ℕ)) → at_word Q r ≡ Ok tt → r ≡ Ok tt
word_ok Q (Ok x) e = e
word_ok Q (Err f) e = absurd cc

record IsUsed (o : Option ℕ) (used : Result ℕ ℕ) : Type 0 where
  none : o ≡ None
  number : ℕ
  is : used ≡ Ok number

earlier_none : (o : Option ℕ) (used : Result ℕ ℕ) → earlier o used ≡ None → IsUsed o used
earlier_none o (Ok u) e = record { none = e; number = u; is = refl }
earlier_none None (Err n) e = absurd cc
earlier_none (Some m) (Err n) e = absurd cc

sooner_none : (o p : Option ℕ) → sooner o p ≡ None → (o ≡ None) × (p ≡ None)
sooner_none None p e = (refl, e)
sooner_none (Some m) None e = absurd cc
sooner_none (Some m) (Some n) e = absurd cc

all_takes : (version : Version) (total words count : ℕ) (used : Result ℕ ℕ) (u : ℕ) (x : Unit {0}) → used ≡ Ok u → all_used version total words count used ≡ Ok x → u ≡ count
all_takes version total words count used u x is e =
    let f : all_used version total words count (Ok u) ≡ Ok x = ap (all_used version total words count) (sym is) ∙ e in
    eqb-true u count (agrees_ok (BadWord (constant_place version total words count u)) (nat_eq u count) x f)

abbrev program_in : Tables → Program
program_in t = record { variables = t.variables; instances = t.instances; code = lines_of t.instances t.words }

-- the version that a program of these tables has
abbrev version_in : Tables → Version
version_in t = version_with t.variables t.instances t.constants (lines_of t.instances t.words)

record IsJudged (t : Tables) : Type 0 where
  room : has_room t.version t.variables t.instances (lines_of t.instances t.words) ≡ true
  rising : AreRising 0 (length t.words) t.labels
  starts : AreStarts 0 (lines_of t.instances t.words) t.labels
  used : used_from 0 0 t.words ≡ Ok (length t.constants)
  loud : position silent t.words ≡ None
  stray : stray_from false t.words ≡ None
  typed : IsTyped (program_in t)
  version : t.version ≡ version_in t

abbrev is_own : Tables → Program → Bool
is_own t Q = is_own_version t.version t.constants Q

judged_join : (total : ℕ) (t : Tables) (Q : Program) (x y z u : Unit {0}) → program_of t.version t.variables t.instances (lines_of t.instances t.words) ≡ Some Q → risen (constant_place t.version total (length t.words) (length t.constants) 0) 0 t.words t.labels ≡ Ok x
    → words_fine total (length t.words) (misspelled t.words (used_from 0 0 t.words)) (at_word Q (judgement_of Q)) ≡ Ok y → all_used t.version total (length t.words) (length t.constants) (used_from 0 0 t.words) ≡ Ok z → agrees BadVersion (is_own t Q) ≡ Ok u → IsJudged t × (program_in t ≡ Q)
unfolding is_own_version
judged_join total t Q x y z u small-is risen-is fine-is used-is version-is =
    let p = program_by (has_room t.version t.variables t.instances (lines_of t.instances t.words)) (program_in t) Q small-is in
    let fine = fine_takes total (length t.words) (misspelled t.words (used_from 0 0 t.words)) (at_word Q (judgement_of Q)) y fine-is in
    let used = earlier_none (sooner (position silent t.words) (stray_from false t.words)) (used_from 0 0 t.words) fine.none in
    let both = sooner_none (position silent t.words) (stray_from false t.words) used.none in
    let all = all_takes t.version total (length t.words) (length t.constants) (used_from 0 0 t.words) used.number z used.is used-is in
    let labels = risen_takes t.instances (constant_place t.version total (length t.words) (length t.constants) 0) 0 t.words t.labels x (none_front None t.words both.1).0 risen-is in (
      record {
        room = p.0;
        rising = labels.0;
        starts = labels.1;
        used = used.is ∙ ap (λ (u : ℕ). let r : Result ℕ ℕ = Ok u in r) all;
        loud = both.0;
        stray = both.1;
        typed = subst IsTyped (sym p.1) (is_typed Q (word_ok Q (judgement_of Q) fine.typed));
        version = same_version t.version (version_in t) (ap (is_own t) p.1 ∙ agrees_ok BadVersion (is_own t Q) u version-is);
      },
      p.1,
    )

judged_takes : (total : ℕ) (t : Tables) (Q : Program) → judged_tables total t ≡ Ok Q → IsJudged t × (program_in t ≡ Q)
unfolding judged_tables
judged_takes total t Q e =
    let end = constant_place t.version total (length t.words) (length t.constants) 0 in
    let used = used_from 0 0 t.words in
    let wrong = misspelled t.words used in
    let a = bind_ok (small (program_of t.version t.variables t.instances (lines_of t.instances t.words))) (λ Q. risen end 0 t.words t.labels >>= λ rising. words_fine total (length t.words) wrong (at_word Q (judgement_of Q)) >>= λ fine. all_used t.version total (length t.words) (length t.constants) used >>= λ used. agrees BadVersion (is_own t Q) >>= λ own. Ok Q) Q e in
    let P = a.0 in
    let b = bind_ok (risen end 0 t.words t.labels) (λ rising. words_fine total (length t.words) wrong (at_word P (judgement_of P)) >>= λ fine. all_used t.version total (length t.words) (length t.constants) used >>= λ used. agrees BadVersion (is_own t P) >>= λ own. Ok P) Q a.2 in
    let c = bind_ok (words_fine total (length t.words) wrong (at_word P (judgement_of P))) (λ fine. all_used t.version total (length t.words) (length t.constants) used >>= λ used. agrees BadVersion (is_own t P) >>= λ own. Ok P) Q b.2 in
    let d = bind_ok (all_used t.version total (length t.words) (length t.constants) used) (λ used. agrees BadVersion (is_own t P) >>= λ own. Ok P) Q c.2 in
    let v = bind_ok (agrees BadVersion (is_own t P)) (λ own. Ok P) Q d.2 in
    let j = judged_join total t P b.0 c.0 d.0 v.0 (small_ok (program_of t.version t.variables t.instances (lines_of t.instances t.words)) P a.1) b.1 c.1 d.1 v.1 in
    (j.0, j.1 ∙ ok_is P Q v.2)

-- ---- what is read is spelled so

spelled_join : (t : Tables) (Q : Program) → t.version ≡ version_of Q → t.variables ≡ Q.variables → t.instances ≡ Q.instances → t.labels ≡ marks_from 0 Q.code → t.constants ≡ constants_of Q → length t.words ≡ words_in Q.code → flat_map read_word_bytes t.words ≡ flat_map (instruction_bytes Q (constants_of Q)) Q.code → tables_bytes t ≡ spelling Q
spelled_join t Q version-is vs-is xs-is ms-is cs-is long ws-is = rw (version-is, vs-is, xs-is, ms-is, cs-is, long, ws-is) refl

tables_spelled : (t : Tables) → AreTables t → IsJudged t → IsImage (program_in t) × (tables_bytes t ≡ spelling (program_in t))
tables_spelled t are judgement_of =
    let Q = program_in t in
    let ds = declared_in t in
    let ms-is : marks_from 0 Q.code ≡ t.labels = table_again t.labels Q.code (length t.words) (labels_read t.instances ds t.labels t.constants t.words judgement_of.stray are.words) judgement_of.rising judgement_of.starts in
    let read = words_read ds t.labels t.constants [] t.words are.words in
    let apart = are_apart t.constants are.constants in
    let cs-is : constants_of Q ≡ t.constants = ap (constants_from same_value []) (operands_are t.instances t.words judgement_of.stray) ∙ used_take ds t.labels t.constants t.words 0 0 (length t.constants) apart read judgement_of.used ∙ take_all (length t.constants) t.constants (omega arith) in
    let marks = subst (AreItems IsMark []) (sym ms-is) are.labels in
    let constants = subst (AreItems IsConstant []) (sym cs-is) are.constants in
    let read2 = subst (λ (ms : List Mark). AllByRecursion (IsReadSomewhere ds ms (constants_of Q)) t.words) (sym ms-is) (subst (λ (cs : List Value). AllByRecursion (IsReadSomewhere ds t.labels cs) t.words) (sym cs-is) read) in
    let known : AreKnown Q (marks_from 0 Q.code) (constants_of Q) = record { variables = are.variables; instances = are.instances; marks = marks; apart = are_apart (constants_of Q) constants; labels = table_labels Q.code } in
    let w = are_words Q t.words known read2 (typed_lines Q (faultless Q judgement_of.typed)) judgement_of.loud judgement_of.stray in
    let none : front t.words ≡ 0 = (none_front None t.words judgement_of.stray).0 in
    let long : length t.words ≡ words_in Q.code = omega (arith, words_are t.instances t.words, none) in
    let few = are.few in
    let room = room_is_small t.version t.variables t.instances Q.code judgement_of.room in
    let few-ms : length t.labels ≤ most_instructions t.version = few.labels in
    let few-cs : length t.constants ≤ most_constants t.version = few.constants in
    let few-ws : length t.words ≤ 36864 = few.words in
    let most-ms : length t.labels ≤ 16384 = omega (arith, few-ms, instructions_most t.version) in
    let most-cs : length t.constants ≤ 32767 = omega (arith, few-cs, constants_most t.version) in
    let text : IsProgram Q = record {
      variables = are.variables;
      variables_few = room.0;
      instances = are.instances;
      instances_few = room.1;
      labels = marks;
      labels_few = subst (λ (ms : List Mark). length ms ≤ 16384) (sym ms-is) most-ms;
      constants = constants;
      constants_few = subst (λ (cs : List Value). length cs ≤ 32767) (sym cs-is) most-cs;
      words = w.words;
      words_few = subst (λ (k : ℕ). k ≤ 36864) long few-ws;
    } in
    (record { text = text; short = room.2; uncrowded = room.3; typed = judgement_of.typed }, spelled_join t Q (judgement_of.version ∙ ap (λ (cs : List Value). version_with t.variables t.instances cs Q.code) (sym cs-is)) refl refl (sym ms-is) (sym cs-is) long w.same)

pub image_takes : (bytes : List ℕ) (Q : Program) → IsBytes bytes → image_of bytes ≡ Ok Q → IsImage Q × (bytes ≡ spelling Q)
unfolding image_of
image_takes bytes Q fits e =
    let a = bind_ok (tables_at bytes) (λ t. judged_tables (length bytes) t) Q e in
    let t = tables_take bytes a.0 fits a.1 in
    let j = judged_takes (length bytes) a.0 Q a.2 in
    let s = tables_spelled a.0 t.0 j.0 in
    subst (λ (Q : Program). IsImage Q × (bytes ≡ spelling Q)) j.1 (s.0, t.1 ∙ s.1)

-- ---- what is spelled so is read

abbrev all_words : Program → List Word
all_words Q = words_of Q (constants_of Q) Q.code

abbrev tables_of : Program → Tables
tables_of Q = record { version = version_of Q; variables = Q.variables; instances = Q.instances; labels = marks_from 0 Q.code; constants = constants_of Q; words = all_words Q }

tables_fit : (Q : Program) → IsImage Q → AreTables (tables_of Q)
tables_fit Q is =
    let text = is.text in
    let within = version_within Q is in
    let labels : length (marks_from 0 Q.code) ≤ length Q.code = marks_few Q.code 0 in
    let code : length Q.code ≤ most_instructions (version_of Q) = within.code in
    record {
      variables = text.variables;
      instances = text.instances;
      labels = text.labels;
      constants = text.constants;
      words = words_again Q [] [] Q.code text.words (table_labels Q.code);
      few = record { variables = within.variables; instances = within.instances; labels = omega (arith, labels, code); constants = version_constants Q is; words = subst (λ (k : ℕ). k ≤ 36864) (sym (words_long Q (constants_of Q) Q.code)) text.words_few };
    }

-- a version may have the operator
abbrev may_do : Version → Instr → Bool
may_do version line = may_have version (op_version line.op)

abbrev may_do_word : Version → Content → Bool
may_do_word version (contents.Instruction line) = may_do version line
may_do_word version (contents.Argument side number operand) = true

do_word : (version : Version) (xs : List Instance) (content : Content) (ws : List Word) → list_all (λ (w : Word). may_do_word version w.content) ws ≡ list_all (may_do version) (lines_of xs ws)
    → (may_do_word version content && list_all (λ (w : Word). may_do_word version w.content) ws) ≡ list_all (may_do version) (with_line xs content ws (lines_of xs ws))
do_word version xs (contents.Instruction line) ws e = ap (λ b. may_do version line && b) e
do_word version xs (contents.Argument side number operand) ws e = e

do_words : (version : Version) (xs : List Instance) (ws : List Word) → list_all (λ (w : Word). may_do_word version w.content) ws ≡ list_all (may_do version) (lines_of xs ws)
do_words version xs [] = refl
do_words version xs (w ∷ ws) = do_word version xs w.content ws (do_words version xs ws)

-- two tests of each, or one and then the other
reordered : (a b c d : Bool) → ((a && b) && (c && d)) ≡ ((a && c) && (b && d))
reordered true true c d = refl
reordered true false true d = refl
reordered true false false d = refl
reordered false b c d = refl

all_of_both : {X : Type 0} (p q : X → Bool) (xs : List X) → list_all (λ x. p x && q x) xs ≡ (list_all p xs && list_all q xs)
all_of_both p q [] = refl
all_of_both p q (x ∷ xs) = ap (λ b. (p x && q x) && b) (all_of_both p q xs) ∙ reordered (p x) (q x) (list_all p xs) (list_all q xs)

all_of_append : {X : Type 0} (p : X → Bool) (xs ys : List X) → list_all p (xs ++ ys) ≡ (list_all p xs && list_all p ys)
all_of_append p [] ys = refl
all_of_append p (x ∷ xs) ys = ap (λ b. p x && b) (all_of_append p xs ys) ∙ and_assoc (p x) (list_all p xs) (list_all p ys)
  where
    and_assoc : (a b c : Bool) → (a && (b && c)) ≡ ((a && b) && c)
    and_assoc true b c = refl
    and_assoc false b c = refl

all_of_lists : {X Y : Type 0} (p : Y → Bool) (f : X → List Y) (xs : List X) → list_all (λ x. list_all p (f x)) xs ≡ list_all p (flat_map f xs)
all_of_lists p f [] = refl
all_of_lists p f (x ∷ xs) = ap (λ b. list_all p (f x) && b) (all_of_lists p f xs) ∙ sym (all_of_append p (f x) (flat_map f xs))

word_split : (version : Version) (content : Content) → may_say version content ≡ (may_do_word version content && may_name version (operand_in content))
word_split version (contents.Instruction line) = refl
word_split version (contents.Argument side number operand) = refl

words_split : (version : Version) (ws : List Word) → list_all (may_read version) ws ≡ (list_all (λ (w : Word). may_do_word version w.content) ws && list_all (may_name version) (word_operands ws))
words_split version [] = refl
words_split version (w ∷ ws) =
    ap (λ b. b && list_all (may_read version) ws) (word_split version w.content)
    ∙ ap (λ b. (may_do_word version w.content && may_name version (operand_in w.content)) && b) (words_split version ws)
    ∙ reordered (may_do_word version w.content) (may_name version (operand_in w.content)) (list_all (λ (w : Word). may_do_word version w.content) ws) (list_all (may_name version) (word_operands ws))

-- what a version may have of an instruction but its label, which stands apart in an image
abbrev may_follow : Version → Instr → Bool
may_follow version line = may_do version line && list_all (may_name version) (operands_in line)

lines_split : (version : Version) (code : List Instr) → list_all (may_follow version) code ≡ (list_all (may_do version) code && list_all (may_name version) (operands_of code))
lines_split version code =
    all_of_both (may_do version) (λ line. list_all (may_name version) (operands_in line)) code
    ∙ ap (λ b. list_all (may_do version) code && b) (all_of_lists (may_name version) operands_in code)

-- the words are those that a version may have where the instructions are
may_words : (version : Version) (xs : List Instance) (ws : List Word) → stray_from false ws ≡ None → list_all (may_read version) ws ≡ list_all (may_follow version) (lines_of xs ws)
may_words version xs ws stray =
    words_split version ws
    ∙ ap (λ b. b && list_all (may_name version) (word_operands ws)) (do_words version xs ws)
    ∙ ap (λ (os : List Operand). list_all (may_do version) (lines_of xs ws) && list_all (may_name version) os) (sym (operands_are xs ws stray))
    ∙ sym (lines_split version (lines_of xs ws))

-- the labels and the rest of the instructions
label_may : (version : Version) (n : ℕ) (o : Option (List ℕ)) (ms : List Mark) → may_label version o ≡ true → list_all (λ (m : Mark). may_call version m.name) ms ≡ true → list_all (λ (m : Mark). may_call version m.name) (with_mark n o ms) ≡ true
label_may version n None ms may all = all
label_may version n (Some name) ms may all = rw (may, all) refl

labels_may : (version : Version) (n : ℕ) (code : List Instr) → list_all (may_write version) code ≡ true → list_all (λ (m : Mark). may_call version m.name) (marks_from n code) ≡ true
labels_may version n [] all = refl
labels_may version n (line ∷ code) all =
    let here = and_yes (may_write version line) (list_all (may_write version) code) all in
    label_may version n line.label (marks_from (n + word_count line) code) (and_yes (may_label version line.label) _ here.0).0 (labels_may version (n + word_count line) code here.1)

follows : (version : Version) (code : List Instr) → list_all (may_write version) code ≡ true → list_all (may_follow version) code ≡ true
follows version [] all = refl
follows version (line ∷ code) all =
    let here = and_yes (may_write version line) (list_all (may_write version) code) all in
    rw ((and_yes (may_label version line.label) _ here.0).1, follows version code here.1) refl

tables_short : (Q : Program) → IsImage Q → AreShort (tables_of Q)
tables_short Q is =
    let cs = constants_of Q in
    let may = version_may Q.variables Q.instances cs Q.code in
    let version = version_of Q in
    let same : list_all (may_read version) (all_words Q) ≡ list_all (may_follow version) Q.code = may_words version Q.instances (all_words Q) (none_stray Q cs [] Q.code false is.text.words) ∙ ap (list_all (may_follow version)) (lines_again Q cs [] Q.code is.text.words) in
    record { variables = may.0; instances = may.1; labels = labels_may version 0 Q.code may.3; constants = may.2; words = same ∙ follows version Q.code may.3 }

own_version : (Q : Program) → is_own_version (version_of Q) (constants_of Q) Q ≡ true
unfolding is_own_version
own_version Q = eq-eqb (version_number (version_of Q)) (version_number (version_of Q)) refl

-- the tables of a program, with a version in front
abbrev tables_as : Version → Program → Tables
tables_as version Q = record { version = version; variables = Q.variables; instances = Q.instances; labels = marks_from 0 Q.code; constants = constants_of Q; words = all_words Q }

judged_as : (version : Version) (total : ℕ) (Q : Program) → IsImage Q → IsWithin version Q.variables Q.instances Q.code → is_own_version version (constants_of Q) Q ≡ true → judged_tables total (tables_as version Q) ≡ Ok Q
unfolding judged_tables
judged_as version total Q is within own =
    let cs = constants_of Q in
    let ms = marks_from 0 Q.code in
    let ws = all_words Q in
    let lines : lines_of Q.instances ws ≡ Q.code = lines_again Q cs [] Q.code is.text.words in
    let stray : stray_from false ws ≡ None = none_stray Q cs [] Q.code false is.text.words in
    let loud : position silent ws ≡ None = none_silent Q cs [] Q.code is.text.words in
    let all : cs ≡ constants_from same_value [] (word_operands ws) = ap (λ (code : List Instr). constants_from same_value [] (operands_of code)) (sym lines) ∙ ap (constants_from same_value []) (operands_are Q.instances ws stray) in
    let used : used_from 0 0 ws ≡ Ok (length cs) = used_again_all Q cs [] ws 0 is.text.constants_few (words_coded Q cs Q.code) all in
    let starts : AreStarts 0 (lines_of Q.instances ws) ms = subst (λ (code : List Instr). AreStarts 0 code ms) (sym lines) (table_starts Q.code 0) in
    let rising : risen (constant_place version total (length ws) (length cs) 0) 0 ws ms ≡ Ok tt = risen_again Q.instances (constant_place version total (length ws) (length cs) 0) 0 (0 + words_in Q.code) ws ms (none_front None ws stray).0 (table_rises Q.code 0) starts in
    rw (
      lines,
      le-leb (length Q.variables) (most_variables version) within.variables,
      le-leb (length Q.instances) (most_instances version) within.instances,
      le-leb (length Q.code) (most_instructions version) within.code,
      within.words,
      rising,
      used,
      stray,
      loud,
      faultless Q is.typed,
      eq-eqb (length cs) (length cs) refl,
      own,
    ) refl

tables_judged : (total : ℕ) (Q : Program) → IsImage Q → judged_tables total (tables_of Q) ≡ Ok Q
tables_judged total Q is = judged_as (version_of Q) total Q is (version_within Q is) (own_version Q)

pub image_again : (Q : Program) → IsImage Q → image_of (spelling Q) ≡ Ok Q
unfolding image_of
image_again Q is =
    let t = tables_of Q in
    let spelled : tables_bytes t ≡ spelling Q = spelled_join t Q refl refl refl refl refl (words_long Q (constants_of Q) Q.code) (bytes_again Q (constants_of Q) Q.code) in
    let read : tables_at (spelling Q) ≡ Ok t = ap tables_at (sym spelled) ∙ tables_again t (tables_fit Q is) (tables_short Q is) in
    rw read (tables_judged (length (spelling Q)) Q is)

-- ---- what a function tells that reads so

pub is_found : {X : Type 0} (view : X → Program) (bytes : List ℕ) (r : Result X LoadError) → IsBytes bytes → Gives view r (image_of bytes) → IfOk r (λ x. IsImage (view x) × (bytes ≡ spelling (view x)))
is_found view bytes (Ok x) fits given = image_takes bytes (view x) fits given
is_found view bytes (Err e) fits given = tt

pub is_read : {X : Type 0} (view : X → Program) (bytes : List ℕ) (r : Result X LoadError) (Q : Program) → IsImage Q → bytes ≡ spelling Q → Gives view r (image_of bytes) → Gives view r (Ok Q)
is_read view bytes r Q is same given = subst (Gives view r) (ap image_of same ∙ image_again Q is) given
