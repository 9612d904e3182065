-- The names that a text says are spelled as names are.
use Rattle.std.proofs.Common.{◌≡◌, ℕ, zero, suc, ◌+◌, ◌-◌, Bool, true, false, cond, eqb, List, [], ◌∷◌, ◌++◌, length, take, drop, Option, Some, None, refl, sym, ap, subst, arith, ◌&&◌, ◌∙◌}
use Rattle.std.specs.List.{flat_map, AllByRecursion, prefix_len, list_all, list_any}
use Rattle.std.proofs.lemmas.Bool.{ltb-false}
use Rattle.std.proofs.lemmas.List.Concat.{flat_map-cons}
use Rattle.std.proofs.Common.{append_assoc}
use Rattle.std.specs.Prelude.{is_some, nat_lt}
use Rattle.il_model.specs.declared.dialect.Dialect.{Dialect}
use Rattle.il_model.specs.declared.dialect.Dialect.TheVariants as dialects
use Rattle.il_model.specs.Words.{is_well_spelled, name_parts}
use Rattle.il_model.specs.Dialects.{literal_in}
use Rattle.il_reader.specs.declared.lexeme.Piece.{Piece}
use Rattle.il_reader.specs.declared.lexeme.Sign.TheVariants as signs
use Rattle.il_reader.specs.declared.lexeme.Class.{Class}
use Rattle.il_reader.specs.declared.lexeme.Class.TheVariants as classes
use Rattle.il_reader.specs.declared.fault.FaultKind.TheVariants.{BadToken, TooLong}
use Rattle.il_reader.specs.Tokens.{Token, is_letter_byte, is_word_byte, is_number_start, is_blank_byte, is_within, is_n, begins_with, sign, broken, dotted_len, name_len, is_long, name_of, literal_piece, word_piece, sign_of, solid_piece, comment_piece, comment_len, piece_of, put, tokens_behind, tokens_of}
use Rattle.il_reader.specs.Front.{is_class_of, is_sign, skip_breaks}
use Rattle.il_reader.specs.Grammar.{LineText, Labelled, Plain, OperationText, is_line_stop, NamesText, Located, More, DeclarationText, BlockText, ProgramText, ends_names, ends_block, ends_blocks, ends_lines, ends_named}
use Rattle.il_reader.specs.Words.{IsNameText, IsName, AreNames, IsNamedDeclaration, IsOptionalOperation, IsOperator, AreWords}
use Rattle.il_reader.proofs.NameRuns.{or_left, or_right, dotted_words, plain_word}
use Rattle.il_reader.specs.Spelling.{Part, breaks, one, this, operator, ahead, Spell, Says, spelled_name, spelled_names, spelled_declaration, spelled_qualifier, spelled_block, spelled_line, spelled_program, spelled_by, going, listed, spelled_optional_operation}

-- ---- tokens

abbrev is_name : Option Class → Bool
is_name None = false
is_name (Some c) = is_class_of signs.Name c

record Good (dialect : Dialect) (bytes : List ℕ) (p : Piece) : Type 0 where
  is_word : is_name p.class ≡ true → IsNameText dialect (take p.len bytes)

other : (dialect : Dialect) (bytes : List ℕ) (p : Piece) → is_name p.class ≡ false → Good dialect bytes p
other dialect bytes p differs = record { is_word = λ e. let n : false ≡ true = sym differs ∙ e in absurd cc }

either : (dialect : Dialect) (bytes : List ℕ) (c : Bool) (p q : Piece) → (c ≡ true → Good dialect bytes p) → (c ≡ false → Good dialect bytes q) → Good dialect bytes (cond c p q)
either dialect bytes true p q a b = a refl
either dialect bytes false p q a b = b refl

take-length : (xs : List ℕ) (n : ℕ) → take (length (take n xs)) xs ≡ take n xs
take-length [] zero = refl
take-length [] (suc n) = refl
take-length (x ∷ xs) zero = refl
take-length (x ∷ xs) (suc n) = ap (λ (ys : List ℕ). x ∷ ys) (take-length xs n)

all-prefix : (p : ℕ → Bool) (xs : List ℕ) → list_all p (take (prefix_len p xs) xs) ≡ true
all-prefix p [] = refl
all-prefix p (x ∷ xs) = chosen (p x) refl (all-prefix p xs)
  where
    chosen : (b : Bool) → p x ≡ b → list_all p (take (prefix_len p xs) xs) ≡ true → list_all p (take (cond b (1 + prefix_len p xs) 0) (x ∷ xs)) ≡ true
    chosen true is h =
        let n : 1 + prefix_len p xs ≡ suc (prefix_len p xs) = omega arith in
        rw (n, is, h) refl
    chosen false is h = refl

word_is : (b : ℕ) → is_letter_byte b ≡ true → is_word_byte b ≡ true
word_is b is = rw is refl

-- the bytes of a name, where it's spelled well and short enough
name_good : (dialect : Dialect) (bytes : List ℕ) (n : ℕ)
    → (list_all is_well_spelled (name_parts (take n bytes)) ≡ true → is_long (take n bytes) ≡ false → IsNameText dialect (take n bytes))
    → Good dialect bytes (name_of (take n bytes))
unfolding name_of
name_good dialect bytes n named = either dialect bytes (list_all is_well_spelled (name_parts (take n bytes))) (cond (is_long (take n bytes)) (broken TooLong) (sign signs.Name (length (take n bytes)))) (broken BadToken) spelled (λ _. other dialect bytes _ refl)
  where
    fits : list_all is_well_spelled (name_parts (take n bytes)) ≡ true → is_long (take n bytes) ≡ false → Good dialect bytes (sign signs.Name (length (take n bytes)))
    fits well short = record { is_word = λ e. subst (IsNameText dialect) (sym (take-length bytes n)) (named well short) }

    spelled : list_all is_well_spelled (name_parts (take n bytes)) ≡ true → Good dialect bytes (cond (is_long (take n bytes)) (broken TooLong) (sign signs.Name (length (take n bytes))))
    spelled well = either dialect bytes (is_long (take n bytes)) _ _ (λ long. other dialect bytes _ refl) (λ short. fits well short)

abbrev part_long : List (List ℕ) → Bool
part_long parts = list_any (λ part. nat_lt 32 (length part)) parts

named_good : (dialect : Dialect) (b : ℕ) (bs : List ℕ) → is_letter_byte b ≡ true → Good dialect (b ∷ bs) (name_of (take (1 + name_len dialect bs) (b ∷ bs)))
named_good dialects.Plain b bs is =
    let k = prefix_len is_word_byte bs in
    let w = b ∷ take k bs in
    let first : 1 + k ≡ suc k = omega arith in
    let all : list_all is_word_byte w ≡ true = rw (word_is b is) (all-prefix is_word_byte bs) in
    rw first (name_good dialects.Plain (b ∷ bs) (suc k) (λ well short. plain_word w is all well (or_right (nat_lt 96 (length w)) (part_long (name_parts w)) short)))
named_good dialects.Extended b bs is =
    let k = dotted_len bs in
    let w = b ∷ take k bs in
    let first : 1 + k ≡ suc k = omega arith in
    rw first (name_good dialects.Extended (b ∷ bs) (suc k) (λ well short.
    (dotted_words b bs is well (or_right (nat_lt 96 (length w)) (part_long (name_parts w)) short), ltb-false 96 (length w) (or_left (nat_lt 96 (length w)) (part_long (name_parts w)) short))))

literal_good : (dialect : Dialect) → (bytes text : List ℕ) → Good dialect bytes (literal_piece dialect text)
unfolding literal_piece
literal_good dialect bytes text = either dialect bytes (is_some (literal_in dialect text)) _ _ (λ _. other dialect bytes _ refl) (λ _. other dialect bytes _ refl)

word_good : (dialect : Dialect) → (b : ℕ) (bs : List ℕ) → is_letter_byte b ≡ true → Good dialect (b ∷ bs) (word_piece dialect (b ∷ bs))
unfolding word_piece
word_good dialect b bs is = either dialect (b ∷ bs) (begins_with 35 (drop (1 + prefix_len is_word_byte bs) (b ∷ bs))) _ _ (λ _. literal_good dialect (b ∷ bs) _) (λ plain. named_good dialect b bs is)

sign_good : (dialect : Dialect) (bytes : List ℕ) (b : ℕ) (bs : List ℕ) → Good dialect bytes (sign_of b bs)
unfolding sign_of
sign_good dialect bytes b bs =
    either dialect bytes (eqb b 58) _ _ (λ _. either dialect bytes (begins_with 61 bs) _ _ (λ _. other dialect bytes _ refl) (λ _. other dialect bytes _ refl)) (λ _.
    either dialect bytes (eqb b 61) _ _ (λ _. either dialect bytes (begins_with 62 bs) _ _ (λ _. other dialect bytes _ refl) (λ _. other dialect bytes _ refl)) (λ _.
    either dialect bytes (eqb b 44) _ _ (λ _. other dialect bytes _ refl) (λ _.
    either dialect bytes (eqb b 59) _ _ (λ _. other dialect bytes _ refl) (λ _.
    either dialect bytes (eqb b 40) _ _ (λ _. other dialect bytes _ refl) (λ _.
    either dialect bytes (eqb b 41) _ _ (λ _. other dialect bytes _ refl) (λ _.
    either dialect bytes (eqb b 46) _ _ (λ _. other dialect bytes _ refl) (λ _.
    either dialect bytes (eqb b 38) _ _ (λ _. either dialect bytes (is_n bs) _ _ (λ _. other dialect bytes _ refl) (λ _. other dialect bytes _ refl)) (λ _.
    either dialect bytes (is_within 32 126 b) _ _ (λ _. other dialect bytes _ refl) (λ _. other dialect bytes _ refl)))))))))

solid_good : (dialect : Dialect) → (b : ℕ) (bs : List ℕ) → Good dialect (b ∷ bs) (solid_piece dialect (b ∷ bs))
unfolding solid_piece
solid_good dialect b bs =
    either dialect (b ∷ bs) (is_letter_byte b) _ _ (λ is. word_good dialect b bs is) (λ _.
    either dialect (b ∷ bs) (is_number_start b) _ _ (λ _. literal_good dialect (b ∷ bs) _) (λ _.
    either dialect (b ∷ bs) (eqb b 37) _ _ (λ _. other dialect (b ∷ bs) _ refl) (λ _. sign_good dialect (b ∷ bs) b bs)))

comment_good : (dialect : Dialect) (bytes : List ℕ) (o : Option ℕ) → Good dialect bytes (comment_piece o)
comment_good dialect bytes None = other dialect bytes _ refl
comment_good dialect bytes (Some n) = other dialect bytes _ refl

piece_good : (dialect : Dialect) → (b : ℕ) (bs : List ℕ) → Good dialect (b ∷ bs) (piece_of dialect (b ∷ bs))
unfolding piece_of
piece_good dialect b bs =
    either dialect (b ∷ bs) (eqb b 10) _ _ (λ _. other dialect (b ∷ bs) _ refl) (λ _.
    either dialect (b ∷ bs) (is_blank_byte b) _ _ (λ _. other dialect (b ∷ bs) _ refl) (λ _.
    either dialect (b ∷ bs) (eqb b 40 && begins_with 42 bs) _ _ (λ _. comment_good dialect (b ∷ bs) (comment_len (drop 1 bs))) (λ _. solid_good dialect b bs)))

abbrev pub IsNameToken : Dialect → Token → Type 0
IsNameToken dialect t = is_sign signs.Name t ≡ true → IsNameText dialect t.text

put_good : (dialect : Dialect) (o : Option Class) (text : List ℕ) (left : ℕ) (ts : List Token) → (is_name o ≡ true → IsNameText dialect text) → AllByRecursion (IsNameToken dialect) ts → AllByRecursion (IsNameToken dialect) (put o text left ts)
put_good dialect None text left ts here all = all
put_good dialect (Some classes.End) text left ts here all = (here, tt)
put_good dialect (Some (classes.Broken f)) text left ts here all = (here, tt)
put_good dialect (Some (classes.Sign s)) text left ts here all = (here, all)

tokens_good : (dialect : Dialect) → (k : ℕ) (bytes : List ℕ) → AllByRecursion (IsNameToken dialect) (tokens_behind dialect k bytes)
unfolding tokens_behind
tokens_good dialect k [] = (λ e. absurd cc, tt)
tokens_good dialect (suc k) (b ∷ bs) = tokens_good dialect k bs
tokens_good dialect zero (b ∷ bs) =
    let p = piece_of dialect (b ∷ bs) in
    put_good dialect p.class (take p.len (b ∷ bs)) (length (b ∷ bs)) (tokens_behind dialect (p.len - 1) bs) (piece_good dialect b bs).is_word (tokens_good dialect (p.len - 1) bs)

-- ---- parts

skip_good : (dialect : Dialect) (ts : List Token) → AllByRecursion (IsNameToken dialect) ts → AllByRecursion (IsNameToken dialect) (skip_breaks ts)
unfolding skip_breaks
skip_good dialect [] all = tt
skip_good dialect (t ∷ ts) all = chosen (is_sign signs.Break t) (skip_good dialect ts all.1)
  where
    chosen : (b : Bool) → AllByRecursion (IsNameToken dialect) (skip_breaks ts) → AllByRecursion (IsNameToken dialect) (cond b (skip_breaks ts) (t ∷ ts))
    chosen true h = h
    chosen false h = all

abbrev GoodPart : Dialect → Part → Type 0
GoodPart dialect (this p x) = (p x ≡ true) × IsNameToken dialect x
GoodPart dialect (operator f x) = (t : Token) × (f t ≡ Some x)
GoodPart dialect part = Unit {0}

parts_good : (dialect : Dialect) (ps : List Part) (ts rest : List Token) → AllByRecursion (IsNameToken dialect) ts → Spell ps ts rest → AllByRecursion (GoodPart dialect) ps
parts_good dialect [] ts rest all h = tt
parts_good dialect (breaks ∷ ps) ts rest all h = (tt, parts_good dialect ps (skip_breaks ts) rest (skip_good dialect ts all) h)
parts_good dialect (ahead p ∷ ps) ts rest all h = (tt, parts_good dialect ps ts rest all h.1)
parts_good dialect (one p ∷ ps) [] rest all h = absurd h
parts_good dialect (one p ∷ ps) (t ∷ ts) rest all h = (tt, parts_good dialect ps ts rest all.1 h.1)
parts_good dialect (operator f x ∷ ps) [] rest all h = absurd h
parts_good dialect (operator f x ∷ ps) (t ∷ ts) rest all h = ((t, h.0), parts_good dialect ps ts rest all.1 h.1)
parts_good dialect (this p x ∷ ps) [] rest all h = absurd h
parts_good dialect (this p x ∷ ps) (t ∷ ts) rest all h =
    let P : Token → Type 0 = λ u. (p u ≡ true) × IsNameToken dialect u in
    (subst P h.0.1 (h.0.0, all.0), parts_good dialect ps ts rest all.1 h.1)

-- ---- what a text says

left_good : (dialect : Dialect) (ps qs : List Part) → AllByRecursion (GoodPart dialect) (ps ++ qs) → AllByRecursion (GoodPart dialect) ps
left_good dialect [] qs all = tt
left_good dialect (p ∷ ps) qs all = (all.0, left_good dialect ps qs all.1)

right_good : (dialect : Dialect) (ps qs : List Part) → AllByRecursion (GoodPart dialect) (ps ++ qs) → AllByRecursion (GoodPart dialect) qs
right_good dialect [] qs all = all
right_good dialect (p ∷ ps) qs all = right_good dialect ps qs all.1

-- the parts of each thing of a list
each_good : {X : Type 0} (dialect : Dialect) (F : X → Type 0) (s : X → List Part) (qs : List Part) → ((x : X) → AllByRecursion (GoodPart dialect) (s x) → F x) → (xs : List X) → AllByRecursion (GoodPart dialect) (flat_map s xs ++ qs) → AllByRecursion F xs
each_good dialect F s qs good [] all = tt
each_good dialect F s qs good (x ∷ xs) all =
    let P : List Part → Type 0 = λ ps. AllByRecursion (GoodPart dialect) ps in
    let e : flat_map s (x ∷ xs) ++ qs ≡ s x ++ (flat_map s xs ++ qs) = rw (flat_map-cons, append_assoc) refl in
    let split = subst P e all in
    (good x (left_good dialect (s x) (flat_map s xs ++ qs) split), each_good dialect F s qs good xs (right_good dialect (s x) (flat_map s xs ++ qs) split))

a_name : (dialect : Dialect) (t : Token) → (is_sign signs.Name t ≡ true) × IsNameToken dialect t → IsName dialect t
a_name dialect t h = h.1 h.0

names_good : (dialect : Dialect) (x : NamesText) (qs : List Part) → AllByRecursion (GoodPart dialect) (spelled_names x ++ qs) → AreNames dialect x
names_good dialect (Located t) qs all = tt
names_good dialect (More ts) qs all = each_good dialect (IsName dialect) spelled_name (ahead ends_names ∷ []) (λ t h. a_name dialect t h.1.1.1.0) ts (left_good dialect (flat_map spelled_name ts ++ ahead ends_names ∷ []) qs all.1)

declaration_good : (dialect : Dialect) (d : DeclarationText) → AllByRecursion (GoodPart dialect) (going ends_block spelled_declaration d) → IsNamedDeclaration dialect d
declaration_good dialect d all = record { name = a_name dialect d.name all.1.1.0; names = names_good dialect d.names _ all.1.1.1.1 }

block_good : (dialect : Dialect) → (b : BlockText) → AllByRecursion (GoodPart dialect) (going (ends_blocks dialect) (spelled_block dialect) b) → AllByRecursion (IsNamedDeclaration dialect) b.declarations
block_good dialect b all =
    let behind = right_good dialect (spelled_qualifier dialect b.qualifier) _ all.1.1.1.1 in
    each_good dialect (IsNamedDeclaration dialect) (going ends_block spelled_declaration) (ahead ends_block ∷ []) (declaration_good dialect) b.declarations (left_good dialect (listed ends_block spelled_declaration b.declarations) _ behind)

blocks_good : (dialect : Dialect) → (bs : List BlockText) (qs : List Part) → AllByRecursion (GoodPart dialect) (listed (ends_blocks dialect) (spelled_block dialect) bs ++ qs) → AllByRecursion (λ (b : BlockText). AllByRecursion (IsNamedDeclaration dialect) b.declarations) bs
blocks_good dialect bs qs all = each_good dialect (λ (b : BlockText). AllByRecursion (IsNamedDeclaration dialect) b.declarations) (going (ends_blocks dialect) (spelled_block dialect)) (ahead (ends_blocks dialect) ∷ []) (block_good dialect) bs (left_good dialect (listed (ends_blocks dialect) (spelled_block dialect) bs) qs all)

line_good : (dialect : Dialect) → (stops : List Token → Bool) (l : LineText) → AllByRecursion (GoodPart dialect) (going stops (spelled_line dialect) l) → IsOperator dialect l
line_good dialect stops (Plain o) all = all.1.1.1.0
line_good dialect stops (Labelled t o) all = (a_name dialect t all.1.1.0, optional o all.1.1.1.1)
  where
    optional : (o : Option OperationText) → AllByRecursion (GoodPart dialect) (spelled_optional_operation dialect o ++ ahead is_line_stop ∷ []) → IsOptionalOperation dialect o
    optional None h = tt
    optional (Some x) h = h.0

body : (dialect : Dialect) → (stops : List Token → Bool) (p : ProgramText) (qs : List Part) → AllByRecursion (GoodPart dialect) (listed (ends_blocks dialect) (spelled_block dialect) p.blocks ++ (listed stops (spelled_line dialect) p.lines ++ qs)) → AreWords dialect p
body dialect stops p qs all =
    let rest = right_good dialect (listed (ends_blocks dialect) (spelled_block dialect) p.blocks) (listed stops (spelled_line dialect) p.lines ++ qs) all in
    record {
      blocks = blocks_good dialect p.blocks (listed stops (spelled_line dialect) p.lines ++ qs) all;
      lines = each_good dialect (IsOperator dialect) (going stops (spelled_line dialect)) (ahead stops ∷ []) (line_good dialect stops) p.lines (left_good dialect (listed stops (spelled_line dialect) p.lines) qs rest);
    }

program_good : (dialect : Dialect) → (o : Option Token) (p : ProgramText) → AllByRecursion (GoodPart dialect) (spelled_by dialect o p) → AreWords dialect p
program_good dialect None p all = body dialect ends_lines p _ all.1
program_good dialect (Some t) p all = body dialect ends_named p _ all.1.1.1

-- the names of a text's declarations are names
pub said_words : (dialect : Dialect) → (bytes : List ℕ) (p : ProgramText) → Says dialect bytes p → AreWords dialect p
said_words dialect bytes p says = program_good dialect p.name p (parts_good dialect (spelled_program dialect p) (tokens_of dialect bytes) says.0 (tokens_good dialect 0 bytes) says.1)
