-- The numbers that stand in front are read as they were spelled.
use Rattle.std.proofs.Common.{◌≡◌, ℕ, suc, ◌+◌, ◌*◌, ◌^◌, ◌<◌, ◌==◌, Bool, true, false, List, [], ◌∷◌, ◌++◌, length, map, refl, sym, ap, ap₂, ◌∙◌, arith, append_assoc, length-append}
use Rattle.std.specs.Prelude.{slice_index}
use Rattle.std.specs.List.{AllByRecursion, flat_map}
use Rattle.std.proofs.lemmas.List.Concat.{flat_map-cons}
use Rattle.std.proofs.lemmas.List.{append-nil, drop_at}
use Rattle.byteorder.specs.Endian.{big_bytes, big_number}
use Rattle.byteorder.specs.Numbers.{big_number-reads_back, length-bytes_high_first}
use Rattle.vr_model.specs.Checkpoints.{KeptLog}
use Rattle.vr_pausing.specs.declared.marking.Marks.{Marks}
use Rattle.vr_bases.specs.declared.base.Base.{Base}
use Rattle.vr_bases.specs.Spelling.{flag, flag_bytes, numbers_of, numbers_bytes, marks_bytes, number_at, numbers_at, FitsMarks, is_read}

pub bytes_append : (ns ms : List ℕ) → numbers_bytes (ns ++ ms) ≡ numbers_bytes ns ++ numbers_bytes ms
bytes_append [] ms = refl
bytes_append (n ∷ ns) ms = ap (λ (xs : List ℕ). big_bytes 8 n ++ xs) (bytes_append ns ms) ∙ sym (append_assoc (big_bytes 8 n) (numbers_bytes ns) (numbers_bytes ms))

pub bytes_long : (ns : List ℕ) → length (numbers_bytes ns) ≡ length ns * 8
bytes_long [] = refl
bytes_long (n ∷ ns) = let rest : length (numbers_bytes ns) ≡ length ns * 8 = bytes_long ns in omega (arith, rest, length-append (big_bytes 8 n) (numbers_bytes ns), length-bytes_high_first 8 n)

as_listed : (ns : List ℕ) → flat_map (big_bytes 8) ns ≡ numbers_bytes ns
as_listed [] = refl
as_listed (n ∷ ns) = flat_map-cons (big_bytes 8) n ns ∙ ap (λ (xs : List ℕ). big_bytes 8 n ++ xs) (as_listed ns)

flags_listed : (bs : List Bool) → flat_map flag_bytes bs ≡ numbers_bytes (map flag bs)
flags_listed [] = refl
flags_listed (b ∷ bs) = flat_map-cons flag_bytes b bs ∙ ap (λ (xs : List ℕ). flag_bytes b ++ xs) (flags_listed bs)

-- what is put, one behind the other
pub spelled : (m : Marks) (a b c d e : List ℕ) → a ≡ [] ++ big_bytes 8 m.stored_view → b ≡ a ++ big_bytes 8 m.nonce → c ≡ b ++ flat_map (big_bytes 8) m.acknowledged → d ≡ c ++ big_bytes 8 (flag m.sent_do_view_change) → e ≡ d ++ flat_map flag_bytes m.start_view_changes
    → e ≡ marks_bytes m
spelled m a b c d e first second third fourth fifth =
    let s : List ℕ = big_bytes 8 m.stored_view in
    let x : List ℕ = big_bytes 8 m.nonce in
    let hs : List ℕ = numbers_bytes m.acknowledged in
    let f : List ℕ = big_bytes 8 (flag m.sent_do_view_change) in
    let cs : List ℕ = numbers_bytes (map flag m.start_view_changes) in
    let b_is : b ≡ s ++ x = second ∙ ap (λ (ys : List ℕ). ys ++ x) first in
    let c_is : c ≡ s ++ (x ++ hs) = third ∙ ap₂ (λ (ys zs : List ℕ). ys ++ zs) b_is (as_listed m.acknowledged) ∙ append_assoc s x hs in
    let d_is : d ≡ s ++ (x ++ (hs ++ f)) = fourth ∙ ap (λ (ys : List ℕ). ys ++ f) c_is ∙ append_assoc s (x ++ hs) f ∙ ap (λ (ys : List ℕ). s ++ ys) (append_assoc x hs f) in
    let e_is : e ≡ s ++ (x ++ (hs ++ (f ++ cs))) =
    fifth ∙ ap₂ (λ (ys zs : List ℕ). ys ++ zs) d_is (flags_listed m.start_view_changes) ∙ append_assoc s (x ++ (hs ++ f)) cs
    ∙ ap (λ (ys : List ℕ). s ++ ys) (append_assoc x (hs ++ f) cs ∙ ap (λ (ys : List ℕ). x ++ ys) (append_assoc hs f cs)) in
    e_is ∙ ap (λ (ys : List ℕ). s ++ (x ++ ys)) (sym (bytes_append m.acknowledged (flag m.sent_do_view_change ∷ map flag m.start_view_changes)))

abbrev pub AllFit : List ℕ → Type 0
AllFit ns = AllByRecursion (λ n. n < 2 ^ 64) ns

-- behind some bytes
behind : (ns front rest : List ℕ) (place : ℕ) → AllFit ns → length front ≡ place * 8 → numbers_at (front ++ (numbers_bytes ns ++ rest)) place (length ns) ≡ ns
behind [] front rest place fit long = refl
behind (n ∷ ns) front rest place fit long =
    let here : List ℕ = big_bytes 8 n in
    let more : List ℕ = numbers_bytes ns in
    let parted : (here ++ more) ++ rest ≡ here ++ (more ++ rest) = append_assoc here more rest in
    let one : number_at (front ++ ((here ++ more) ++ rest)) place ≡ n =
    ap (big_number 8) (drop_at front ((here ++ more) ++ rest) (place * 8) long ∙ parted) ∙ big_number-reads_back 8 n (more ++ rest) fit.0 in
    let longer : length (front ++ here) ≡ (place + 1) * 8 = omega (arith, long, length-append front here, length-bytes_high_first 8 n) in
    let all : (front ++ here) ++ (more ++ rest) ≡ front ++ ((here ++ more) ++ rest) = append_assoc front here (more ++ rest) ∙ ap (λ (xs : List ℕ). front ++ xs) (sym parted) in
    let others : numbers_at (front ++ ((here ++ more) ++ rest)) (place + 1) (length ns) ≡ ns =
    ap (λ (xs : List ℕ). numbers_at xs (place + 1) (length ns)) (sym all) ∙ behind ns (front ++ here) rest (place + 1) fit.1 longer in
    ap₂ (λ (x : ℕ) (xs : List ℕ). x ∷ xs) one others

-- of a list of numbers those of its middle
pub middle : (hs bs cs all bytes rest : List ℕ) (place count : ℕ) → AllFit bs → all ≡ hs ++ (bs ++ cs) → bytes ≡ numbers_bytes all ++ rest → place ≡ length hs → count ≡ length bs → numbers_at bytes place count ≡ bs
middle hs bs cs all bytes rest place count fit parts is at many =
    let spread : bytes ≡ numbers_bytes hs ++ (numbers_bytes bs ++ (numbers_bytes cs ++ rest)) =
    is ∙ ap (λ (xs : List ℕ). numbers_bytes xs ++ rest) parts ∙ ap (λ (xs : List ℕ). xs ++ rest) (bytes_append hs (bs ++ cs) ∙ ap (λ (xs : List ℕ). numbers_bytes hs ++ xs) (bytes_append bs cs))
    ∙ append_assoc (numbers_bytes hs) (numbers_bytes bs ++ numbers_bytes cs) rest ∙ ap (λ (xs : List ℕ). numbers_bytes hs ++ xs) (append_assoc (numbers_bytes bs) (numbers_bytes cs) rest) in
    let found : numbers_at (numbers_bytes hs ++ (numbers_bytes bs ++ (numbers_bytes cs ++ rest))) (length hs) (length bs) ≡ bs = behind bs (numbers_bytes hs) (numbers_bytes cs ++ rest) (length hs) fit (bytes_long hs) in
    ap (λ (xs : List ℕ). numbers_at xs place count) spread ∙ ap₂ (λ (p c : ℕ). numbers_at (numbers_bytes hs ++ (numbers_bytes bs ++ (numbers_bytes cs ++ rest))) p c) at many ∙ found

first_of_one : (x y : ℕ) → x ∷ [] ≡ y ∷ [] → x ≡ y
first_of_one x y e = ap (λ (xs : List ℕ). slice_index xs 0) e

flag_fits : (b : Bool) → flag b < 2 ^ 64
flag_fits true = omega arith
flag_fits false = omega arith

flags_fit : (bs : List Bool) → AllFit (map flag bs)
flags_fit [] = tt
flags_fit (b ∷ bs) = (flag_fits b, flags_fit bs)

flag_read : (b : Bool) → (flag b == 1) ≡ b
flag_read true = refl
flag_read false = refl

flags_read : (bs : List Bool) → map (λ n. n == 1) (map flag bs) ≡ bs
flags_read [] = refl
flags_read (b ∷ bs) = ap₂ (λ (x : Bool) (xs : List Bool). x ∷ xs) (flag_read b) (flags_read bs)

map_long : (bs : List Bool) → length (map flag bs) ≡ length bs
map_long [] = refl
map_long (b ∷ bs) = ap suc (map_long bs)

count : (m : Marks) → FitsMarks m → length (numbers_of m) ≡ 17
count m fits =
    ap (λ (k : ℕ). suc (suc k))
    (length-append m.acknowledged (flag m.sent_do_view_change ∷ map flag m.start_view_changes) ∙ ap₂ (λ (a b : ℕ). a + suc b) fits.each_acknowledged (map_long m.start_view_changes ∙ fits.each_change))

pub marks_long : (m : Marks) → FitsMarks m → length (marks_bytes m) ≡ 136
marks_long m fits = bytes_long (numbers_of m) ∙ ap (λ (k : ℕ). k * 8) (count m fits)

-- marks by what they are read from
abbrev made : (m : Marks) → ℕ → List ℕ → List Bool → Bool → ℕ → Marks
made m stored acknowledged changes sent nonce = record {
  view = m.view;
  commit_number = m.commit_number;
  last_normal_view = m.last_normal_view;
  stored_view = stored;
  acknowledged = acknowledged;
  start_view_changes = changes;
  sent_do_view_change = sent;
  nonce = nonce;
}

-- the base of which these marks and this log are
abbrev based : KeptLog → Marks → Base
based log n = record { marks = n; log = log }

abbrev pub parts : ℕ → ℕ → ℕ → KeptLog → ℕ → List ℕ → List Bool → Bool → ℕ → Base
parts view last commit log stored acknowledged changes sent nonce = record {
  marks = record {
    view = view;
    commit_number = commit;
    last_normal_view = last;
    stored_view = stored;
    acknowledged = acknowledged;
    start_view_changes = changes;
    sent_do_view_change = sent;
    nonce = nonce;
  };
  log = log;
}

pub is_read_by : (bytes : List ℕ) (view last commit : ℕ) (log : KeptLog) (stored : ℕ) (acknowledged : List ℕ) (changes : List Bool) (sent : Bool) (nonce : ℕ)
    → stored ≡ number_at bytes 0 → acknowledged ≡ numbers_at bytes 2 7 → changes ≡ map (λ n. n == 1) (numbers_at bytes 10 7) → sent ≡ (number_at bytes 9 == 1) → nonce ≡ number_at bytes 1
    → parts view last commit log stored acknowledged changes sent nonce ≡ is_read bytes view last commit log
is_read_by bytes view last commit log stored acknowledged changes sent nonce a b c d e =
    ap₂ (λ (x : ℕ) (xs : List ℕ). parts view last commit log x xs changes sent nonce) a b
    ∙ ap₂ (λ (bs : List Bool) (y : Bool). parts view last commit log (number_at bytes 0) (numbers_at bytes 2 7) bs y nonce) c d
    ∙ ap (λ (n : ℕ). parts view last commit log (number_at bytes 0) (numbers_at bytes 2 7) (map (λ n. n == 1) (numbers_at bytes 10 7)) (number_at bytes 9 == 1) n) e

pub marks_read : (m : Marks) (log : KeptLog) (bytes rest : List ℕ) → FitsMarks m → bytes ≡ marks_bytes m ++ rest → is_read bytes m.view m.last_normal_view m.commit_number log ≡ record { marks = m; log = log }
marks_read m log bytes rest fits is =
    let s : ℕ = m.stored_view in
    let x : ℕ = m.nonce in
    let hs : List ℕ = m.acknowledged in
    let d : ℕ = flag m.sent_do_view_change in
    let cs : List ℕ = map flag m.start_view_changes in
    let all : List ℕ = numbers_of m in
    let stored : number_at bytes 0 ≡ s = first_of_one (number_at bytes 0) s (middle [] (s ∷ []) (x ∷ (hs ++ (d ∷ cs))) all bytes rest 0 1 (fits.stored_view, tt) refl is refl refl) in
    let nonce : number_at bytes 1 ≡ x = first_of_one (number_at bytes 1) x (middle (s ∷ []) (x ∷ []) (hs ++ (d ∷ cs)) all bytes rest 1 1 (fits.nonce, tt) refl is refl refl) in
    let acknowledged : numbers_at bytes 2 7 ≡ hs = middle (s ∷ x ∷ []) hs (d ∷ cs) all bytes rest 2 7 fits.acknowledged refl is refl (sym fits.each_acknowledged) in
    let sent : number_at bytes 9 ≡ d = first_of_one (number_at bytes 9) d (middle (s ∷ x ∷ hs) (d ∷ []) cs all bytes rest 9 1 (flag_fits m.sent_do_view_change, tt) refl is (sym (ap (λ (k : ℕ). suc (suc k)) fits.each_acknowledged)) refl) in
    let ends : all ≡ (s ∷ x ∷ (hs ++ (d ∷ []))) ++ (cs ++ []) =
    ap (λ (xs : List ℕ). s ∷ x ∷ xs) (sym (append_assoc hs (d ∷ []) cs) ∙ ap (λ (xs : List ℕ). (hs ++ (d ∷ [])) ++ xs) (sym (append-nil cs))) in
    let changes : numbers_at bytes 10 7 ≡ cs =
    middle (s ∷ x ∷ (hs ++ (d ∷ []))) cs [] all bytes rest 10 7 (flags_fit m.start_view_changes) ends is (sym (ap (λ (k : ℕ). suc (suc k)) (length-append hs (d ∷ []) ∙ ap (λ (k : ℕ). k + 1) fits.each_acknowledged))) (sym (map_long m.start_view_changes ∙ fits.each_change)) in
    let set : (number_at bytes 9 == 1) ≡ m.sent_do_view_change = ap (λ (n : ℕ). n == 1) sent ∙ flag_read m.sent_do_view_change in
    let who : map (λ n. n == 1) (numbers_at bytes 10 7) ≡ m.start_view_changes = ap (λ (ns : List ℕ). map (λ n. n == 1) ns) changes ∙ flags_read m.start_view_changes in
    ap (λ (n : Marks). based log n)
    (ap₂ (λ (a : ℕ) (b : List ℕ). made m a b (map (λ n. n == 1) (numbers_at bytes 10 7)) (number_at bytes 9 == 1) (number_at bytes 1)) stored acknowledged
    ∙ ap₂ (λ (c : List Bool) (b : Bool). made m s hs c b (number_at bytes 1)) who set
    ∙ ap (λ (n : ℕ). made m s hs m.start_view_changes m.sent_do_view_change n) nonce)
