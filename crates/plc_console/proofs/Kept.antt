-- What is kept of a line, and which command that is.
use Rattle.std.proofs.Common.{◌≡◌, ◌<◌, ◌≤◌, inl, inr, ℕ, Bool, true, false, List, [], ◌∷◌, ◌++◌, length, Option, Some, None, refl, sym, ap, subst, ◌∙◌, length-append, arith}
use Rattle.std.specs.Prelude.{nat_le, if◌then◌else◌}
use Rattle.il_model.specs.declared.command.Command.{Command}
use Rattle.std.proofs.lemmas.Bool.{cases_Bool, leb-true, leb-false, le-leb, lt-leb}
use Rattle.il_model.specs.Program.{Program}
use Rattle.plc_json.specs.declared.command.NamedCommand.{NamedCommand}
use Rattle.plc_json.specs.declared.question.Asked.{Asked}
use Rattle.plc_json.specs.declared.question.Asked.TheVariants as asked
use Rattle.plc_json.specs.declared.question.Question.{Question}
use Rattle.plc_json.specs.Asking.{HasAsked, HasNothing}
use Rattle.plc_names.specs.Named.{meant}
use Rattle.plc_console.specs.declared.line.Wish.{Wish}
use Rattle.plc_console.specs.declared.line.Wish.TheVariants as wishes
use Rattle.plc_console.specs.Web.{is_of_http}
use Rattle.plc_console.specs.Lines.{is_long_change, longest_line, most_kept, kept, IsOfHttp, IsScan, IsWish, IsWishOf, AsksFor, AsksAbout, AsksForScan, AsksForNothing}

kept_short : (line : List ℕ) → length line ≤ most_kept → kept line ≡ Some line
kept_short line le = let test : nat_le (length line) most_kept ≡ true = le-leb (length line) most_kept le in rw test refl

kept_long : (line : List ℕ) → most_kept < length line → kept line ≡ None
kept_long line lt = let test : nat_le (length line) most_kept ≡ false = lt-leb (length line) most_kept lt in rw test refl

abbrev bytes_told : Option (List ℕ) → List ℕ
bytes_told None = []
bytes_told (Some bytes) = bytes

-- the whole line is kept
pub is_kept : (line bytes : List ℕ) → Some bytes ≡ kept line → (bytes ≡ line) × (length line ≤ most_kept)
is_kept line bytes is = elim (cases_Bool (nat_le (length line) most_kept)) [
  | inl fits ↦ let le = leb-true (length line) most_kept fits in (ap bytes_told (is ∙ kept_short line le), le)
  | inr over ↦ absurd (let wrong : Some bytes ≡ None = is ∙ kept_long line (leb-false (length line) most_kept over) in cc)
]

-- nothing is kept of it
is_over_kept : (line : List ℕ) → None ≡ kept line → most_kept < length line
is_over_kept line is = elim (cases_Bool (nat_le (length line) most_kept)) [
  | inl fits ↦ absurd (let wrong : None ≡ Some line = is ∙ kept_short line (leb-true (length line) most_kept fits) in cc)
  | inr over ↦ leb-false (length line) most_kept over
]

-- one byte more
pub pushes : (line bytes : List ℕ) (byte : ℕ) → Some bytes ≡ kept line → length bytes < most_kept → Some (bytes ++ byte ∷ []) ≡ kept (line ++ byte ∷ [])
pushes line bytes byte is lt =
    let same : bytes ≡ line = (is_kept line bytes is).0 in
    let fits : length (line ++ byte ∷ []) ≤ most_kept = omega (arith, length-append line (byte ∷ []), ap length same, lt) in
    ap (λ (l : List ℕ). Some (l ++ byte ∷ [])) same ∙ sym (kept_short (line ++ byte ∷ []) fits)

pub fills : (line bytes : List ℕ) (byte : ℕ) → Some bytes ≡ kept line → most_kept ≤ length bytes → None ≡ kept (line ++ byte ∷ [])
fills line bytes byte is le =
    let same : bytes ≡ line = (is_kept line bytes is).0 in
    sym (kept_long (line ++ byte ∷ []) (omega (arith, length-append line (byte ∷ []), ap length same, le)))

pub stays : (line : List ℕ) (byte : ℕ) → None ≡ kept line → None ≡ kept (line ++ byte ∷ [])
stays line byte is = sym (kept_long (line ++ byte ∷ []) (omega (arith, length-append line (byte ∷ []), is_over_kept line is)))

-- what a line keeps, by whether it's marked as too long
abbrev pub marked : Bool → List ℕ → Option (List ℕ)
marked long bytes = if long then None else Some bytes

pub pushed : (long : Bool) (bytes : List ℕ) (byte : ℕ) → length bytes < most_kept → (line : List ℕ) → marked long bytes ≡ kept line → marked long (bytes ++ byte ∷ []) ≡ kept (line ++ byte ∷ [])
pushed true bytes byte lt line is = stays line byte is
pushed false bytes byte lt line is = pushes line bytes byte is lt

pub filled : (long : Bool) (bytes : List ℕ) (byte : ℕ) → most_kept ≤ length bytes → (line : List ℕ) → marked long bytes ≡ kept line → None ≡ kept (line ++ byte ∷ [])
filled true bytes byte le line is = stays line byte is
filled false bytes byte le line is = fills line bytes byte is le

-- ---- what the line asks for

read_line : (line bytes : List ℕ) (a : Asked) → bytes ≡ line → HasAsked bytes a → HasAsked line a
read_line line bytes a same read = subst (λ (l : List ℕ). HasAsked l a) same read

-- it has no more bytes than a line of its beginning may have
is_short : (line bytes : List ℕ) → bytes ≡ line → length bytes ≤ longest_line bytes → length line ≤ longest_line line
is_short line bytes same short = subst (λ (l : List ℕ). length l ≤ longest_line l) same short

asks_for : (Q : Program) (line bytes : List ℕ) (named : NamedCommand) → bytes ≡ line → length bytes ≤ longest_line bytes → HasAsked bytes (asked.Command named) → (IsScan named → ⊥) → AsksFor Q line (meant Q named)
asks_for Q line bytes named same short read no_scan =
    record { named = named; short = is_short line bytes same short; read = read_line line bytes (asked.Command named) same read; no_scan = no_scan; is = refl }

asks_for_scan : (line bytes : List ℕ) (named : NamedCommand) → bytes ≡ line → HasAsked bytes (asked.Command named) → IsScan named → AsksForNothing line
asks_for_scan line bytes named same read scan =
    let scans : AsksForScan line = record { named = named; read = read_line line bytes (asked.Command named) same read; is_scan = scan } in
    inr (inr scans)

asks_about : (line bytes : List ℕ) (question : Question) → bytes ≡ line → length bytes ≤ longest_line bytes → HasAsked bytes (asked.Question question) → AsksAbout line question
asks_about line bytes question same short read =
    record { short = is_short line bytes same short; read = read_line line bytes (asked.Question question) same read }

asks_for_none : (line bytes : List ℕ) → bytes ≡ line → HasNothing bytes → AsksForNothing line
asks_for_none line bytes same none = inr (inl (subst (λ (l : List ℕ). HasNothing l) same none))

-- no line has more bytes than are kept
at_most_kept : (b : Bool) → (if b then most_kept else 131_072) ≤ most_kept
at_most_kept true = omega arith
at_most_kept false = omega arith

-- a line that has more bytes than it may asks for nothing, and is none of HTTP
refuses_longer : (Q : Program) (line : List ℕ) → longest_line line < length line → IsWish Q line wishes.Refuse
refuses_longer Q line over = ((λ http. omega (arith, over, http.0)), inl over)

-- ---- the same by what a line keeps

module _ (seen : Option (List ℕ)) (long : Bool) (bytes : List ℕ) (view : seen ≡ marked long bytes) where
  keeps : (line : List ℕ) → long ≡ false → seen ≡ kept line → bytes ≡ line
  keeps line whole is =
      let some : Some bytes ≡ kept line = sym (view ∙ ap (λ (b : Bool). marked b bytes) whole) ∙ is in
      (is_kept line bytes some).0

  -- a line that's kept as it is, is of HTTP where its bytes are
  no_http : (line : List ℕ) → bytes ≡ line → is_of_http bytes ≡ false → IsOfHttp line → ⊥
  no_http line same other http = absurd (let wrong : false ≡ true = sym other ∙ (ap is_of_http same ∙ http.1) in cc)

  pub long_asked : (Q : Program) → long ≡ true → (line : List ℕ) → seen ≡ kept line → IsWish Q line wishes.Refuse
  long_asked Q too_long line is =
      let none : None ≡ kept line = sym (view ∙ ap (λ (b : Bool). marked b bytes) too_long) ∙ is in
      refuses_longer Q line (omega (arith, is_over_kept line none, at_most_kept (is_long_change line)))

  pub longer_asked : (Q : Program) → long ≡ false → longest_line bytes < length bytes → (line : List ℕ) → seen ≡ kept line → IsWish Q line wishes.Refuse
  longer_asked Q whole over line is =
      refuses_longer Q line (subst (λ (l : List ℕ). longest_line l < length l) (keeps line whole is) over)

  pub http_asked : (Q : Program) → long ≡ false → length bytes ≤ longest_line bytes → is_of_http bytes ≡ true → (line : List ℕ) → seen ≡ kept line → IsWish Q line wishes.Leave
  http_asked Q whole short http line is =
      let same = keeps line whole is in
      (is_short line bytes same short, sym (ap is_of_http same) ∙ http)

  pub nothing_asked : (Q : Program) → long ≡ false → is_of_http bytes ≡ false → HasNothing bytes → (line : List ℕ) → seen ≡ kept line → IsWish Q line wishes.Refuse
  nothing_asked Q whole other none line is =
      let same = keeps line whole is in
      (no_http line same other, asks_for_none line bytes same none)

  pub question_asked : (Q : Program) (question : Question) → long ≡ false → length bytes ≤ longest_line bytes → is_of_http bytes ≡ false → HasAsked bytes (asked.Question question) → (line : List ℕ) → seen ≡ kept line → IsWish Q line (wishes.Tell question)
  question_asked Q question whole short other read line is =
      let same = keeps line whole is in
      (no_http line same other, asks_about line bytes question same short read)

  pub wish_asked : (Q : Program) (wish : Wish) (named : NamedCommand) → long ≡ false → length bytes ≤ longest_line bytes → is_of_http bytes ≡ false → HasAsked bytes (asked.Command named) → IsWishOf Q named wish → (line : List ℕ) → seen ≡ kept line → IsWish Q line wish
  wish_asked Q (wishes.Submit command) named whole short other read found line is =
      let same = keeps line whole is in
      (no_http line same other, subst (λ (c : Command). AsksFor Q line c) (sym found.1) (asks_for Q line bytes named same short read found.0))
  wish_asked Q (wishes.Tell question) named whole short other read found line is = absurd found
  wish_asked Q wishes.Refuse named whole short other read found line is =
      let same = keeps line whole is in
      (no_http line same other, asks_for_scan line bytes named same read found)
  wish_asked Q wishes.Leave named whole short other read found line is = absurd found
