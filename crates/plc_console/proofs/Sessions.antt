-- Sessions, put together from their lines.
use Rattle.std.proofs.Common.{◌≡◌, ℕ, ◌<◌, ◌≤◌, ◌⊎◌, inl, inr, List, [], ◌∷◌, ◌++◌, take, drop, refl, sym, ap, subst, ◌∙◌, append_assoc, arith, Option, Some, None, take-append-drop, Result, Ok, Err}
use Rattle.std.specs.Prelude.{MatchResult, IfSome, IfNone}
use Rattle.std.specs.List.{flat_map}
use Rattle.std.specs.Io.KnownBytes.{Appends, Consumes, Keeps, IsAtEnd}
use Rattle.std.proofs.KnownBytes.{Appends-nil, Appends-trans, Consumes-nil, Consumes-trans, Consumes-kept}
use Rattle.std.proofs.lemmas.List.{append-nil}
use Rattle.std.proofs.lemmas.List.Concat.{flat_map-cons}
use Rattle.std.proofs.lemmas.Grind.{flat_map-append}
use Rattle.io_model.specs.Streams.{Failed}
use Rattle.il_model.specs.declared.command.Answer.{Answer}
use Rattle.il_model.specs.declared.command.Command.{Command}
use Rattle.il_model.specs.Program.{Program}
use Rattle.vr_ports.specs.Parties.{Grows}
use Rattle.plc_console.specs.declared.session.SessionEnd.{SessionEnd}
use Rattle.plc_console.specs.declared.session.SessionEnd.TheVariants as ends
use Rattle.plc_json.specs.declared.question.Question.{Question}
use Rattle.plc_console.specs.declared.line.Wish.{Wish}
use Rattle.plc_console.specs.declared.line.Wish.TheVariants as wishes
use Rattle.plc_console.specs.Mirrored.{brought_by, goes_on_with, in_force_after}
use Rattle.plc_console.specs.declared.line.Intake.{Intake}
use Rattle.plc_console.specs.Lines.{line_end, HasNoEnd, kept, IsWish, Wants, IsOfHttp, AsksForNothing, most_refused, EndsSession, EndsAt, StaysAt, refused_with, refused_behind, Outcome, Submitted, Told, Refused, IsOutcome, Fits, text_of, submitted_by}
use Rattle.plc_console.specs.Sessions.{Turn, line_of, IsTurn, AreTurns, lines_of, texts_of, submitted_in, refused_after, Scene, scene, Serves, Breaks, Dismisses, Stops, Ended, Talks, Takes, TakesShort, StopsAt, IsWhyUnwritten, Writes}
use Rattle.plc_console.proofs.Waiting.{grows_none, grows_more, all_more}

lines_both : (ts us : List Turn) → lines_of (ts ++ us) ≡ lines_of ts ++ lines_of us
lines_both ts us = flat_map-append line_of ts us

texts_both : (ts us : List Turn) → texts_of (ts ++ us) ≡ texts_of ts ++ texts_of us
texts_both ts us = flat_map-append (λ (t : Turn). text_of t.outcome) ts us

submitted_both : (ts us : List Turn) → submitted_in (ts ++ us) ≡ submitted_in ts ++ submitted_in us
submitted_both ts us = flat_map-append (λ (t : Turn). submitted_by t.outcome) ts us

-- the lines of a stream and those of what comes behind it
lines_on : (a p b q more : List ℕ) (ts us : List Turn) → a ++ p ≡ lines_of ts ++ b → b ++ q ≡ lines_of us ++ more → a ++ (p ++ q) ≡ lines_of (ts ++ us) ++ more
lines_on a p b q more ts us first then =
    sym (append_assoc a p q)
    ∙ (ap (λ (l : List ℕ). l ++ q) first
    ∙ (append_assoc (lines_of ts) b q
    ∙ (ap (λ (l : List ℕ). lines_of ts ++ l) then
    ∙ (sym (append_assoc (lines_of ts) (lines_of us) more) ∙ ap (λ (l : List ℕ). l ++ more) (sym (lines_both ts us))))))

submitted_on : (a b c : Option (List (Command × Answer))) (ts us : List Turn) → Grows a b (submitted_in ts) → Grows b c (submitted_in us) → Grows a c (submitted_in (ts ++ us))
submitted_on a b c ts us h k = subst (λ (l : List (Command × Answer)). Grows a c l) (sym (submitted_both ts us)) (grows_more a b c (submitted_in ts) (submitted_in us) h k)

in_force_both : (Q : Program) (past more : List (Command × Answer)) → in_force_after Q (past ++ more) ≡ in_force_after (in_force_after Q past) more
in_force_both Q [] more = refl
in_force_both Q ((command, answer) ∷ past) more = in_force_both (goes_on_with Q (brought_by command) answer) past more

-- the program in force behind one turn and others
in_force_on : (Q : Program) (t : Turn) (ts : List Turn) → in_force_after Q (submitted_in (t ∷ ts)) ≡ in_force_after (in_force_after Q (submitted_by t.outcome)) (submitted_in ts)
in_force_on Q t ts =
    ap (in_force_after Q) (flat_map-cons (λ (x : Turn). submitted_by x.outcome) t ts)
    ∙ in_force_both Q (submitted_by t.outcome) (submitted_in ts)

refused_both : (n : ℕ) (ts us : List Turn) → refused_after n (ts ++ us) ≡ refused_after (refused_after n ts) us
refused_both n [] us = refl
refused_both n (t ∷ ts) us = refused_both (refused_behind n t.outcome) ts us

-- how many were refused after some turns, and then others
refused_on : (n m k : ℕ) (ts us : List Turn) → m ≡ refused_after n ts → k ≡ refused_after m us → k ≡ refused_after n (ts ++ us)
refused_on n m k ts us h i = i ∙ (ap (λ (x : ℕ). refused_after x us) h ∙ sym (refused_both n ts us))

turns_both : (Q : Program) (n : ℕ) (ts us : List Turn) → AreTurns Q n ts → AreTurns (in_force_after Q (submitted_in ts)) (refused_after n ts) us → AreTurns Q n (ts ++ us)
turns_both Q n [] us h k = k
turns_both Q n (t ∷ ts) us h k = (h.0, turns_both (in_force_after Q (submitted_by t.outcome)) (refused_behind n t.outcome) ts us h.1 (subst (λ (R : Program). AreTurns R (refused_after n (t ∷ ts)) us) (in_force_on Q t ts) k))

-- the same where the program and the count are known otherwise
turns_on : (Q R : Program) (n m : ℕ) (ts us : List Turn) → AreTurns Q n ts → R ≡ in_force_after Q (submitted_in ts) → m ≡ refused_after n ts → AreTurns R m us → AreTurns Q n (ts ++ us)
turns_on Q R n m ts us h program counted k = turns_both Q n ts us h (subst (λ (x : ℕ). AreTurns (in_force_after Q (submitted_in ts)) x us) counted (subst (λ (P : Program). AreTurns P m us) program k))

program_on : (Q R S : Program) (ts us : List Turn) → R ≡ in_force_after Q (submitted_in ts) → S ≡ in_force_after R (submitted_in us) → S ≡ in_force_after Q (submitted_in (ts ++ us))
program_on Q R S ts us h k =
    k ∙ (ap (λ (P : Program). in_force_after P (submitted_in us)) h
    ∙ (sym (in_force_both Q (submitted_in ts) (submitted_in us)) ∙ ap (in_force_after Q) (sym (submitted_both ts us))))

-- what one gives
one_of : {A B : Type 0} (f : A → List B) (x : A) → flat_map f (x ∷ []) ≡ f x
one_of f x = flat_map-cons f x [] ∙ append-nil (f x)

-- ---- one piece behind another

pub serves_none : (rest : List ℕ) (n : ℕ) (s : Scene) → HasNoEnd rest → Serves rest [] rest n n s s
serves_none rest n s unended = record {
  turns = [];
  lines = append-nil rest;
  unended = unended;
  each = tt;
  counted = refl;
  submitted = grows_none s.answered;
  program = refl;
  written = Appends-nil s.held;
}

pub serves_more : (a p b q c : List ℕ) (n m k : ℕ) (s t u : Scene) → Serves a p b n m s t → Serves b q c m k t u → Serves a (p ++ q) c n k s u
serves_more a p b q c n m o s t u h k = record {
  turns = h.turns ++ k.turns;
  lines = lines_on a p b q c h.turns k.turns h.lines k.lines;
  unended = k.unended;
  each = turns_on s.program t.program n m h.turns k.turns h.each h.program h.counted k.each;
  counted = refused_on n m o h.turns k.turns h.counted k.counted;
  submitted = submitted_on s.answered t.answered u.answered h.turns k.turns h.submitted k.submitted;
  program = program_on s.program t.program u.program h.turns k.turns h.program k.program;
  written = subst (Appends s.held u.held) (sym (texts_both h.turns k.turns)) (Appends-trans s.held t.held u.held (texts_of h.turns) (texts_of k.turns) h.written k.written);
}

breaks_more : (a p b q : List ℕ) (n m : ℕ) (s t u : Scene) → Serves a p b n m s t → Breaks b q m t u → Breaks a (p ++ q) n s u
breaks_more a p b q n m s t u h k = record {
  turns = h.turns ++ k.turns;
  more = k.more;
  lines = lines_on a p b q k.more h.turns k.turns h.lines k.lines;
  each = turns_on s.program t.program n m h.turns k.turns h.each h.program h.counted k.each;
  submitted = submitted_on s.answered t.answered u.answered h.turns k.turns h.submitted k.submitted;
  program = program_on s.program t.program u.program h.turns k.turns h.program k.program;
  output = texts_of h.turns ++ k.output;
  unwritten = k.unwritten;
  begins = texts_both h.turns k.turns ∙ (ap (λ (l : List ℕ). texts_of h.turns ++ l) k.begins ∙ sym (append_assoc (texts_of h.turns) k.output k.unwritten));
  written = Appends-trans s.held t.held u.held (texts_of h.turns) k.output h.written k.written;
}

breaks_early : (a p q : List ℕ) (n : ℕ) (s t : Scene) → Breaks a p n s t → Breaks a (p ++ q) n s t
breaks_early a p q n s t h = record {
  turns = h.turns;
  more = h.more ++ q;
  lines = sym (append_assoc a p q) ∙ (ap (λ (l : List ℕ). l ++ q) h.lines ∙ append_assoc (lines_of h.turns) h.more q);
  each = h.each;
  submitted = h.submitted;
  program = h.program;
  output = h.output;
  unwritten = h.unwritten;
  begins = h.begins;
  written = h.written;
}

-- nothing had its turn
pub breaks_none : (a p : List ℕ) (n : ℕ) (s : Scene) → Breaks a p n s s
breaks_none a p n s = record {
  turns = [];
  more = a ++ p;
  lines = refl;
  each = tt;
  submitted = grows_none s.answered;
  program = refl;
  output = [];
  unwritten = [];
  begins = refl;
  written = Appends-nil s.held;
}

-- what was served is a break, too
serves_breaks : (a p b : List ℕ) (n m : ℕ) (s t : Scene) → Serves a p b n m s t → Breaks a p n s t
serves_breaks a p b n m s t h = record {
  turns = h.turns;
  more = b;
  lines = h.lines;
  each = h.each;
  submitted = h.submitted;
  program = h.program;
  output = texts_of h.turns;
  unwritten = [];
  begins = sym (append-nil (texts_of h.turns));
  written = h.written;
}

dismisses_more : (a p b q : List ℕ) (n m : ℕ) (s t u : Scene) → Serves a p b n m s t → Dismisses b q m t u → Dismisses a (p ++ q) n s u
dismisses_more a p b q n m s t u h k = record {
  turns = h.turns ++ k.turns;
  line = k.line;
  unread = k.unread;
  lines = lines_on a p b q (k.line ++ line_end ∷ k.unread) h.turns k.turns h.lines k.lines;
  each = turns_on s.program t.program n m h.turns k.turns h.each h.program h.counted k.each;
  whole = k.whole;
  over = subst (λ (x : ℕ). EndsSession x k.line) (refused_on n m (refused_after m k.turns) h.turns k.turns h.counted refl) k.over;
  submitted = submitted_on s.answered t.answered u.answered h.turns k.turns h.submitted k.submitted;
  program = program_on s.program t.program u.program h.turns k.turns h.program k.program;
  written = subst (Appends s.held u.held) (sym (texts_both h.turns k.turns)) (Appends-trans s.held t.held u.held (texts_of h.turns) (texts_of k.turns) h.written k.written);
}

dismisses_early : (a p q : List ℕ) (n : ℕ) (s t : Scene) → Dismisses a p n s t → Dismisses a (p ++ q) n s t
dismisses_early a p q n s t h = record {
  turns = h.turns;
  line = h.line;
  unread = h.unread ++ q;
  lines = sym (append_assoc a p q) ∙ (ap (λ (l : List ℕ). l ++ q) h.lines ∙ (append_assoc (lines_of h.turns) (h.line ++ line_end ∷ h.unread) q ∙ ap (λ (l : List ℕ). lines_of h.turns ++ l) (append_assoc h.line (line_end ∷ h.unread) q)));
  each = h.each;
  whole = h.whole;
  over = h.over;
  submitted = h.submitted;
  program = h.program;
  written = h.written;
}

-- a line that ends the session, before which nothing had its turn
dismisses_at : (rest : List ℕ) (n : ℕ) (s : Scene) → HasNoEnd rest → EndsSession n rest → Dismisses rest (line_end ∷ []) n s s
dismisses_at rest n s unended over = record {
  turns = [];
  line = rest;
  unread = [];
  lines = refl;
  each = tt;
  whole = unended;
  over = over;
  submitted = grows_none s.answered;
  program = refl;
  written = Appends-nil s.held;
}

le_cases : (w v : ℕ) → w ≤ v → (w ≡ v) ⊎ (w < v)
le_cases w v h = grind arith

-- a failure in a later call
pub failed_later : (w v w' : ℕ) → w ≤ v → v ≤ w' → Failed v w' → Failed w w'
failed_later w v w' low high (inl h) = inl (omega arith)
failed_later w v w' low high (inr h) = elim (le_cases w v low) [ inl e ↦ inr (e ∙ h) | inr l ↦ inl (omega arith) ]

-- an end over a later piece; the failures are those of both calls
pub stops_more : (end : SessionEnd) (a p b q : List ℕ) (n m w v w' : ℕ) (s t u : Scene) → w ≤ v → v ≤ w' → Serves a p b n m s t → Stops end b q m (Failed v w') t u → Stops end a (p ++ q) n (Failed w w') s u
stops_more ends.Closed a p b q n m w v w' s t u low high h k = absurd k
stops_more ends.Dismissed a p b q n m w v w' s t u low high h k = dismisses_more a p b q n m s t u h k
stops_more ends.Device a p b q n m w v w' s t u low high h k = (failed_later w v w' low high k.0, breaks_more a p b q n m s t u h k.1)
stops_more ends.Memory a p b q n m w v w' s t u low high h k = breaks_more a p b q n m s t u h k
stops_more ends.Unanswered a p b q n m w v w' s t u low high h k = breaks_more a p b q n m s t u h k

pub stops_early : (end : SessionEnd) (a p q : List ℕ) (n : ℕ) (fails : Type 0) (s t : Scene) → Stops end a p n fails s t → Stops end a (p ++ q) n fails s t
stops_early ends.Closed a p q n fails s t k = absurd k
stops_early ends.Dismissed a p q n fails s t k = dismisses_early a p q n s t k
stops_early ends.Device a p q n fails s t k = (k.0, breaks_early a p q n s t k.1)
stops_early ends.Memory a p q n fails s t k = breaks_early a p q n s t k
stops_early ends.Unanswered a p q n fails s t k = breaks_early a p q n s t k

-- ---- one byte

-- it goes on a line
pub goes_on : (rest : List ℕ) (byte n : ℕ) (s : Scene) → HasNoEnd rest → (byte ≡ line_end → ⊥) → Serves rest (byte ∷ []) (rest ++ byte ∷ []) n n s s
goes_on rest byte n s unended other = record {
  turns = [];
  lines = refl;
  unended = all_more (λ (b : ℕ). b ≡ line_end → ⊥) rest (byte ∷ []) unended (other, tt);
  each = tt;
  counted = refl;
  submitted = grows_none s.answered;
  program = refl;
  written = Appends-nil s.held;
}

is_outcome : (Q : Program) (line : List ℕ) (wish : Wish) (outcome : Outcome) → Wants Q line wish → Fits wish outcome → IsOutcome Q line outcome
is_outcome Q line wishes.Leave outcome known fits = absurd known
is_outcome Q line (wishes.Submit asked) (Submitted command answer) known fits = subst (λ (c : Command). Wants Q line (wishes.Submit c)) (sym fits) known
is_outcome Q line (wishes.Tell asked) (Told question text) known fits = subst (λ (q : Question). Wants Q line (wishes.Tell q)) (sym fits) known
is_outcome Q line wishes.Refuse Refused known fits = known
is_outcome Q line (wishes.Submit asked) (Told question text) known fits = absurd fits
is_outcome Q line (wishes.Submit asked) Refused known fits = absurd fits
is_outcome Q line (wishes.Tell asked) (Submitted command answer) known fits = absurd fits
is_outcome Q line (wishes.Tell asked) Refused known fits = absurd fits
is_outcome Q line wishes.Refuse (Submitted command answer) known fits = absurd fits
is_outcome Q line wishes.Refuse (Told question text) known fits = absurd fits

-- a line counts as what it came to
counts_alike : (n : ℕ) (wish : Wish) (outcome : Outcome) → Fits wish outcome → refused_behind n outcome ≡ refused_with n wish
counts_alike n (wishes.Submit asked) (Submitted command answer) fits = refl
counts_alike n (wishes.Submit asked) (Told question text) fits = absurd fits
counts_alike n (wishes.Submit asked) Refused fits = absurd fits
counts_alike n (wishes.Tell asked) (Submitted command answer) fits = absurd fits
counts_alike n (wishes.Tell asked) (Told question text) fits = refl
counts_alike n (wishes.Tell asked) Refused fits = absurd fits
counts_alike n wishes.Refuse (Submitted command answer) fits = absurd fits
counts_alike n wishes.Refuse (Told question text) fits = absurd fits
counts_alike n wishes.Refuse Refused fits = refl
counts_alike n wishes.Leave (Submitted command answer) fits = absurd fits
counts_alike n wishes.Leave (Told question text) fits = absurd fits
counts_alike n wishes.Leave Refused fits = absurd fits

-- what is known of a line with which the session goes on
wants : (Q : Program) (line : List ℕ) (wish : Wish) (n m : ℕ) → StaysAt n wish m → IsWish Q line wish → (IsOfHttp line → ⊥) × Wants Q line wish
wants Q line (wishes.Submit asked) n m stays known = known
wants Q line (wishes.Tell asked) n m stays known = known
wants Q line wishes.Refuse n m stays known = known
wants Q line wishes.Leave n m stays known = absurd stays

counted_by : (wish : Wish) (n m : ℕ) → StaysAt n wish m → (m ≡ refused_with n wish) × (m ≤ most_refused)
counted_by (wishes.Submit asked) n m stays = stays
counted_by (wishes.Tell asked) n m stays = stays
counted_by wishes.Refuse n m stays = stays
counted_by wishes.Leave n m stays = absurd stays

-- a line that ends the session
pub dismissed_by : (Q : Program) (rest : List ℕ) (wish : Wish) (n : ℕ) → EndsAt n wish → IsWish Q rest wish → EndsSession n rest
dismissed_by Q rest (wishes.Submit asked) n over known = absurd over
dismissed_by Q rest (wishes.Tell asked) n over known = absurd over
dismissed_by Q rest wishes.Refuse n over known = inr (known.1, over)
dismissed_by Q rest wishes.Leave n over known = inl known

abbrev turn_at : List ℕ → Outcome → Turn
turn_at line outcome = record { line = line; outcome = outcome }

one_line : (rest : List ℕ) (outcome : Outcome) → rest ++ line_end ∷ [] ≡ lines_of (turn_at rest outcome ∷ []) ++ []
one_line rest outcome =
    sym (append-nil (lines_of (turn_at rest outcome ∷ [])) ∙ one_of line_of (turn_at rest outcome))

-- what the turn of a line is
turn_of : (Q : Program) (rest : List ℕ) (wish : Wish) (outcome : Outcome) (n m : ℕ) → HasNoEnd rest → StaysAt n wish m → IsWish Q rest wish → Fits wish outcome → IsTurn Q n (turn_at rest outcome)
turn_of Q rest wish outcome n m unended stays known fits =
    let is = wants Q rest wish n m stays known in
    let count = counted_by wish n m stays in
    record {
      whole = unended;
      no_http = is.0;
      few = subst (λ (x : ℕ). x ≤ most_refused) (count.0 ∙ sym (counts_alike n wish outcome fits)) count.1;
      comes_to = is_outcome Q rest wish outcome is.1 fits;
    }

-- it ends a line, which has its turn
pub takes_turn : (rest : List ℕ) (wish : Wish) (n m : ℕ) (s t : Scene) → HasNoEnd rest → StaysAt n wish m → IsWish s.program rest wish → Takes wish s t → Serves rest (line_end ∷ []) [] n m s t
takes_turn rest wish n m s t unended stays known h = record {
  turns = turn_at rest h.outcome ∷ [];
  lines = one_line rest h.outcome;
  unended = tt;
  each = (turn_of s.program rest wish h.outcome n m unended stays known h.fits, tt);
  counted = (counted_by wish n m stays).0 ∙ sym (counts_alike n wish h.outcome h.fits);
  submitted = subst (λ (l : List (Command × Answer)). Grows s.answered t.answered l) (sym (one_of (λ (x : Turn). submitted_by x.outcome) (turn_at rest h.outcome))) h.submitted;
  program = h.program ∙ ap (in_force_after s.program) (sym (one_of (λ (x : Turn). submitted_by x.outcome) (turn_at rest h.outcome)));
  written = subst (Appends s.held t.held) (sym (one_of (λ (x : Turn). text_of x.outcome) (turn_at rest h.outcome))) h.written;
}

takes_short : (rest : List ℕ) (wish : Wish) (n m : ℕ) (s t : Scene) → HasNoEnd rest → StaysAt n wish m → IsWish s.program rest wish → TakesShort wish s t → Breaks rest (line_end ∷ []) n s t
takes_short rest wish n m s t unended stays known h = record {
  turns = turn_at rest h.outcome ∷ [];
  more = [];
  lines = one_line rest h.outcome;
  each = (turn_of s.program rest wish h.outcome n m unended stays known h.fits, tt);
  submitted = subst (λ (l : List (Command × Answer)). Grows s.answered t.answered l) (sym (one_of (λ (x : Turn). submitted_by x.outcome) (turn_at rest h.outcome))) h.submitted;
  program = h.program ∙ ap (in_force_after s.program) (sym (one_of (λ (x : Turn). submitted_by x.outcome) (turn_at rest h.outcome)));
  output = h.output;
  unwritten = h.unwritten;
  begins = one_of (λ (x : Turn). text_of x.outcome) (turn_at rest h.outcome) ∙ h.begins;
  written = h.written;
}

pub stops_at : (end : SessionEnd) (rest : List ℕ) (wish : Wish) (n m : ℕ) (fails : Type 0) (s t : Scene) → HasNoEnd rest → StaysAt n wish m → IsWish s.program rest wish → StopsAt end wish fails s t → Stops end rest (line_end ∷ []) n fails s t
stops_at ends.Closed rest wish n m fails s t unended stays known k = absurd k
stops_at ends.Dismissed rest wish n m fails s t unended stays known k = absurd (subst (λ (w : Wish). StaysAt n w m) k.0 stays)
stops_at ends.Device rest wish n m fails s t unended stays known k = (k.0, takes_short rest wish n m s t unended stays known k.1)
stops_at ends.Memory rest wish n m fails s t unended stays known k = elim k [
  | inl same ↦ subst (λ (x : Scene). Breaks rest (line_end ∷ []) n s x) (sym same) (breaks_none rest (line_end ∷ []) n s)
  | inr some ↦ takes_short rest wish n m s t unended stays known some
]
stops_at ends.Unanswered rest wish n m fails s t unended stays known k = subst (λ (x : Scene). Breaks rest (line_end ∷ []) n s x) (sym k) (breaks_none rest (line_end ∷ []) n s)

short : (wish : Wish) (outcome : Outcome) (s t : Scene) (n : ℕ) → Fits wish outcome → Grows s.answered t.answered (submitted_by outcome) → t.program ≡ in_force_after s.program (submitted_by outcome) → Appends s.held t.held (take n (text_of outcome)) → TakesShort wish s t
short wish outcome s t n fits submitted program written = record {
  outcome = outcome;
  fits = fits;
  submitted = submitted;
  program = program;
  output = take n (text_of outcome);
  unwritten = drop n (text_of outcome);
  begins = sym (take-append-drop n (text_of outcome));
  written = written;
}

took_short : (end : SessionEnd) (wish : Wish) (outcome : Outcome) (fails : Type 0) (s t : Scene) → Fits wish outcome → Grows s.answered t.answered (submitted_by outcome) → t.program ≡ in_force_after s.program (submitted_by outcome) → IsWhyUnwritten end fails → (n : ℕ) → Appends s.held t.held (take n (text_of outcome)) → StopsAt end wish fails s t
took_short ends.Closed wish outcome fails s t fits submitted program why n written = absurd why
took_short ends.Dismissed wish outcome fails s t fits submitted program why n written = absurd why
took_short ends.Device wish outcome fails s t fits submitted program why n written = (why, short wish outcome s t n fits submitted program written)
took_short ends.Memory wish outcome fails s t fits submitted program why n written = inr (short wish outcome s t n fits submitted program written)
took_short ends.Unanswered wish outcome fails s t fits submitted program why n written = absurd why

-- what one line came to, by how its answer was written
pub took : (result : Result (Unit {0}) SessionEnd) (wish : Wish) (outcome : Outcome) (fails : Type 0) (s t : Scene) → Fits wish outcome → Grows s.answered t.answered (submitted_by outcome) → t.program ≡ in_force_after s.program (submitted_by outcome) → Writes result (text_of outcome) fails s.held t.held
    → MatchResult result (λ done. Takes wish s t) (λ end. StopsAt end wish fails s t)
took (Ok done) wish outcome fails s t fits submitted program wrote = record { outcome = outcome; fits = fits; submitted = submitted; program = program; written = wrote }
took (Err end) wish outcome fails s t fits submitted program wrote = took_short end wish outcome fails s t fits submitted program wrote.0 wrote.1 wrote.2

fits_refused : (wish : Wish) → wish ≡ wishes.Refuse → Fits wish Refused
fits_refused wish is = subst (λ (w : Wish). Fits w Refused) (sym is) tt

-- a refused line
pub refused : (result : Result (Unit {0}) SessionEnd) (wish : Wish) (fails : Type 0) (answered : Option (List (Command × Answer))) (held held' : Option (List ℕ)) (Q : Program) → wish ≡ wishes.Refuse → Writes result (text_of Refused) fails held held'
    → MatchResult result (λ done. Takes wish (scene answered held Q) (scene answered held' Q)) (λ end. StopsAt end wish fails (scene answered held Q) (scene answered held' Q))
refused result wish fails answered held held' Q is wrote = took result wish Refused fails (scene answered held Q) (scene answered held' Q) (fits_refused wish is) (grows_none answered) refl wrote

-- a command that was answered
pub answered_one : (result : Result (Unit {0}) SessionEnd) (fails : Type 0) (command : Command) (answer : Answer) (a b : Option (List (Command × Answer))) (held held' : Option (List ℕ)) (Q R : Program) → Grows a b ((command, answer) ∷ []) → R ≡ goes_on_with Q (brought_by command) answer → Writes result (text_of (Submitted command answer)) fails held held'
    → MatchResult result (λ done. Takes (wishes.Submit command) (scene a held Q) (scene b held' R)) (λ end. StopsAt end (wishes.Submit command) fails (scene a held Q) (scene b held' R))
answered_one result fails command answer a b held held' Q R submitted program wrote = took result (wishes.Submit command) (Submitted command answer) fails (scene a held Q) (scene b held' R) refl submitted program wrote

fits_told : (wish : Wish) (question : Question) (text : List ℕ) → wish ≡ wishes.Tell question → Fits wish (Told question text)
fits_told wish question text is = subst (λ (w : Wish). Fits w (Told question text)) (sym is) refl

-- a question that was answered
pub told_one : (result : Result (Unit {0}) SessionEnd) (wish : Wish) (question : Question) (fails : Type 0) (a b : Option (List (Command × Answer))) (held held' : Option (List ℕ)) (Q : Program) → wish ≡ wishes.Tell question → b ≡ a → (text : List ℕ) × Writes result text fails held held'
    → MatchResult result (λ done. Takes wish (scene a held Q) (scene b held' Q)) (λ end. StopsAt end wish fails (scene a held Q) (scene b held' Q))
told_one result wish question fails a b held held' Q is same wrote =
    took result wish (Told question wrote.0) fails (scene a held Q) (scene b held' Q) (fits_told wish question wrote.0 is)
    (subst (λ (x : Option (List (Command × Answer))). Grows a x []) (sym same) (grows_none a)) refl wrote.1

-- what wasn't told, since memory ran out
pub untold : (fails : Type 0) (held : Option (List ℕ)) → (text : List ℕ) × Writes (Err ends.Memory) text fails held held
untold fails held = ([], (tt, 0, Appends-nil held))

-- a line that was ended
pub ended_line : (result : Result (Unit {0}) SessionEnd) (rest : List ℕ) (wish : Wish) (n m : ℕ) (line : Option (List ℕ)) (fails : Type 0) (s t : Scene) → line ≡ kept [] → HasNoEnd rest → StaysAt n wish m → IsWish s.program rest wish
    → MatchResult result (λ done. Takes wish s t) (λ end. StopsAt end wish fails s t)
    → MatchResult result (λ done. (line ≡ kept []) × Serves rest (line_end ∷ []) [] n m s t) (λ end. Stops end rest (line_end ∷ []) n fails s t)
ended_line (Ok done) rest wish n m line fails s t is unended stays known h = (is, takes_turn rest wish n m s t unended stays known h)
ended_line (Err end) rest wish n m line fails s t is unended stays known h = stops_at end rest wish n m fails s t unended stays known h

-- a line that ends the session
pub dismissed_line : (Q : Program) (rest : List ℕ) (wish : Wish) (n : ℕ) (answered : Option (List (Command × Answer))) (held : Option (List ℕ)) → HasNoEnd rest → EndsAt n wish → IsWish Q rest wish → Dismisses rest (line_end ∷ []) n (scene answered held Q) (scene answered held Q)
dismissed_line Q rest wish n answered held unended over known = dismisses_at rest n (scene answered held Q) unended (dismissed_by Q rest wish n over known)

-- one byte more on the line, or memory ran out
pub extended : (result : Result (Unit {0}) SessionEnd) (byte n : ℕ) (line line' : Option (List ℕ)) (fails : Type 0) (s : Scene) → (byte ≡ line_end → ⊥)
    → MatchResult result (λ done. (rest : List ℕ) → line ≡ kept rest → line' ≡ kept (rest ++ byte ∷ [])) (λ end. end ≡ ends.Memory)
    → (rest : List ℕ) → HasNoEnd rest → line ≡ kept rest
    → MatchResult result (λ done. (rest' : List ℕ) × (line' ≡ kept rest') × Serves rest (byte ∷ []) rest' n n s s) (λ end. Stops end rest (byte ∷ []) n fails s s)
extended (Ok done) byte n line line' fails s other went rest unended is = (rest ++ byte ∷ [], went rest is, goes_on rest byte n s unended other)
extended (Err end) byte n line line' fails s other went rest unended is = subst (λ (e : SessionEnd). Stops e rest (byte ∷ []) n fails s s) (sym went) (breaks_none rest (byte ∷ []) n s)

-- ---- the session

-- a session that goes on
pub record GoesOn (left left' : Option (List ℕ)) (r r' w w' : ℕ) (intake : Intake) (before after : Scene) : Type 0 where
  pub input : List ℕ
  pub rest : List ℕ
  pub read : Consumes left left' input
  pub unended : HasNoEnd rest
  pub is : intake.line ≡ kept rest
  pub served : Serves [] input rest 0 intake.refused before after
  pub reads : r ≤ r'
  pub writes : w ≤ w'

pub starts : (left : Option (List ℕ)) (r w : ℕ) (intake : Intake) (s : Scene) → intake.line ≡ kept [] → intake.refused ≡ 0 → GoesOn left left r r w w intake s s
starts left r w intake s is none = record {
  input = [];
  rest = [];
  read = Consumes-nil left;
  unended = tt;
  is = is;
  served = subst (λ (n : ℕ). Serves [] [] [] 0 n s s) (sym none) (serves_none [] 0 s tt);
  reads = omega arith;
  writes = omega arith;
}

-- what one piece did, for whatever was there of a line
abbrev pub PieceServed : List ℕ → Intake → Intake → Scene → Scene → Type 0
PieceServed piece intake intake' before after = (rest : List ℕ) → HasNoEnd rest → intake.line ≡ kept rest → (rest' : List ℕ) × (intake'.line ≡ kept rest') × Serves rest piece rest' intake.refused intake'.refused before after

pub goes_further : (left left1 left2 : Option (List ℕ)) (r r1 r2 w w1 w2 : ℕ) (intake intake' : Intake) (s t u : Scene) (piece : List ℕ)
    → GoesOn left left1 r r1 w w1 intake s t → Consumes left1 left2 piece → r1 ≤ r2 → w1 ≤ w2 → PieceServed piece intake intake' t u → GoesOn left left2 r r2 w w2 intake' s u
goes_further left left1 left2 r r1 r2 w w1 w2 intake intake' s t u piece h read reads writes served =
    let more = served h.rest h.unended h.is in
    record {
      input = h.input ++ piece;
      rest = more.0;
      read = Consumes-trans left left1 left2 h.input piece h.read read;
      unended = more.2.unended;
      is = more.1;
      served = serves_more [] h.input h.rest piece more.0 0 intake.refused intake'.refused s t u h.served more.2;
      reads = omega (arith, h.reads, reads);
      writes = omega (arith, h.writes, writes);
    }

-- what a stop over the whole input is
ended : (end : SessionEnd) (input : List ℕ) (left : Option (List ℕ)) (fails : Type 0) (other : Type 0) (s t : Scene) → Stops end [] input 0 fails s t → Ended end input left (other ⊎ fails) s t
ended ends.Closed input left fails other s t k = absurd k
ended ends.Dismissed input left fails other s t k = k
ended ends.Device input left fails other s t k = (inr k.0, k.1)
ended ends.Memory input left fails other s t k = k
ended ends.Unanswered input left fails other s t k = k

pub ends_with : (end : SessionEnd) (left left1 left2 : Option (List ℕ)) (r r1 r2 w w1 w2 : ℕ) (intake : Intake) (s t u : Scene) (piece : List ℕ)
    → GoesOn left left1 r r1 w w1 intake s t → Consumes left1 left2 piece → w1 ≤ w2 → ((rest : List ℕ) → HasNoEnd rest → intake.line ≡ kept rest → Stops end rest piece intake.refused (Failed w1 w2) t u) → Talks end left left2 r r2 w w2 s u
ends_with end left left1 left2 r r1 r2 w w1 w2 intake s t u piece h read writes stops = record {
  input = h.input ++ piece;
  read = Consumes-trans left left1 left2 h.input piece h.read read;
  ended = ended end (h.input ++ piece) left2 (Failed w w2) (Failed r r2) s u (stops_more end [] h.input h.rest piece 0 intake.refused w w1 w2 s t u h.writes writes h.served (stops h.rest h.unended h.is));
}

-- its reader fails
pub ends_unread : (left left1 left2 : Option (List ℕ)) (r r1 r2 w w1 : ℕ) (intake : Intake) (s t : Scene)
    → GoesOn left left1 r r1 w w1 intake s t → Keeps left1 left2 → Failed r1 r2 → r1 ≤ r2 → Talks ends.Device left left2 r r2 w w1 s t
ends_unread left left1 left2 r r1 r2 w w1 intake s t h read failed reads = record {
  input = h.input;
  read = Consumes-kept left left1 left2 h.input h.read read;
  ended = (inl (failed_later r r1 r2 h.reads reads failed), serves_breaks [] h.input h.rest 0 intake.refused s t h.served);
}

-- its reader is at its end
pub ends_closed : (left left1 left2 : Option (List ℕ)) (r r1 r2 w w1 : ℕ) (intake : Intake) (s t : Scene)
    → GoesOn left left1 r r1 w w1 intake s t → Consumes left1 left2 [] → IsAtEnd left2 → Talks ends.Closed left left2 r r2 w w1 s t
ends_closed left left1 left2 r r1 r2 w w1 intake s t h read over = record {
  input = h.input;
  read = subst (Consumes left left2) (append-nil h.input) (Consumes-trans left left1 left2 h.input [] h.read read);
  ended = (over, h.rest, intake.refused, h.served);
}

-- ---- byte after byte

-- how a piece ended a session
abbrev pub PieceStopped : SessionEnd → List ℕ → Intake → Type 0 → Scene → Scene → Type 0
PieceStopped end piece intake fails before after = (rest : List ℕ) → HasNoEnd rest → intake.line ≡ kept rest → Stops end rest piece intake.refused fails before after

pub piece_none : (intake : Intake) (s : Scene) → PieceServed [] intake intake s s
piece_none intake s = λ rest unended is. (rest, is, serves_none rest intake.refused s unended)

pub piece_more : (p q : List ℕ) (i j k : Intake) (s t u : Scene) → PieceServed p i j s t → PieceServed q j k t u → PieceServed (p ++ q) i k s u
piece_more p q i j k s t u first then = λ rest unended is.
    let a = first rest unended is in
    let b = then a.0 a.2.unended a.1 in
    (b.0, b.1, serves_more rest p a.0 q b.0 i.refused j.refused k.refused s t u a.2 b.2)

pub piece_stops : (end : SessionEnd) (p q more : List ℕ) (i j : Intake) (w v w' : ℕ) (s t u : Scene) → w ≤ v → v ≤ w' → PieceServed p i j s t → PieceStopped end q j (Failed v w') t u → PieceStopped end ((p ++ q) ++ more) i (Failed w w') s u
piece_stops end p q more i j w v w' s t u low high first then = λ rest unended is.
    let a = first rest unended is in
    stops_early end rest (p ++ q) more i.refused (Failed w w') s u (stops_more end rest p a.0 q i.refused j.refused w v w' s t u low high a.2 (then a.0 a.2.unended a.1))
