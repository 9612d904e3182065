-- The arguments of a call, read from their tokens.
use Rattle.std.proofs.Common.{◌≡◌, ℕ, zero, suc, true, false, List, [], ◌∷◌, ◌++◌, map, length, Ok, refl, sym, ap, ◌∙◌, subst, inl, inr}
use Rattle.il_reader.specs.declared.lexeme.Sign.{Sign}
use Rattle.il_reader.specs.declared.lexeme.Sign.TheVariants as signs
use Rattle.il_reader.specs.Tokens.{Token}
use Rattle.il_reader.specs.Front.{skip_breaks}
use Rattle.il_reader.specs.Grammar.{OperandText, ArgumentText, before_dot, ends_arguments}
use Rattle.il_reader.specs.Reading.{◌>>=◌, expect, many, many_within}
use Rattle.il_reader.specs.Walk.{inside_at, argument_at, next_argument_at, side_at}
use Rattle.il_reader.proofs.Laws.{ok_is, bind_ok}
use Rattle.il_units.specs.declared.word.Word.{Word}
use Rattle.il_units.specs.Expansion as expansions
use Rattle.il_units.specs.Expansion.{Piece}
use Rattle.laws_reading.specs.Words.{Is, IsOperandSign, IsOperand, IsSide, EndsArgument, AreArguments, AreInside}
use Rattle.laws_reading.specs.Lines.{word_token, unplaced_argument, operand_of, side_of, arguments_in}
use Rattle.laws_reading.proofs.Lexing.{tok, tokens, Begins, word_lexed, token_is}
use Rattle.laws_reading.proofs.Operands.{no_reading, inner_there, operand_unplaced}

-- ---- signs

abbrev IsSideSign : Sign → Type 0
IsSideSign signs.Assign = Unit {0}
IsSideSign signs.Arrow = Unit {0}
IsSideSign s = ⊥

record SideOf (w : Word) : Type 0 where
  sign : Sign
  good : IsSideSign sign
  is : Is sign w

side_is : (w : Word) → IsSide w → SideOf w
side_is w (inl is) = record { sign = signs.Assign; good = tt; is = is }
side_is w (inr is) = record { sign = signs.Arrow; good = tt; is = is }

abbrev IsEndSign : Sign → Type 0
IsEndSign signs.Comma = Unit {0}
IsEndSign signs.Close = Unit {0}
IsEndSign s = ⊥

record EndOf (w : Word) : Type 0 where
  sign : Sign
  good : IsEndSign sign
  is : Is sign w

end_is : (more : List Word) (w : Word) → EndsArgument more w → EndOf w
end_is [] w is = record { sign = signs.Close; good = tt; is = is }
end_is (x ∷ xs) w is = record { sign = signs.Comma; good = tt; is = is }

no_dot : (s : Sign) (w : List ℕ) (n : ℕ) (ts : List Token) → IsEndSign s → before_dot (tok s w n ∷ ts) ≡ false
unfolding skip_breaks
no_dot signs.Comma w n ts good = refl
no_dot signs.Close w n ts good = refl
no_dot s w n ts good = absurd good

solid : (s : Sign) (w : List ℕ) (n : ℕ) (ts : List Token) → IsOperandSign s → skip_breaks (tok s w n ∷ ts) ≡ tok s w n ∷ ts
unfolding skip_breaks
solid signs.Name w n ts good = refl
solid signs.Literal w n ts good = refl
solid signs.Address w n ts good = refl
solid s w n ts good = absurd good

-- ---- one argument

abbrev argument_by : Token → Token → Token → ArgumentText
argument_by field side x = record { field = field; side = side_of side; operand = operand_of x }

argument_there : (f : List ℕ) (sd : Sign) (d : List ℕ) (s : Sign) (w : List ℕ) (k m n : ℕ) (ts : List Token) → IsSideSign sd → IsOperandSign s → before_dot ts ≡ false
    → argument_at (tok signs.Name f k ∷ tok sd d m ∷ tok s w n ∷ ts) ≡ Ok (argument_by (tok signs.Name f k) (tok sd d m) (tok s w n), ts)
unfolding argument_at side_at expect skip_breaks
argument_there f signs.Assign d s w k m n ts side good dot = rw (solid s w n ts good, inner_there s w n ts good dot) refl
argument_there f signs.Arrow d s w k m n ts side good dot = rw (solid s w n ts good, inner_there s w n ts good dot) refl
argument_there f sd d s w k m n ts side good dot = absurd side

argument_said : (f d x : Word) (sd s : Sign) (k m n : ℕ) → Is signs.Name f → Is sd d → Is s x → IsOperandSign s
    → argument_by (word_token f) (word_token d) (word_token x) ≡ unplaced_argument (argument_by (tok signs.Name f.text k) (tok sd d.text m) (tok s x.text n))
argument_said f d x sd s k m n fi di xi good =
    ap (λ (t : Token). argument_by t (word_token d) (word_token x)) (token_is signs.Name f fi)
    ∙ ap (λ (t : Token). argument_by (tok signs.Name f.text 0) t (word_token x)) (token_is sd d di)
    ∙ ap (λ (t : Token). argument_by (tok signs.Name f.text 0) (tok sd d.text 0) t) (token_is s x xi)
    ∙ ap (λ (o : OperandText). record { field = tok signs.Name f.text 0; side = side_of (tok sd d.text 0); operand = o }) (sym (operand_unplaced s x.text n good))

-- ---- all of them

-- the arguments that were read are those of the words, and the right parenthesis stands next
pub record SaysArguments (ws : List Word) (ps : List Piece) (r : List ArgumentText × List Token) : Type 0 where
  pub says : arguments_in (map word_token ws) ≡ map unplaced_argument r.0
  pub close : List ℕ
  pub ends : Begins signs.Close close r.1 (tokens ps)

abbrev pub pieces : List Word → List Piece → List Piece
pieces ws ps = map expansions.piece_of ws ++ ps

-- three words, and what follows them
three_lexed : (f d x : Word) (sd s : Sign) (ps : List Piece) (fi : Is signs.Name f) (di : Is sd d) (xi : Is s x)
    → tokens (expansions.piece_of f ∷ expansions.piece_of d ∷ expansions.piece_of x ∷ ps)
    ≡ tok signs.Name f.text (word_lexed signs.Name f (expansions.piece_of d ∷ expansions.piece_of x ∷ ps) fi).0 ∷ tok sd d.text (word_lexed sd d (expansions.piece_of x ∷ ps) di).0 ∷ tok s x.text (word_lexed s x ps xi).0 ∷ tokens ps
three_lexed f d x sd s ps fi di xi =
    let a = word_lexed signs.Name f (expansions.piece_of d ∷ expansions.piece_of x ∷ ps) fi in
    let b = word_lexed sd d (expansions.piece_of x ∷ ps) di in
    let c = word_lexed s x ps xi in
    a.1 ∙ ap (λ (ts : List Token). tok signs.Name f.text a.0 ∷ ts) (b.1 ∙ ap (λ (ts : List Token). tok sd d.text b.0 ∷ ts) c.1)

-- an argument that was read is that of its three words
record SaysArgument (f d x : Word) (ps : List Piece) (ts : List Token) : Type 0 where
  read : ArgumentText
  there : argument_at ts ≡ Ok (read, tokens ps)
  says : argument_by (word_token f) (word_token d) (word_token x) ≡ unplaced_argument read

argument_read : (f d x end : Word) (more : List Word) (ps : List Piece) → Is signs.Name f → IsSide d → IsOperand x → EndsArgument more end
    → SaysArgument f d x (expansions.piece_of end ∷ pieces more ps) (tokens (expansions.piece_of f ∷ expansions.piece_of d ∷ expansions.piece_of x ∷ expansions.piece_of end ∷ pieces more ps))
argument_read f d x end more ps fi side op ends =
    let di = side_is d side in
    let ei = end_is more end ends in
    let rest = expansions.piece_of end ∷ pieces more ps in
    let e = word_lexed ei.sign end (pieces more ps) ei.is in
    let k = (word_lexed signs.Name f (expansions.piece_of d ∷ expansions.piece_of x ∷ rest) fi).0 in
    let m = (word_lexed di.sign d (expansions.piece_of x ∷ rest) di.is).0 in
    let n = (word_lexed op.sign x rest op.is).0 in
    record {
      read = argument_by (tok signs.Name f.text k) (tok di.sign d.text m) (tok op.sign x.text n);
      there = ap argument_at (three_lexed f d x di.sign op.sign rest fi di.is op.is)
          ∙ argument_there f.text di.sign d.text op.sign x.text k m n (tokens rest) di.good op.good (ap before_dot e.1 ∙ no_dot ei.sign end.text e.0 (tokens (pieces more ps)) ei.good);
      says = argument_said f d x di.sign op.sign k m n fi di.is op.is op.good;
    }

-- behind a comma the same is read
comma_next : (w : List ℕ) (n : ℕ) (ts : List Token) → next_argument_at (tok signs.Comma w n ∷ ts) ≡ argument_at ts
unfolding next_argument_at expect skip_breaks
comma_next w n ts = refl

comma_goes : (w : List ℕ) (n : ℕ) (ts : List Token) → ends_arguments (tok signs.Comma w n ∷ ts) ≡ false
unfolding ends_arguments skip_breaks
comma_goes w n ts = refl

close_stops : (w : List ℕ) (n : ℕ) (ts : List Token) → ends_arguments (tok signs.Close w n ∷ ts) ≡ true
unfolding ends_arguments skip_breaks
close_stops w n ts = refl

abbrev pub Rest : Type 0
Rest = List ArgumentText × List Token

closed_here : (fuel : ℕ) (w : List ℕ) (n : ℕ) (ps : List Piece) (r : Rest) → many_within ends_arguments next_argument_at fuel (tok signs.Close w n ∷ tokens ps) ≡ Ok r → SaysArguments [] ps r
unfolding many_within
closed_here zero w n ps r e = absurd (no_reading (many_within ends_arguments next_argument_at zero (tok signs.Close w n ∷ tokens ps)) r e tt)
closed_here (suc fuel) w n ps r e =
    let h : Ok ([], tok signs.Close w n ∷ tokens ps) ≡ Ok r = rw (close_stops w n (tokens ps)) at e in
    subst (SaysArguments [] ps) (ok_is ([], tok signs.Close w n ∷ tokens ps) r h) (record { says = refl; close = w; ends = (n, refl) })

-- the argument behind a comma, and those that follow it
goes_on : (fuel : ℕ) (w : List ℕ) (n : ℕ) (ts us : List Token) (a : ArgumentText) (r : Rest) → argument_at ts ≡ Ok (a, us) → many_within ends_arguments next_argument_at fuel (tok signs.Comma w n ∷ ts) ≡ Ok r
    → (p : ℕ) × (q : Rest) × (many_within ends_arguments next_argument_at p us ≡ Ok q) × ((a ∷ q.0, q.1) ≡ r)
unfolding many_within
goes_on zero w n ts us a r there e = absurd (no_reading (many_within ends_arguments next_argument_at zero (tok signs.Comma w n ∷ ts)) r e tt)
goes_on (suc fuel) w n ts us a r there e =
    let h : (many_within ends_arguments next_argument_at fuel us >>= λ xs. Ok (a ∷ xs.0, xs.1)) ≡ Ok r = rw (comma_goes w n ts, comma_next w n ts, there) at e in
    let b = bind_ok (many_within ends_arguments next_argument_at fuel us) (λ xs. Ok (a ∷ xs.0, xs.1)) r h in
    (fuel, b.0, b.1, ok_is (a ∷ b.0.0, b.0.1) r b.2)

said_more : (f d x end : Word) (more : List Word) (ps : List Piece) (a : ArgumentText) (q r : Rest) → argument_by (word_token f) (word_token d) (word_token x) ≡ unplaced_argument a → SaysArguments more ps q → (a ∷ q.0, q.1) ≡ r
    → SaysArguments (f ∷ d ∷ x ∷ end ∷ more) ps r
said_more f d x end more ps a q r says rest e =
    let P : Rest → Type 0 = λ y. SaysArguments (f ∷ d ∷ x ∷ end ∷ more) ps y in
    subst P e (record {
      says = ap (λ (y : ArgumentText). y ∷ arguments_in (map word_token more)) says ∙ ap (λ (ys : List ArgumentText). unplaced_argument a ∷ ys) rest.says;
      close = rest.close;
      ends = rest.ends;
    })

-- from what ends an argument on
from_end : (end : Word) (more : List Word) (ps : List Piece) (fuel : ℕ) (r : Rest) → EndsArgument more end → AreArguments more
    → many_within ends_arguments next_argument_at fuel (tokens (expansions.piece_of end ∷ pieces more ps)) ≡ Ok r → SaysArguments more ps r
from_end end [] ps fuel r ends all e =
    let c = word_lexed signs.Close end ps ends in
    closed_here fuel end.text c.0 ps r (sym (ap (λ (ts : List Token). many_within ends_arguments next_argument_at fuel ts) c.1) ∙ e)
from_end end (f ∷ []) ps fuel r ends all e = absurd all
from_end end (f ∷ d ∷ []) ps fuel r ends all e = absurd all
from_end end (f ∷ d ∷ x ∷ []) ps fuel r ends all e = absurd all
from_end end (f ∷ d ∷ x ∷ last ∷ more) ps fuel r ends all e =
    let c = word_lexed signs.Comma end (pieces (f ∷ d ∷ x ∷ last ∷ more) ps) ends in
    let a = argument_read f d x last more ps all.0 all.1 all.2 all.3 in
    let g = goes_on fuel end.text c.0 (tokens (pieces (f ∷ d ∷ x ∷ last ∷ more) ps)) (tokens (expansions.piece_of last ∷ pieces more ps)) a.read r a.there (sym (ap (λ (ts : List Token). many_within ends_arguments next_argument_at fuel ts) c.1) ∙ e) in
    said_more f d x last more ps a.read g.1 r a.says (from_end last more ps g.0 g.1 all.3 all.4 g.2) g.3

-- ---- between the parentheses

close_inside : (w : List ℕ) (n : ℕ) (ts : List Token) → inside_at (tok signs.Close w n ∷ ts) ≡ Ok ([], tok signs.Close w n ∷ ts)
unfolding inside_at skip_breaks
close_inside w n ts = refl

-- what begins with a name is one argument at least
name_inside : (w : List ℕ) (n : ℕ) (ts us : List Token) (a : ArgumentText) (r : Rest) → argument_at (tok signs.Name w n ∷ ts) ≡ Ok (a, us) → inside_at (tok signs.Name w n ∷ ts) ≡ Ok r
    → (p : ℕ) × (q : Rest) × (many_within ends_arguments next_argument_at p us ≡ Ok q) × ((a ∷ q.0, q.1) ≡ r)
unfolding inside_at skip_breaks many
name_inside w n ts us a r there e =
    let h : ((many_within ends_arguments next_argument_at (suc (length us)) us >>= λ y. Ok ((a, y.0), y.1)) >>= λ x. Ok (x.0.0 ∷ x.0.1, x.1)) ≡ Ok r = rw there at e in
    let b = bind_ok (many_within ends_arguments next_argument_at (suc (length us)) us >>= λ y. Ok ((a, y.0), y.1)) (λ x. Ok (x.0.0 ∷ x.0.1, x.1)) r h in
    let c = bind_ok (many_within ends_arguments next_argument_at (suc (length us)) us) (λ y. Ok ((a, y.0), y.1)) b.0 b.1 in
    (suc (length us), c.0, c.1, ap (λ (x : (ArgumentText × List ArgumentText) × List Token). (x.0.0 ∷ x.0.1, x.1)) (ok_is ((a, c.0.0), c.0.1) b.0 c.2) ∙ ok_is (b.0.0.0 ∷ b.0.0.1, b.0.1) r b.2)

pub inside_read : (ws : List Word) (ps : List Piece) (r : Rest) → AreInside ws → inside_at (tokens (pieces ws ps)) ≡ Ok r → SaysArguments ws ps r
inside_read [] ps r all e = absurd all
inside_read (end ∷ []) ps r all e =
    let c = word_lexed signs.Close end ps all in
    let P : Rest → Type 0 = λ y. SaysArguments (end ∷ []) ps y in
    subst P (ok_is ([], tok signs.Close end.text c.0 ∷ tokens ps) r (sym (ap inside_at c.1 ∙ close_inside end.text c.0 (tokens ps)) ∙ e))
    (record { says = refl; close = end.text; ends = (c.0, refl) })
inside_read (f ∷ d ∷ []) ps r all e = absurd all
inside_read (f ∷ d ∷ x ∷ []) ps r all e = absurd all
inside_read (f ∷ d ∷ x ∷ last ∷ more) ps r all e =
    let a = argument_read f d x last more ps all.0 all.1 all.2 all.3 in
    let c = word_lexed signs.Name f (pieces (d ∷ x ∷ last ∷ more) ps) all.0 in
    let g = name_inside f.text c.0 (tokens (pieces (d ∷ x ∷ last ∷ more) ps)) (tokens (expansions.piece_of last ∷ pieces more ps)) a.read r
    (sym (ap argument_at c.1) ∙ a.there) (sym (ap inside_at c.1) ∙ e) in
    said_more f d x last more ps a.read g.1 r a.says (from_end last more ps g.0 g.1 all.3 all.4 g.2) g.3
