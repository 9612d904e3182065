-- Commands that were sent, one behind another.
use Rattle.std.proofs.Common.{◌≡◌, ◌⊎◌, inl, inr, ℕ, ◌+◌, ◌-◌, ◌<◌, ◌≤◌, List, [], ◌∷◌, ◌++◌, length, take, get_or, map, sym, ap, subst, ◌∙◌, arith, Option, Some}
use Rattle.std.specs.Prelude.{Vec}
use Rattle.std.specs.Global.{Global}
use Rattle.std.specs.List.{slice_get}
use Rattle.std.proofs.KnownBytes.{Appends-nil, Appends-trans, Consumes-nil, Consumes-trans}
use Rattle.std.proofs.lemmas.List.{take_more, take_all, map-append}
use Rattle.std.proofs.lemmas.Option.{slice_get_within, get_or_from_slice_get}
use Rattle.plc_console.specs.declared.sending.Reply.{Reply}
use Rattle.plc_console.specs.Lines.{line_end}
use Rattle.plc_console.specs.Sending.{AskedOne, Asked, EndsLine, IsUnread, IsWhyBroken, item_bytes}
use Rattle.plc_console.proofs.Sessions.{failed_later}

pub asked_none : (left held out : Option (List ℕ)) → Asked [] [] left left held held out out
asked_none left held out = (Consumes-nil left, (Appends-nil held, Appends-nil out))

first_asked : (c : List ℕ) (r : Reply) (l l1 l2 h h1 h2 o o1 o2 : Option (List ℕ)) → Asked [] [] l l1 h h1 o o1 → AskedOne c r l1 l2 h1 h2 o1 o2 → AskedOne c r l l2 h h2 o o2
first_asked c r l l1 l2 h h1 h2 o o1 o2 none one = record {
  sent = Appends-trans h h1 h2 [] (c ++ line_end ∷ []) none.1.0 one.sent;
  answer = one.answer;
  ends = one.ends;
  read = Consumes-trans l l1 l2 [] one.answer none.0 one.read;
  printed = Appends-trans o o1 o2 [] one.answer none.1.1 one.printed;
  says = one.says;
}

-- one more
pub asked_more : (cs : List (List ℕ)) (rs : List Reply) (c : List ℕ) (r : Reply) (l l1 l2 h h1 h2 o o1 o2 : Option (List ℕ)) → Asked cs rs l l1 h h1 o o1 → AskedOne c r l1 l2 h1 h2 o1 o2 → Asked (cs ++ c ∷ []) (rs ++ r ∷ []) l l2 h h2 o o2
asked_more [] [] c r l l1 l2 h h1 h2 o o1 o2 none one = (l2, h2, o2, first_asked c r l l1 l2 h h1 h2 o o1 o2 none one, asked_none l2 h2 o2)
asked_more (b ∷ cs) (s ∷ rs) c r l l1 l2 h h1 h2 o o1 o2 some one = (some.0, some.1, some.2, some.3, asked_more cs rs c r some.0 l1 l2 some.1 h1 h2 some.2 o1 o2 some.4 one)
asked_more [] (s ∷ rs) c r l l1 l2 h h1 h2 o o1 o2 never one = absurd never
asked_more (b ∷ cs) [] c r l l1 l2 h h1 h2 o o1 o2 never one = absurd never

-- the same over the commands' texts
pub asked_next : (vs : List (Vec ℕ Global)) (i : ℕ) (v : Vec ℕ Global) (bytes : List ℕ) (rs rs' : List Reply) (r : Reply) (l l1 l2 h h1 h2 o o1 o2 : Option (List ℕ)) → i < length vs → v ≡ get_or vs i v → bytes ≡ v.items
    → Asked (map item_bytes (take i vs)) rs l l1 h h1 o o1 → AskedOne bytes r l1 l2 h1 h2 o1 o2 → rs' ≡ rs ++ r ∷ [] → Asked (map item_bytes (take (i + 1) vs)) rs' l l2 h h2 o o2
asked_next vs i v bytes rs rs' r l l1 l2 h h1 h2 o o1 o2 lt is same some one put =
    let said : item_bytes (get_or vs i v) ≡ bytes = sym (same ∙ ap item_bytes is) in
    let more : map item_bytes (take (i + 1) vs) ≡ map item_bytes (take i vs) ++ bytes ∷ [] =
    ap (map item_bytes) (take_more vs i v lt) ∙ (map-append item_bytes (take i vs) (get_or vs i v ∷ []) ∙ ap (λ (b : List ℕ). map item_bytes (take i vs) ++ b ∷ []) said) in
    subst (λ (qs : List Reply). Asked (map item_bytes (take (i + 1) vs)) qs l l2 h h2 o o2) (sym put)
    (subst (λ (cs : List (List ℕ)). Asked cs (rs ++ r ∷ []) l l2 h h2 o o2) (sym more) (asked_more (map item_bytes (take i vs)) rs bytes r l l1 l2 h h1 h2 o o1 o2 some one))

pub asked_all : (vs : List (Vec ℕ Global)) (i : ℕ) (rs : List Reply) (l l1 h h1 o o1 : Option (List ℕ)) → length vs ≤ i → Asked (map item_bytes (take i vs)) rs l l1 h h1 o o1 → Asked (map item_bytes vs) rs l l1 h h1 o o1
asked_all vs i rs l l1 h h1 o o1 le some = subst (λ (us : List (Vec ℕ Global)). Asked (map item_bytes us) rs l l1 h h1 o o1) (take_all i vs le) some

-- bytes whose last one ends a line
pub ends : (bytes : List ℕ) (byte : ℕ) → slice_get bytes (length bytes - 1) ≡ Some byte → byte ≡ line_end → EndsLine bytes
ends bytes byte is end =
    let i : ℕ = length bytes - 1 in
    let within : i < length bytes = slice_get_within bytes i byte is in
    (take i bytes, sym (ap (λ (b : ℕ). take i bytes ++ b ∷ []) (sym end) ∙ (ap (λ (b : ℕ). take i bytes ++ b ∷ []) (sym (get_or_from_slice_get bytes i byte 0 is)) ∙ (sym (take_more bytes i 0 within) ∙ take_all (i + 1) bytes (omega arith)))))

pub no_less : (a b c : ℕ) → a ≤ b → b ≤ c → a ≤ c
no_less a b c low high = omega arith

-- what broke one call broke all calls up to it
pub unread_later : (left : Option (List ℕ)) (r r1 r2 : ℕ) → r ≤ r1 → r1 ≤ r2 → IsUnread left r1 r2 → IsUnread left r r2
unread_later left r r1 r2 low high (inl failed) = inl (failed_later r r1 r2 low high failed)
unread_later left r r1 r2 low high (inr over) = inr over

pub broken_later : (left : Option (List ℕ)) (r r1 r2 w w1 w2 o o1 o2 : ℕ) → r ≤ r1 → r1 ≤ r2 → w ≤ w1 → w1 ≤ w2 → o ≤ o1 → o1 ≤ o2
    → IsWhyBroken left r1 r2 w1 w2 o1 o2 → IsWhyBroken left r r2 w w2 o o2
broken_later left r r1 r2 w w1 w2 o o1 o2 rl rh wl wh ol oh (inl unread) = inl (unread_later left r r1 r2 rl rh unread)
broken_later left r r1 r2 w w1 w2 o o1 o2 rl rh wl wh ol oh (inr (inl failed)) = inr (inl (failed_later w w1 w2 wl wh failed))
broken_later left r r1 r2 w w1 w2 o o1 o2 rl rh wl wh ol oh (inr (inr failed)) = inr (inr (failed_later o o1 o2 ol oh failed))
