-- A loop that checks one thing after the other, and ends at the first fault.
use Rattle.std.proofs.Common.{◌≡◌, ℕ, suc, ◌+◌, ◌<◌, ◌≤◌, Bool, true, false, ◌||◌, List, [], ◌∷◌, ◌++◌, length, get_or, take, drop, map, Option, Some, None, refl, sym, subst, ◌∙◌, add-one}
use Rattle.std.specs.List.{list_any}
use Rattle.std.proofs.lemmas.List.{take_more, at_drop_more, at_drop_all, map-append}
use Rattle.il_reader.specs.Grammar.{ArgumentText}
use Rattle.il_units.specs.declared.contents.UnitKind.{UnitKind}
use Rattle.il_units.specs.declared.fault.UnitFaultAt.{UnitFaultAt}
use Rattle.il_units.specs.declared.fault.UnitError.{UnitError}
use Rattle.il_units.specs.declared.fault.UnitError.TheVariants as errors
use Rattle.il_units.specs.declared.members.Member.{Member}
use Rattle.il_units.specs.Units.{LineText}
use Rattle.il_units.specs.Flats.{FlatUnit, Body, joined}
use Rattle.il_units.specs.Expansion.{ScopeText, line_body, body_from}
use Rattle.il_units.specs.Misuse.{◌<+>◌, first_fault, TellsError, argument_fault, arguments_fault, member_fault, members_fault, line_fault, room_fault, lines_fault}

-- ---- this fault, else a later one

-- a fault that is told before all others is the first
pub tells_first : (e : UnitError) (fault later : Option UnitFaultAt) → TellsError e fault → TellsError e (fault <+> later)
tells_first errors.Memory fault later told = tt
tells_first (errors.Fault f) fault later told = rw told refl

-- so is one of two that are told together
pub tells_both : (e : UnitError) (a b later : Option UnitFaultAt) → TellsError e (a <+> b) → TellsError e (a <+> (b <+> later))
tells_both errors.Memory a b later told = tt
tells_both (errors.Fault f) (Some g) b later told = told
tells_both (errors.Fault f) None b later told = rw told refl

pub none_of_both : (a b later : Option UnitFaultAt) → (a <+> b) ≡ None → (a <+> (b <+> later)) ≡ later
none_of_both None b later none = rw none refl
none_of_both (Some g) b later none = absurd cc

-- what is told of a fault is told of the same
pub told_same : (e : UnitError) (a b : Option UnitFaultAt) → a ≡ b → TellsError e a → TellsError e b
told_same e a b same told = subst (λ (o : Option UnitFaultAt). TellsError e o) same told

-- ---- things by themselves

pub goes_on : {A X : Type 0} (fault : X → Option UnitFaultAt) (f : A → X) (xs : List A) (i : ℕ) (d : A) (total : Option UnitFaultAt) → i < length xs → fault (f (get_or xs i d)) ≡ None
    → first_fault fault (map f (drop i xs)) ≡ total → first_fault fault (map f (drop (i + 1) xs)) ≡ total
unfolding first_fault
goes_on {A} fault f xs i d total lt none so_far =
    let later = first_fault fault (map f (drop (i + 1) xs)) in
    let one : first_fault fault (map f (drop i xs)) ≡ fault (f (get_or xs i d)) <+> later = at_drop_more (λ (ys : List A). first_fault fault (map f ys)) xs i d lt in
    let two : fault (f (get_or xs i d)) <+> later ≡ later = rw none refl in
    sym (one ∙ two) ∙ so_far

pub ends : {A X : Type 0} (e : UnitError) (fault : X → Option UnitFaultAt) (f : A → X) (xs : List A) (i : ℕ) (d : A) (total : Option UnitFaultAt) → i < length xs → TellsError e (fault (f (get_or xs i d)))
    → first_fault fault (map f (drop i xs)) ≡ total → TellsError e total
unfolding first_fault
ends {A} e fault f xs i d total lt told so_far =
    let later = first_fault fault (map f (drop (i + 1) xs)) in
    let one : first_fault fault (map f (drop i xs)) ≡ fault (f (get_or xs i d)) <+> later = at_drop_more (λ (ys : List A). first_fault fault (map f ys)) xs i d lt in
    told_same e _ _ (sym one ∙ so_far) (tells_first e (fault (f (get_or xs i d))) later told)

pub is_done : {A X : Type 0} (fault : X → Option UnitFaultAt) (f : A → X) (xs : List A) (i : ℕ) (total : Option UnitFaultAt) → length xs ≤ i → first_fault fault (map f (drop i xs)) ≡ total → total ≡ None
unfolding first_fault
is_done {A} fault f xs i total le so_far =
    let none : first_fault fault (map f (drop i xs)) ≡ None = at_drop_all (λ (ys : List A). first_fault fault (map f ys)) xs i le in
    sym so_far ∙ none

-- ---- whether one of them passes a test

pub any_goes_on : {A X : Type 0} (test : X → Bool) (f : A → X) (xs : List A) (i : ℕ) (d : A) (total : Bool) → i < length xs → test (f (get_or xs i d)) ≡ false
    → list_any test (map f (drop i xs)) ≡ total → list_any test (map f (drop (i + 1) xs)) ≡ total
any_goes_on {A} test f xs i d total lt fails so_far =
    let later = list_any test (map f (drop (i + 1) xs)) in
    let one : list_any test (map f (drop i xs)) ≡ (test (f (get_or xs i d)) || later) = at_drop_more (λ (ys : List A). list_any test (map f ys)) xs i d lt in
    let two : (test (f (get_or xs i d)) || later) ≡ later = rw fails refl in
    sym (one ∙ two) ∙ so_far

pub any_found : {A X : Type 0} (test : X → Bool) (f : A → X) (xs : List A) (i : ℕ) (d : A) (total : Bool) → i < length xs → test (f (get_or xs i d)) ≡ true
    → list_any test (map f (drop i xs)) ≡ total → true ≡ total
any_found {A} test f xs i d total lt passes so_far =
    let later = list_any test (map f (drop (i + 1) xs)) in
    let one : list_any test (map f (drop i xs)) ≡ (test (f (get_or xs i d)) || later) = at_drop_more (λ (ys : List A). list_any test (map f ys)) xs i d lt in
    let two : (test (f (get_or xs i d)) || later) ≡ true = rw passes refl in
    sym (one ∙ two) ∙ so_far

pub any_none : {A X : Type 0} (test : X → Bool) (f : A → X) (xs : List A) (i : ℕ) (total : Bool) → length xs ≤ i → list_any test (map f (drop i xs)) ≡ total → false ≡ total
any_none {A} test f xs i total le so_far = sym (at_drop_all (λ (ys : List A). list_any test (map f ys)) xs i le) ∙ so_far

-- ---- arguments, each behind those before it

pub arguments_go_on : {A : Type 0} (block : FlatUnit) (f : A → ArgumentText) (xs : List A) (i : ℕ) (d : A) (total : Option UnitFaultAt) → i < length xs → argument_fault block (map f (take i xs)) (f (get_or xs i d)) ≡ None
    → arguments_fault block (map f (take i xs)) (map f (drop i xs)) ≡ total → arguments_fault block (map f (take (i + 1) xs)) (map f (drop (i + 1) xs)) ≡ total
unfolding arguments_fault
arguments_go_on {A} block f xs i d total lt none so_far =
    let before = map f (take i xs) in
    let more = arguments_fault block (before ++ f (get_or xs i d) ∷ []) (map f (drop (i + 1) xs)) in
    let one : arguments_fault block before (map f (drop i xs)) ≡ argument_fault block before (f (get_or xs i d)) <+> more = at_drop_more (λ (ys : List A). arguments_fault block before (map f ys)) xs i d lt in
    let two : argument_fault block before (f (get_or xs i d)) <+> more ≡ more = rw none refl in
    rw (take_more xs i d lt, map-append f (take i xs) (get_or xs i d ∷ [])) (sym (one ∙ two) ∙ so_far)

pub arguments_end : {A : Type 0} (e : UnitError) (block : FlatUnit) (f : A → ArgumentText) (xs : List A) (i : ℕ) (d : A) (total : Option UnitFaultAt) → i < length xs → TellsError e (argument_fault block (map f (take i xs)) (f (get_or xs i d)))
    → arguments_fault block (map f (take i xs)) (map f (drop i xs)) ≡ total → TellsError e total
unfolding arguments_fault
arguments_end {A} e block f xs i d total lt told so_far =
    let before = map f (take i xs) in
    let more = arguments_fault block (before ++ f (get_or xs i d) ∷ []) (map f (drop (i + 1) xs)) in
    let one : arguments_fault block before (map f (drop i xs)) ≡ argument_fault block before (f (get_or xs i d)) <+> more = at_drop_more (λ (ys : List A). arguments_fault block before (map f ys)) xs i d lt in
    told_same e _ _ (sym one ∙ so_far) (tells_first e (argument_fault block before (f (get_or xs i d))) more told)

pub arguments_done : {A : Type 0} (block : FlatUnit) (f : A → ArgumentText) (xs : List A) (i : ℕ) (total : Option UnitFaultAt) → length xs ≤ i → arguments_fault block (map f (take i xs)) (map f (drop i xs)) ≡ total → total ≡ None
unfolding arguments_fault
arguments_done {A} block f xs i total le so_far = sym so_far ∙ at_drop_all (λ (ys : List A). arguments_fault block (map f (take i xs)) (map f ys)) xs i le

-- ---- members, each behind those before it

abbrev pub members_left : List FlatUnit → UnitKind → List ℕ → ℕ → List Member → ℕ → Option UnitFaultAt
members_left above kind name left ms i = members_fault above kind name left (take i ms) (drop i ms)

pub members_go_on : (above : List FlatUnit) (kind : UnitKind) (name : List ℕ) (left : ℕ) (ms : List Member) (i : ℕ) (m : Member) (total : Option UnitFaultAt) → i < length ms → m ≡ get_or ms i m → member_fault above kind name left (take i ms) m ≡ None
    → members_left above kind name left ms i ≡ total → members_left above kind name left ms (i + 1) ≡ total
unfolding members_fault
members_go_on above kind name left ms i m total lt is none so_far =
    let here : member_fault above kind name left (take i ms) (get_or ms i m) ≡ None = subst (λ (n : Member). member_fault above kind name left (take i ms) n ≡ None) is none in
    let more = members_fault above kind name left (take i ms ++ get_or ms i m ∷ []) (drop (i + 1) ms) in
    let one : members_left above kind name left ms i ≡ member_fault above kind name left (take i ms) (get_or ms i m) <+> more = at_drop_more (members_fault above kind name left (take i ms)) ms i m lt in
    let two : member_fault above kind name left (take i ms) (get_or ms i m) <+> more ≡ more = rw here refl in
    rw (take_more ms i m lt) (sym (one ∙ two) ∙ so_far)

pub members_end : (e : UnitError) (above : List FlatUnit) (kind : UnitKind) (name : List ℕ) (left : ℕ) (ms : List Member) (i : ℕ) (m : Member) (total : Option UnitFaultAt) → i < length ms → m ≡ get_or ms i m → TellsError e (member_fault above kind name left (take i ms) m)
    → members_left above kind name left ms i ≡ total → TellsError e total
unfolding members_fault
members_end e above kind name left ms i m total lt is told so_far =
    let here : TellsError e (member_fault above kind name left (take i ms) (get_or ms i m)) = subst (λ (n : Member). TellsError e (member_fault above kind name left (take i ms) n)) is told in
    let more = members_fault above kind name left (take i ms ++ get_or ms i m ∷ []) (drop (i + 1) ms) in
    let one : members_left above kind name left ms i ≡ member_fault above kind name left (take i ms) (get_or ms i m) <+> more = at_drop_more (members_fault above kind name left (take i ms)) ms i m lt in
    told_same e _ _ (sym one ∙ so_far) (tells_first e (member_fault above kind name left (take i ms) (get_or ms i m)) more here)

pub members_done : (above : List FlatUnit) (kind : UnitKind) (name : List ℕ) (left : ℕ) (ms : List Member) (i : ℕ) (total : Option UnitFaultAt) → length ms ≤ i → members_left above kind name left ms i ≡ total → total ≡ None
unfolding members_fault
members_done above kind name left ms i total le so_far = sym so_far ∙ at_drop_all (members_fault above kind name left (take i ms)) ms i le

-- ---- lines, each behind what those before it come to

abbrev pub line_told : ScopeText → Body → ℕ → LineText → Option UnitFaultAt
line_told s b k l = line_fault s l <+> room_fault (joined b (line_body s k l)) l

pub lines_go_on : {A : Type 0} (s : ScopeText) (f : A → LineText) (b c : Body) (k : ℕ) (xs : List A) (i : ℕ) (x : A) (total : Option UnitFaultAt) → i < length xs → x ≡ get_or xs i x → line_told s b k (f x) ≡ None
    → c ≡ joined b (line_body s k (f x)) → lines_fault s b k (map f (drop i xs)) ≡ total → lines_fault s c (k + 1) (map f (drop (i + 1) xs)) ≡ total
unfolding lines_fault
lines_go_on {A} s f b c k xs i x total lt is none made so_far =
    let here : line_told s b k (f (get_or xs i x)) ≡ None = subst (λ (y : A). line_told s b k (f y) ≡ None) is none in
    let there : c ≡ joined b (line_body s k (f (get_or xs i x))) = subst (λ (y : A). c ≡ joined b (line_body s k (f y))) is made in
    let l = f (get_or xs i x) in
    let after = joined b (line_body s k l) in
    let later = lines_fault s after (suc k) (map f (drop (i + 1) xs)) in
    let one : lines_fault s b k (map f (drop i xs)) ≡ line_fault s l <+> (room_fault after l <+> later) = at_drop_more (λ (ys : List A). lines_fault s b k (map f ys)) xs i x lt in
    rw (add-one k, there) (sym (one ∙ none_of_both (line_fault s l) (room_fault after l) later here) ∙ so_far)

pub lines_end : {A : Type 0} (e : UnitError) (s : ScopeText) (f : A → LineText) (b : Body) (k : ℕ) (xs : List A) (i : ℕ) (x : A) (total : Option UnitFaultAt) → i < length xs → x ≡ get_or xs i x → TellsError e (line_told s b k (f x))
    → lines_fault s b k (map f (drop i xs)) ≡ total → TellsError e total
unfolding lines_fault
lines_end {A} e s f b k xs i x total lt is told so_far =
    let here : TellsError e (line_told s b k (f (get_or xs i x))) = subst (λ (y : A). TellsError e (line_told s b k (f y))) is told in
    let l = f (get_or xs i x) in
    let after = joined b (line_body s k l) in
    let later = lines_fault s after (suc k) (map f (drop (i + 1) xs)) in
    let one : lines_fault s b k (map f (drop i xs)) ≡ line_fault s l <+> (room_fault after l <+> later) = at_drop_more (λ (ys : List A). lines_fault s b k (map f ys)) xs i x lt in
    told_same e _ _ (sym one ∙ so_far) (tells_both e (line_fault s l) (room_fault after l) later here)

pub lines_done : {A : Type 0} (s : ScopeText) (f : A → LineText) (b : Body) (k : ℕ) (xs : List A) (i : ℕ) (total : Option UnitFaultAt) → length xs ≤ i → lines_fault s b k (map f (drop i xs)) ≡ total → total ≡ None
unfolding lines_fault
lines_done {A} s f b k xs i total le so_far = sym so_far ∙ at_drop_all (λ (ys : List A). lines_fault s b k (map f ys)) xs i le

pub body_goes_on : {A : Type 0} (s : ScopeText) (f : A → LineText) (b c : Body) (k : ℕ) (xs : List A) (i : ℕ) (x : A) (total : Body) → i < length xs → x ≡ get_or xs i x
    → c ≡ joined b (line_body s k (f x)) → body_from s b k (map f (drop i xs)) ≡ total → body_from s c (k + 1) (map f (drop (i + 1) xs)) ≡ total
unfolding body_from
body_goes_on {A} s f b c k xs i x total lt is made so_far =
    let there : c ≡ joined b (line_body s k (f (get_or xs i x))) = subst (λ (y : A). c ≡ joined b (line_body s k (f y))) is made in
    let one = at_drop_more (λ (ys : List A). body_from s b k (map f ys)) xs i x lt in
    rw (add-one k, there) (sym one ∙ so_far)

pub body_done : {A : Type 0} (s : ScopeText) (f : A → LineText) (b : Body) (k : ℕ) (xs : List A) (i : ℕ) (total : Body) → length xs ≤ i → body_from s b k (map f (drop i xs)) ≡ total → b ≡ total
unfolding body_from
body_done {A} s f b k xs i total le so_far = sym (at_drop_all (λ (ys : List A). body_from s b k (map f ys)) xs i le) ∙ so_far
