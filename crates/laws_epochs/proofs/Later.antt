-- Which epoch is later, as an order, and stores that go on.
use Rattle.std.proofs.Common.{◌≡◌, ℕ, true, false, List, [], ◌∷◌, Option, Some, None, Ok, refl, sym, ap, ◌∙◌, subst, inl, inr}
use Rattle.std.proofs.lemmas.Bool.{false≢true, and_parts, eqb-true}
use Rattle.std.specs.Cmp.{IsTotalOrder}
use Rattle.std.specs.Cmp.Lexicographic.{slice_cmp, on_texts, bytes_decides, texts_ties}
use Rattle.std.specs.Ordering.{is_eq, is_gt, nat_cmp, on, ordering_reverse, ordering_then}
use Rattle.std.specs.declared.cmp.Ordering.{Ordering}
use Rattle.std.specs.declared.cmp.Ordering.TheVariants.{Less, Equal, Greater}
use Rattle.net_hello.specs.declared.hello.Epoch.{Epoch}
use Rattle.plc_epochs.specs.declared.kept.Kept.{Kept}
use Rattle.plc_epochs.specs.declared.kept.Kept.TheVariants as keeps
use Rattle.plc_epochs.specs.Epochs.{by_hand, entered_by_hand, is_later, is_later_by, is_same, next_epoch}
use Rattle.plc_epochs.specs.GoingOn.{GoesOn}
use Rattle.plc_epochs.proofs.GoingOn.{behind_is_later}
use Rattle.laws_epochs.specs.Beginnings.{HasBegun, HasCome, IsBeyond, IsNoEarlier}

abbrev key : Epoch → List ℕ
key e = e.number ∷ e.image

abbrev compared : Epoch → Epoch → Ordering
compared a b = slice_cmp nat_cmp (key a) (key b)

by_key : (o : Ordering) (x y : List ℕ) → is_later_by o x y ≡ is_gt (ordering_then o (slice_cmp nat_cmp x y))
by_key Less x y = refl
by_key Equal x y = refl
by_key Greater x y = refl

greater : (r : Ordering) → is_gt r ≡ true → r ≡ Greater
greater Less h = absurd (false≢true h)
greater Equal h = absurd (false≢true h)
greater Greater h = refl

ordered : IsTotalOrder (on key (slice_cmp nat_cmp))
ordered = on_texts key

below : (a b : Epoch) → is_later a b ≡ true → compared b a ≡ Less
below a b h =
    let g : compared a b ≡ Greater = greater (compared a b) (sym (by_key (nat_cmp a.number b.number) a.image b.image) ∙ h) in
    ordered.antisymm b a ∙ ap ordering_reverse g

later_chain : (a b c : Epoch) → is_later a b ≡ true → is_later b c ≡ true → is_later a c ≡ true
later_chain a b c h g =
    let l : compared c a ≡ Less = ordered.trans c b a (below b c g) (below a b h) in
    by_key (nat_cmp a.number c.number) a.image c.image ∙ ap is_gt (ordered.antisymm a c ∙ ap ordering_reverse l)

-- ---- of two epochs neither is later, or one is

abbrev first_of : List ℕ → ℕ
first_of [] = 0
first_of (x ∷ xs) = x

abbrev rest_of : List ℕ → List ℕ
rest_of [] = []
rest_of (x ∷ xs) = xs

not_later_by : (o : Ordering) (a b : Epoch) → compared a b ≡ o → is_gt o ≡ false → IsNoEarlier b a
not_later_by Less a b is h = inr (by_key (nat_cmp b.number a.number) b.image a.image ∙ ap is_gt (ordered.antisymm b a ∙ ap ordering_reverse is))
not_later_by Equal a b is h =
    let same : key a ≡ key b = (bytes_decides (key a) (key b)).0 (texts_ties (key a) (key b) ∙ ap is_eq is) in
    let number : b.number ≡ a.number = sym (ap first_of same) in
    let image : b.image ≡ a.image = sym (ap rest_of same) in
    inl (λ i. record { number = number i; image = image i })
not_later_by Greater a b is h = absurd (false≢true (sym h))

pub not_later : (a b : Epoch) → is_later a b ≡ false → IsNoEarlier b a
not_later a b h = not_later_by (compared a b) a b refl (sym (by_key (nat_cmp a.number b.number) a.image b.image) ∙ h)

pub no_earlier_chain : (a b c : Epoch) → IsNoEarlier a b → IsNoEarlier b c → IsNoEarlier a c
no_earlier_chain a b c (inl e) h = subst (λ x. IsNoEarlier x c) (sym e) h
no_earlier_chain a b c (inr l) (inl e) = inr (subst (λ x. is_later a x ≡ true) e l)
no_earlier_chain a b c (inr l) (inr m) = inr (later_chain a b c l m)

pub come_on : (k l : Kept) (epoch : Epoch) → GoesOn k l → HasCome epoch k → HasCome epoch l
come_on keeps.Nothing l epoch g h = absurd h
come_on (keeps.Above above) l epoch g h = absurd h
come_on (keeps.Entered own) keeps.Nothing epoch g h = absurd g
come_on (keeps.Entered own) (keeps.Above above) epoch g h = absurd g
come_on (keeps.Entered own) (keeps.Entered other) epoch g h = no_earlier_chain other own epoch g h
come_on (keeps.Entered own) (keeps.Begun other) epoch g h = no_earlier_chain other own epoch (inl g) h
come_on (keeps.Begun own) keeps.Nothing epoch g h = absurd g
come_on (keeps.Begun own) (keeps.Above above) epoch g h = absurd g
come_on (keeps.Begun own) (keeps.Entered other) epoch g h = no_earlier_chain other own epoch (inr g) h
come_on (keeps.Begun own) (keeps.Begun other) epoch g h = no_earlier_chain other own epoch (inl g) h

-- ---- an epoch that was begun

pub later_than_itself : (e : Epoch) → is_later e e ≡ true → ⊥
later_than_itself e h =
    let up : compared e e ≡ Greater = greater (compared e e) (sym (by_key (nat_cmp e.number e.number) e.image e.image) ∙ h) in
    false≢true (ap is_gt (sym (below e e h) ∙ up))

pub later_yet : (a b c : Epoch) → is_later a b ≡ true → IsNoEarlier b c → is_later a c ≡ true
later_yet a b c l (inl e) = subst (λ x. is_later a x ≡ true) e l
later_yet a b c l (inr m) = later_chain a b c l m

pub begun_on : (k l : Kept) (epoch : Epoch) → GoesOn k l → HasBegun epoch k → HasBegun epoch l
begun_on keeps.Nothing l epoch g h = absurd h
begun_on (keeps.Above above) l epoch g h = absurd h
begun_on (keeps.Entered own) keeps.Nothing epoch g h = absurd g
begun_on (keeps.Entered own) (keeps.Above above) epoch g h = absurd g
begun_on (keeps.Entered own) (keeps.Entered other) epoch (inl e) h = subst (λ x. is_later x epoch ≡ true) (sym e) h
begun_on (keeps.Entered own) (keeps.Entered other) epoch (inr l) h = later_chain other own epoch l h
begun_on (keeps.Entered own) (keeps.Begun other) epoch g h = no_earlier_chain other own epoch (inl g) (inr h)
begun_on (keeps.Begun own) keeps.Nothing epoch g h = absurd g
begun_on (keeps.Begun own) (keeps.Above above) epoch g h = absurd g
begun_on (keeps.Begun own) (keeps.Entered other) epoch g h = later_yet other own epoch g h
begun_on (keeps.Begun own) (keeps.Begun other) epoch g h = no_earlier_chain other own epoch (inl g) h

-- who has only entered an epoch hasn't begun it
pub entered_only : (own epoch : Epoch) → own ≡ epoch → HasBegun epoch (keeps.Entered own) → ⊥
entered_only own epoch is h = later_than_itself epoch (subst (λ x. is_later x epoch ≡ true) is h)

-- ---- an epoch above which it waits

pub beyond_on : (k l : Kept) (epoch : Epoch) → GoesOn k l → IsBeyond epoch k → IsBeyond epoch l
beyond_on keeps.Nothing l epoch g h = absurd h
beyond_on (keeps.Above above) keeps.Nothing epoch g h = absurd g
beyond_on (keeps.Above above) (keeps.Above other) epoch g h = subst (λ x. IsNoEarlier x epoch) (sym g) h
beyond_on (keeps.Above above) (keeps.Entered other) epoch g h = later_yet other above epoch g h
beyond_on (keeps.Above above) (keeps.Begun other) epoch g h = absurd g
beyond_on (keeps.Entered own) keeps.Nothing epoch g h = absurd g
beyond_on (keeps.Entered own) (keeps.Above above) epoch g h = absurd g
beyond_on (keeps.Entered own) (keeps.Entered other) epoch (inl e) h = subst (λ x. is_later x epoch ≡ true) (sym e) h
beyond_on (keeps.Entered own) (keeps.Entered other) epoch (inr l) h = later_chain other own epoch l h
beyond_on (keeps.Entered own) (keeps.Begun other) epoch g h = subst (λ x. is_later x epoch ≡ true) (sym g) h
beyond_on (keeps.Begun own) keeps.Nothing epoch g h = absurd g
beyond_on (keeps.Begun own) (keeps.Above above) epoch g h = absurd g
beyond_on (keeps.Begun own) (keeps.Entered other) epoch g h = later_chain other own epoch g h
beyond_on (keeps.Begun own) (keeps.Begun other) epoch g h = subst (λ x. is_later x epoch ≡ true) (sym g) h

-- ---- by hand

entered_beyond : (own epoch : Epoch) (image : List ℕ) (o : Option Epoch) (has : Kept) → next_epoch own image ≡ o → entered_by_hand o ≡ Ok has → is_later own epoch ≡ true → IsBeyond epoch has
entered_beyond own epoch image None has is h k = absurd cc
entered_beyond own epoch image (Some next) has is h k =
    let e : keeps.Entered next ≡ has = cc in
    subst (λ x. IsBeyond epoch x) e (later_chain next own epoch (behind_is_later own next image true is) k)

pub hand_beyond : (k has : Kept) (epoch : Epoch) (image : List ℕ) → by_hand k image ≡ Ok has → IsBeyond epoch k → IsBeyond epoch has
hand_beyond keeps.Nothing has epoch image h k = absurd k
hand_beyond (keeps.Above above) has epoch image h k = absurd cc
hand_beyond (keeps.Entered own) has epoch image h k = entered_beyond own epoch image (next_epoch own image) has refl h k
hand_beyond (keeps.Begun own) has epoch image h k = entered_beyond own epoch image (next_epoch own image) has refl h k

entered_begun : (own epoch : Epoch) (image : List ℕ) (o : Option Epoch) (has : Kept) → next_epoch own image ≡ o → entered_by_hand o ≡ Ok has → IsNoEarlier own epoch → HasBegun epoch has
entered_begun own epoch image None has is h k = absurd cc
entered_begun own epoch image (Some next) has is h k =
    let e : keeps.Entered next ≡ has = cc in
    subst (λ x. HasBegun epoch x) e (later_yet next own epoch (behind_is_later own next image true is) k)

pub hand_begun : (k has : Kept) (epoch : Epoch) (image : List ℕ) → by_hand k image ≡ Ok has → HasBegun epoch k → HasBegun epoch has
hand_begun keeps.Nothing has epoch image h k = absurd k
hand_begun (keeps.Above above) has epoch image h k = absurd k
hand_begun (keeps.Entered own) has epoch image h k = entered_begun own epoch image (next_epoch own image) has refl h (inr k)
hand_begun (keeps.Begun own) has epoch image h k = entered_begun own epoch image (next_epoch own image) has refl h k

entered_on : (own epoch : Epoch) (image : List ℕ) (o : Option Epoch) (has : Kept) → next_epoch own image ≡ o → entered_by_hand o ≡ Ok has → IsNoEarlier own epoch → HasCome epoch has
entered_on own epoch image None has is h k = absurd cc
entered_on own epoch image (Some next) has is h k =
    let e : keeps.Entered next ≡ has = cc in
    subst (λ x. HasCome epoch x) e (no_earlier_chain next own epoch (inr (behind_is_later own next image true is)) k)

pub hand_on : (k has : Kept) (epoch : Epoch) (image : List ℕ) → by_hand k image ≡ Ok has → HasCome epoch k → HasCome epoch has
hand_on keeps.Nothing has epoch image h k = absurd k
hand_on (keeps.Above above) has epoch image h k = absurd k
hand_on (keeps.Entered own) has epoch image h k = entered_on own epoch image (next_epoch own image) has refl h k
hand_on (keeps.Begun own) has epoch image h k = entered_on own epoch image (next_epoch own image) has refl h k

-- ---- one epoch

pub same_epoch : (x y : Epoch) → is_same x y ≡ true → x ≡ y
same_epoch x y h =
    let parts = and_parts _ _ h in
    let number : x.number ≡ y.number = eqb-true x.number y.number parts.0 in
    let image : x.image ≡ y.image = (bytes_decides x.image y.image).0 parts.1 in
    λ i. record { number = number i; image = image i }
