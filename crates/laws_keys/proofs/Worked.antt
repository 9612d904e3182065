-- A connection worked out: machine 2 dials machine 0, says hello, and sends a COMMIT of view 1 with the commit number 3.
-- HMAC with SHA-256 is computed here, by its definition.
use Rattle.std.proofs.Common.{◌≡◌, ℕ, zero, suc, ◌<◌, inl, List, [], ◌∷◌, ◌++◌, Option, Some, None, drop, replicate, refl, sym, ap, subst, ◌∙◌, arith}
use Rattle.std.specs.Prelude.{Contains, slice_get, slice_index}
use Rattle.std.specs.List.{AllByRecursion}
use Rattle.io_model.specs.Streams.{Rest}
use Rattle.vr_model.specs.declared.message.Message.{Message}
use Rattle.vr_model.specs.declared.message.Body.TheVariants as says
use Rattle.vr_model.specs.declared.message.Party.TheVariants as party
use Rattle.vr_wire.specs.Frames.{IsFramed}
use Rattle.sha2.specs.Sha256.{sha256, digest_bytes, hash_after, compress, rounds, schedule, first_words}
use Rattle.net_keys.specs.Hmac.{hmac}
use Rattle.net_keys.specs.Meeting.{connection_key, terms_of}
use Rattle.net_keys.specs.Sealing.{sum_of, text_of}
use Rattle.net_keys.specs.Forging.{AreOpened, IsSealedThere, Sealed, all_summed}
use Rattle.net_keys.specs.declared.challenge.Challenge.{Challenge}
use Rattle.net_keys.specs.declared.sealing.Side.TheVariants.{Dialler, Listener}
use Rattle.laws_keys.specs.Ways.{Way, ForgedCame, HasOpened, HasSealed, StandsIn}

abbrev pub pair : List ℕ
pair = 0 ∷ 1 ∷ 2 ∷ 3 ∷ 4 ∷ 5 ∷ 6 ∷ 7 ∷ 8 ∷ 9 ∷ 10 ∷ 11 ∷ 12 ∷ 13 ∷ 14 ∷ 15 ∷ 16 ∷ 17 ∷ 18 ∷ 19 ∷ 20 ∷ 21 ∷ 22 ∷ 23 ∷ 24 ∷ 25 ∷ 26 ∷ 27 ∷ 28 ∷ 29 ∷ 30 ∷ 31 ∷ []

abbrev pub dialler : Challenge
dialler = record { from = 2; to = 0; key = 1 ∷ 2 ∷ 3 ∷ 4 ∷ 5 ∷ 6 ∷ 7 ∷ 8 ∷ []; nonce = replicate 32 17 }

abbrev pub listener : Challenge
listener = record { from = 0; to = 2; key = 1 ∷ 2 ∷ 3 ∷ 4 ∷ 5 ∷ 6 ∷ 7 ∷ 8 ∷ []; nonce = replicate 32 34 }

abbrev pub key : List ℕ
key = connection_key pair dialler listener

-- what it says first, and the frame behind that
abbrev pub hello : List ℕ
hello = 104 ∷ 105 ∷ []

abbrev pub commit : Message
commit = record { from = party.Replica 2; to = party.Replica 0; body = says.Commit 1 3 }

abbrev pub frame : List ℕ
frame = 0 ∷ 0 ∷ 0 ∷ 19 ∷ 4 ∷ 2 ∷ 0 ∷ 0 ∷ 0 ∷ 0 ∷ 0 ∷ 0 ∷ 0 ∷ 0 ∷ 1 ∷ 0 ∷ 0 ∷ 0 ∷ 0 ∷ 0 ∷ 0 ∷ 0 ∷ 3 ∷ []

-- the same, with one byte changed
abbrev pub changed : List ℕ
changed = 0 ∷ 0 ∷ 0 ∷ 19 ∷ 4 ∷ 2 ∷ 0 ∷ 0 ∷ 0 ∷ 0 ∷ 0 ∷ 0 ∷ 0 ∷ 0 ∷ 1 ∷ 0 ∷ 0 ∷ 0 ∷ 0 ∷ 0 ∷ 0 ∷ 0 ∷ 7 ∷ []

-- the sums of both
abbrev pub first_sum : List ℕ
first_sum = 143 ∷ 92 ∷ 172 ∷ 65 ∷ 230 ∷ 19 ∷ 108 ∷ 151 ∷ 130 ∷ 195 ∷ 243 ∷ 1 ∷ 203 ∷ 248 ∷ 79 ∷ 158 ∷ []

abbrev pub second_sum : List ℕ
second_sum = 130 ∷ 0 ∷ 79 ∷ 198 ∷ 111 ∷ 33 ∷ 8 ∷ 214 ∷ 126 ∷ 204 ∷ 38 ∷ 216 ∷ 146 ∷ 79 ∷ 167 ∷ 212 ∷ []

-- ---- what is opened, and what isn't

pub both_are_opened : AreOpened key Dialler 0 ((hello, first_sum) ∷ (frame, second_sum) ∷ [])
unfolding hmac sha256 digest_bytes hash_after compress rounds schedule first_words
both_are_opened = (refl, (refl, tt))

-- with one byte changed it isn't opened
pub a_changed_one_is_refused : sum_of key Dialler 1 changed ≡ second_sum → ⊥
unfolding hmac sha256 digest_bytes hash_after compress rounds schedule first_words
a_changed_one_is_refused e =
    let is : sum_of key Dialler 1 changed ≡ 235 ∷ 71 ∷ 252 ∷ 35 ∷ 183 ∷ 182 ∷ 27 ∷ 65 ∷ 201 ∷ 89 ∷ 223 ∷ 0 ∷ 195 ∷ 248 ∷ 76 ∷ 90 ∷ [] = refl in
    let same = ap (λ (l : List ℕ). slice_index l 0) (sym is ∙ e) in absurd (omega (arith, same))

-- nor once more, under the next number
pub it_is_refused_again : sum_of key Dialler 2 frame ≡ second_sum → ⊥
unfolding hmac sha256 digest_bytes hash_after compress rounds schedule first_words
it_is_refused_again e =
    let is : sum_of key Dialler 2 frame ≡ 180 ∷ 45 ∷ 251 ∷ 224 ∷ 213 ∷ 168 ∷ 149 ∷ 208 ∷ 210 ∷ 23 ∷ 254 ∷ 97 ∷ 42 ∷ 53 ∷ 66 ∷ 82 ∷ [] = refl in
    let same = ap (λ (l : List ℕ). slice_index l 0) (sym is ∙ e) in absurd (omega (arith, same))

-- nor by the end that said it
pub it_is_refused_back : sum_of key Listener 1 frame ≡ second_sum → ⊥
unfolding hmac sha256 digest_bytes hash_after compress rounds schedule first_words
it_is_refused_back e =
    let is : sum_of key Listener 1 frame ≡ 179 ∷ 17 ∷ 111 ∷ 152 ∷ 215 ∷ 77 ∷ 136 ∷ 33 ∷ 145 ∷ 36 ∷ 33 ∷ 250 ∷ 189 ∷ 68 ∷ 251 ∷ 14 ∷ [] = refl in
    let same = ap (λ (l : List ℕ). slice_index l 0) (sym is ∙ e) in absurd (omega (arith, same))

-- ---- the way that it is

abbrev pub way : Way
way = record { pair = pair; dialler = dialler; listener = listener; side = Dialler; meeting = 1 }

abbrev pub sealed : Sealed
sealed = record { dialler = dialler; listener = listener; side = Dialler; bodies = hello ∷ frame ∷ [] }

framed : IsFramed commit
framed = record {
  lawful = record { from = omega arith; to = omega arith; body = tt };
  fits = (omega arith, omega arith);
  short = omega arith;
}

there : IsSealedThere (sealed ∷ []) dialler listener Dialler (hello ∷ frame ∷ [])
there s (zero, lt, is) a b c = ap (λ (x : Sealed). x.bodies) (sym is)
there s (suc k, lt, is) a b c = absurd (omega (arith, lt))

pub it_is_sealed : HasSealed (sealed ∷ []) way (commit ∷ [])
it_is_sealed = record {
  first = hello ∷ [];
  bodies = frame ∷ [];
  rest = [];
  there = there;
  met = refl;
  framed = (framed, tt);
  went = refl;
}

abbrev pub opened : List (List ℕ × List ℕ)
opened = (hello, first_sum) ∷ (frame, second_sum) ∷ []

-- the bytes that came: of each record its length, its body and its sum
abbrev pub came : List ℕ
came = (0 ∷ 2 ∷ hello) ++ (first_sum ++ ((0 ∷ 23 ∷ frame) ++ second_sum))

pub it_is_given : HasOpened way came opened (commit ∷ []) (Rest [])
it_is_given = record {
  stand = ((0 ∷ 2 ∷ [], (0 ∷ 23 ∷ frame) ++ second_sum, refl), (((0 ∷ 2 ∷ hello) ++ (first_sum ++ (0 ∷ 23 ∷ [])), [], refl), tt));
  each = both_are_opened;
  count = omega arith;
  met = omega arith;
  gave = frame;
  left = [];
  bodies = refl;
  split = record { rest = []; whole = refl; each = (framed, tt); ends = (refl, inl (omega arith)) };
}

-- ---- nothing of it was forged

abbrev body_in : Option (List ℕ × List ℕ) → List ℕ
body_in None = []
body_in (Some one) = one.0

abbrev sum_in : Option (List ℕ × List ℕ) → List ℕ
sum_in None = []
sum_in (Some one) = one.1

at_its_place : (place : ℕ) (body sum : List ℕ) → slice_get opened place ≡ Some (body, sum) → Contains (all_summed (sealed ∷ [])) (terms_of dialler listener, text_of Dialler place body)
at_its_place zero body sum is =
    let same : hello ≡ body = ap body_in is in
    (0, omega arith, ap (λ (b : List ℕ). (terms_of dialler listener, text_of Dialler 0 b)) same)
at_its_place (suc zero) body sum is =
    let same : frame ≡ body = ap body_in is in
    (1, omega arith, ap (λ (b : List ℕ). (terms_of dialler listener, text_of Dialler 1 b)) same)
at_its_place (suc (suc place)) body sum is = absurd cc

pub nothing_was_forged : ForgedCame (sealed ∷ []) way came opened → ⊥
nothing_was_forged f = f.forged.forged.1 (at_its_place f.forged.place f.forged.body f.forged.sum f.forged.there)

-- it would have been, had nobody who has the key sealed anything
pub all_was_forged : ForgedCame [] way came opened
all_was_forged = record {
  forged = record {
    place = 0;
    body = hello;
    sum = first_sum;
    there = refl;
    forged = (both_are_opened.0, λ has. absurd (omega (arith, has.1)));
  };
  stands = (0 ∷ 2 ∷ [], (0 ∷ 23 ∷ frame) ++ second_sum, refl);
}

-- ---- but not where its right sum didn't come, though there is one

third_of : (P : ℕ → Type 0) (front : List ℕ) (x y z : ℕ) (rest : List ℕ) → AllByRecursion P (front ++ (x ∷ y ∷ z ∷ rest)) → P z
third_of P [] x y z rest all = all.1.1.0
third_of P (w ∷ front) x y z rest all = third_of P front x y z rest all.1

-- a stranger says the hello behind a sum of his own
abbrev pub strange : List ℕ
strange = (0 ∷ 2 ∷ hello) ++ replicate 16 7

abbrev Small : ℕ → Type 0
Small x = x < 106

all_small : AllByRecursion Small strange
all_small = (omega arith, (omega arith, (omega arith, (omega arith, (omega arith, (omega arith, (omega arith, (omega arith, (omega arith, (omega arith, (omega arith, (omega arith, (omega arith, (omega arith, (omega arith, (omega arith, (omega arith, (omega arith, (omega arith, (omega arith, tt))))))))))))))))))))

not_there : StandsIn strange (hello ++ first_sum) → ⊥
not_there (front, rest, is) =
    let all : AllByRecursion Small (front ++ ((hello ++ first_sum) ++ rest)) = subst (λ (l : List ℕ). AllByRecursion Small l) is all_small in
    let one : Small 143 = third_of Small front 104 105 143 (drop 3 (hello ++ first_sum) ++ rest) all in
    absurd (omega (arith, one))

abbrev pub alone : List (List ℕ × List ℕ)
alone = (hello, first_sum) ∷ []

at_none : (place : ℕ) (body sum : List ℕ) → slice_get alone place ≡ Some (body, sum) → StandsIn strange (body ++ sum) → ⊥
at_none zero body sum is stands =
    let one : hello ≡ body = ap body_in is in
    let other : first_sum ≡ sum = ap sum_in is in
    not_there (subst (λ (x : List ℕ). StandsIn strange (hello ++ x)) (sym other) (subst (λ (x : List ℕ). StandsIn strange (x ++ sum)) (sym one) stands))
at_none (suc place) body sum is stands = absurd cc

pub without_its_sum_none_came : ForgedCame [] way strange alone → ⊥
without_its_sum_none_came f = at_none f.forged.place f.forged.body f.forged.sum f.forged.there f.stands
