-- A hello that is read is the one that was spelled.
use Rattle.std.proofs.Common.{◌≡◌, ℕ, ◌+◌, ◌*◌, ◌/◌, ◌%◌, ◌^◌, ◌<◌, ◌≤◌, Bool, true, false, cond, ltb, eqb, not, List, [], ◌∷◌, ◌++◌, length, get_or, take, drop, Option, Some, None, Result, Ok, Err, IfOk, IfSome, refl, sym, ap, ap₂, subst, ◌∙◌, append_assoc, arith, inl, inr, length-append, length-take, length-drop}
use Rattle.std.specs.Prelude.{slice_index, ◌⊎◌}
use Rattle.std.specs.Int.{w32, w64, from_be_bytes, to_be_bytes}
use Rattle.std.proofs.lemmas.Bool.{cases_lt, ltb-false, ltb-true, le-ltb, lt-ltb, eqb-true}
use Rattle.std.proofs.lemmas.List.{take_at, drop_at, take-append-drop, take-append-le, get_or-drop, get_or-take, get_or_past}
use Rattle.std.proofs.lemmas.Nat.{be_bytes_4, be_bytes_8, from_be_bytes-to_be_bytes_4, from_be_bytes-to_be_bytes_8}
use native.Mathlib.Bridge.{le_prop}
use mathlib.Core.HLevel.{is_prop→PathP}
use Rattle.vr_model.specs.Groups.{client_count}
use Rattle.vr_model.specs.declared.client.ClientNumber.{ClientNumber}
use Rattle.vr_model.specs.declared.message.Party.{Party}
use Rattle.vr_model.specs.declared.message.Party.TheVariants.{Replica, Client}
use Rattle.net_hello.specs.declared.hello.Known.{Known}
use Rattle.net_hello.specs.declared.hello.Hello.{Hello}
use Rattle.net_hello.specs.declared.hello.HelloFault.{HelloFault}
use Rattle.net_hello.specs.declared.hello.HelloFault.TheVariants.{NoHello, OtherVersion}
use Rattle.net_hello.specs.Hellos.{magic, version, party_bytes, known_bytes, numbers_bytes, said_bytes, hello_bytes, FitsKnown, FitsNumbers, FitsParty, FitsHello, IsHello}
use Rattle.net_hello.specs.Hellos.{client_by, known_of, party_of, said_with, said_behind, said_of, if_said, whole_of}
use Rattle.net_hello.specs.Hellos.{behind_front, hello_of}

abbrev pub IsBytes : List ℕ → Type 0
IsBytes bytes = (i : ℕ) → get_or bytes i 0 < 256

IsBytes-drop : (n : ℕ) (bytes : List ℕ) → IsBytes bytes → IsBytes (drop n bytes)
IsBytes-drop n bytes h i = rw get_or-drop (h (n + i))

IsBytes-take : (n : ℕ) (bytes : List ℕ) → IsBytes bytes → IsBytes (take n bytes)
IsBytes-take n bytes h i =
    elim (cases_lt i n) [
      | inl lt ↦ rw (get_or-take n bytes i 0 lt) (h i)
      | inr le ↦ rw (get_or_past (take n bytes) i 0 (omega (arith, length-take n bytes))) (omega arith)
    ]

-- ---- parties

-- a client is known by its number
pub client_same : (a b : ClientNumber) → a.number ≡ b.number → a ≡ b
client_same a b e = λ i. record { number = e i; below = is_prop→PathP (λ j. e j < client_count) (λ j. le_prop) a.below b.below i }

pub client_again : (c : ClientNumber) (t : (c.number < client_count) ⊎ (client_count ≤ c.number)) → client_by c.number t ≡ Some (Client c)
client_again c (inl lt) = ap (λ (x : ClientNumber). Some (Client x)) (client_same (record { number = c.number; below = lt }) c refl)
client_again c (inr le) = absurd (omega (arith, c.below))

client_found : (n : ℕ) (t : (n < client_count) ⊎ (client_count ≤ n)) (p : Party) → client_by n t ≡ Some p → (1 ∷ n ∷ [] ≡ party_bytes p) × FitsParty p
client_found n (inl lt) p e = let is : Client (record { number = n; below = lt }) ≡ p = cc in subst (λ (q : Party). (1 ∷ n ∷ [] ≡ party_bytes q) × FitsParty q) is (refl, lt)
client_found n (inr le) p e = absurd cc

party_found_by : (first second : Bool) (kind n : ℕ) (p : Party) → n < 256 → eqb kind 0 ≡ first → eqb kind 1 ≡ second
    → cond first (Some (Replica n)) (cond second (client_by n (cases_lt n client_count)) None) ≡ Some p → (kind ∷ n ∷ [] ≡ party_bytes p) × FitsParty p
party_found_by true second kind n p lt a b e =
    let is : Replica n ≡ p = cc in
    let zero_kind : kind ≡ 0 = eqb-true kind 0 a in
    subst (λ (q : Party). (kind ∷ n ∷ [] ≡ party_bytes q) × FitsParty q) is (ap (λ (k : ℕ). k ∷ n ∷ []) zero_kind, lt)
party_found_by false true kind n p lt a b e =
    let found = client_found n (cases_lt n client_count) p e in
    (ap (λ (k : ℕ). k ∷ n ∷ []) (eqb-true kind 1 b) ∙ found.0, found.1)
party_found_by false false kind n p lt a b e = absurd cc

party_found : (kind n : ℕ) (p : Party) → n < 256 → party_of kind n ≡ Some p → (kind ∷ n ∷ [] ≡ party_bytes p) × FitsParty p
party_found kind n p lt e = party_found_by (eqb kind 0) (eqb kind 1) kind n p lt refl refl e

party_again : (p : Party) (starts : List ℕ) → (party_of (slice_index (party_bytes p ++ starts) 0) (slice_index (party_bytes p ++ starts) 1) ≡ Some p) × (drop 2 (party_bytes p ++ starts) ≡ starts)
party_again (Replica n) starts = (refl, refl)
party_again (Client c) starts = (client_again c (cases_lt c.number client_count), refl)

-- ---- what is said

module _ (h : Hello) (fits : FitsHello h) where
  -- what it says of its numbers
  numbers_again : said_with (Some h.party) h.identity (to_be_bytes w64 h.epoch.number) h.epoch.image (numbers_bytes h) ≡ Some h
  numbers_again = λ i. Some (record {
    identity = h.identity;
    epoch = record { number = from_be_bytes-to_be_bytes_8 h.epoch.number fits.number i; image = h.epoch.image };
    party = h.party;
    starts = from_be_bytes-to_be_bytes_8 h.starts fits.numbers.starts i;
    fresh = from_be_bytes-to_be_bytes_4 h.fresh fits.numbers.fresh i;
    store = from_be_bytes-to_be_bytes_8 h.store fits.numbers.store i;
    known = record {
      store = from_be_bytes-to_be_bytes_8 h.known.store fits.numbers.known.0 i;
      starts = from_be_bytes-to_be_bytes_8 h.known.starts fits.numbers.known.1 i;
    };
  })

  pub said_again : said_of (said_bytes h) ≡ Some h
  said_again =
      let number = to_be_bytes w64 h.epoch.number in
      let numbers = numbers_bytes h in
      let third = party_bytes h.party ++ numbers in
      let second = h.epoch.image ++ third in
      let first = number ++ second in
      let by_identity : said_of (said_bytes h) ≡ said_behind h.identity (take 8 first) (drop 8 first) = ap₂ (λ (i r : List ℕ). said_behind i (take 8 r) (drop 8 r)) (take_at h.identity first 32 fits.identity) (drop_at h.identity first 32 fits.identity) in
      let by_number : said_behind h.identity (take 8 first) (drop 8 first) ≡ said_behind h.identity number second = ap₂ (λ (n r : List ℕ). said_behind h.identity n r) (take_at number second 8 refl) (drop_at number second 8 refl) in
      let by_image : said_behind h.identity number second ≡ said_with (party_of (slice_index third 0) (slice_index third 1)) h.identity number h.epoch.image (drop 2 third) = ap₂ (λ (m r : List ℕ). said_with (party_of (slice_index r 0) (slice_index r 1)) h.identity number m (drop 2 r)) (take_at h.epoch.image third 32 fits.image) (drop_at h.epoch.image third 32 fits.image) in
      let by_party : said_with (party_of (slice_index third 0) (slice_index third 1)) h.identity number h.epoch.image (drop 2 third) ≡ said_with (Some h.party) h.identity number h.epoch.image numbers = ap₂ (λ (p : Option Party) (r : List ℕ). said_with p h.identity number h.epoch.image r) (party_again h.party numbers).0 (party_again h.party numbers).1 in
      by_identity ∙ (by_number ∙ (by_image ∙ (by_party ∙ numbers_again)))

  party_length : (p : Party) → length (party_bytes p) ≡ 2
  party_length (Replica n) = refl
  party_length (Client c) = refl

  pub said_length : length (said_bytes h) ≡ 110
  said_length =
      let number = to_be_bytes w64 h.epoch.number in
      let numbers = numbers_bytes h in
      let many : length numbers ≡ 36 = refl in
      omega (arith, many, fits.identity, fits.image, party_length h.party, length-append h.identity (number ++ (h.epoch.image ++ (party_bytes h.party ++ numbers))), length-append number (h.epoch.image ++ (party_bytes h.party ++ numbers)), length-append h.epoch.image (party_bytes h.party ++ numbers), length-append (party_bytes h.party) numbers)

-- what was read, by its parts
abbrev made : List ℕ → List ℕ → List ℕ → Party → List ℕ → Hello
made identity number image party numbers = record {
  identity = identity;
  epoch = record { number = from_be_bytes w64 number; image = image };
  party = party;
  starts = from_be_bytes w64 (take 8 numbers);
  fresh = from_be_bytes w32 (take 4 (drop 8 numbers));
  store = from_be_bytes w64 (take 8 (drop 4 (drop 8 numbers)));
  known = known_of (drop 8 (drop 4 (drop 8 numbers)));
}

-- the parts of what is said are those that were read
said_with_found : (q : Option Party) (identity number image numbers : List ℕ) (h : Hello) → said_with q identity number image numbers ≡ Some h
    → (p : Party) × (q ≡ Some p) × (made identity number image p numbers ≡ h)
said_with_found (Some p) identity number image numbers h e = (p, refl, cc)
said_with_found None identity number image numbers h e = absurd cc

two_front : (xs : List ℕ) → 2 ≤ length xs → take 2 xs ≡ slice_index xs 0 ∷ slice_index xs 1 ∷ []
two_front [] le = absurd (omega arith)
two_front (x ∷ []) le = absurd (omega arith)
two_front (x ∷ y ∷ xs) le = refl

split : (n : ℕ) (xs : List ℕ) → xs ≡ take n xs ++ drop n xs
split n xs = sym (take-append-drop n xs)

eight_again : (bytes : List ℕ) → IsBytes bytes → length bytes ≡ 8 → to_be_bytes w64 (from_be_bytes w64 bytes) ≡ bytes
eight_again bytes are long = be_bytes_8 bytes _ long are refl

eight_below : (bytes : List ℕ) → IsBytes bytes → from_be_bytes w64 bytes < 2 ^ 64
eight_below bytes are = omega (arith, are 0, are 1, are 2, are 3, are 4, are 5, are 6, are 7)

four_again : (bytes : List ℕ) → IsBytes bytes → length bytes ≡ 4 → to_be_bytes w32 (from_be_bytes w32 bytes) ≡ bytes
four_again bytes are long = be_bytes_4 bytes _ long are refl

four_below : (bytes : List ℕ) → IsBytes bytes → from_be_bytes w32 bytes < 2 ^ 32
four_below bytes are = omega (arith, are 0, are 1, are 2, are 3)

-- what is known, from 16 bytes
known_found : (bytes : List ℕ) → IsBytes bytes → length bytes ≡ 16 → (bytes ≡ known_bytes (known_of bytes)) × FitsKnown (known_of bytes)
known_found bytes are long =
    let front = take 8 bytes in
    let back = drop 8 bytes in
    let are_front : IsBytes front = IsBytes-take 8 bytes are in
    let are_back : IsBytes back = IsBytes-drop 8 bytes are in
    let store = eight_again front are_front (omega (arith, length-take 8 bytes)) in
    let starts = eight_again back are_back (omega (arith, length-drop 8 bytes)) in
    (split 8 bytes ∙ ap₂ (λ (x y : List ℕ). x ++ y) (sym store) (sym starts), (eight_below front are_front, eight_below back are_back))

-- the numbers, from 36 bytes
module _ (numbers : List ℕ) (are : IsBytes numbers) (long : length numbers ≡ 36) (h : Hello)
    (is_starts : from_be_bytes w64 (take 8 numbers) ≡ h.starts) (is_fresh : from_be_bytes w32 (take 4 (drop 8 numbers)) ≡ h.fresh)
    (is_store : from_be_bytes w64 (take 8 (drop 4 (drop 8 numbers))) ≡ h.store) (is_known : known_of (drop 8 (drop 4 (drop 8 numbers))) ≡ h.known) where
  abbrev first : List ℕ
  first = drop 8 numbers

  abbrev second : List ℕ
  second = drop 4 first

  abbrev third : List ℕ
  third = drop 8 second

  are_first : IsBytes first
  are_first = IsBytes-drop 8 numbers are

  are_second : IsBytes second
  are_second = IsBytes-drop 4 first are_first

  are_third : IsBytes third
  are_third = IsBytes-drop 8 second are_second

  long_first : length first ≡ 28
  long_first = omega (arith, long, length-drop 8 numbers)

  long_second : length second ≡ 24
  long_second = omega (arith, long_first, length-drop 4 first)

  long_third : length third ≡ 16
  long_third = omega (arith, long_second, length-drop 8 second)

  pub numbers_found : numbers ≡ numbers_bytes h
  numbers_found =
      let starts : take 8 numbers ≡ to_be_bytes w64 h.starts = sym (eight_again (take 8 numbers) (IsBytes-take 8 numbers are) (omega (arith, long, length-take 8 numbers))) ∙ ap (to_be_bytes w64) is_starts in
      let fresh : take 4 first ≡ to_be_bytes w32 h.fresh = sym (four_again (take 4 first) (IsBytes-take 4 first are_first) (omega (arith, long_first, length-take 4 first))) ∙ ap (to_be_bytes w32) is_fresh in
      let store : take 8 second ≡ to_be_bytes w64 h.store = sym (eight_again (take 8 second) (IsBytes-take 8 second are_second) (omega (arith, long_second, length-take 8 second))) ∙ ap (to_be_bytes w64) is_store in
      let known : third ≡ known_bytes h.known = (known_found third are_third long_third).0 ∙ ap known_bytes is_known in
      split 8 numbers ∙ ap₂ (λ (x y : List ℕ). x ++ y) starts (split 4 first ∙ ap₂ (λ (x y : List ℕ). x ++ y) fresh (split 8 second ∙ ap₂ (λ (x y : List ℕ). x ++ y) store known))

  pub numbers_fit : FitsNumbers h
  numbers_fit = record {
    starts = subst (λ (n : ℕ). n < 2 ^ 64) is_starts (eight_below (take 8 numbers) (IsBytes-take 8 numbers are));
    fresh = subst (λ (n : ℕ). n < 2 ^ 32) is_fresh (four_below (take 4 first) (IsBytes-take 4 first are_first));
    store = subst (λ (n : ℕ). n < 2 ^ 64) is_store (eight_below (take 8 second) (IsBytes-take 8 second are_second));
    known = subst FitsKnown is_known (known_found third are_third long_third).1;
  }

module _ (bytes : List ℕ) (are : IsBytes bytes) (long : length bytes ≡ 110) where
  pub said_found : (h : Hello) → said_of bytes ≡ Some h → (bytes ≡ said_bytes h) × FitsHello h
  said_found h e =
      let first = drop 32 bytes in
      let second = drop 8 first in
      let third = drop 32 second in
      let identity = take 32 bytes in
      let number = take 8 first in
      let image = take 32 second in
      let numbers = drop 2 third in
      let long_first : length first ≡ 78 = omega (arith, length-drop 32 bytes) in
      let long_second : length second ≡ 70 = omega (arith, length-drop 8 first) in
      let long_third : length third ≡ 38 = omega (arith, length-drop 32 second) in
      let are_first : IsBytes first = IsBytes-drop 32 bytes are in
      let are_second : IsBytes second = IsBytes-drop 8 first are_first in
      let are_third : IsBytes third = IsBytes-drop 32 second are_second in
      let found = said_with_found (party_of (slice_index third 0) (slice_index third 1)) identity number image numbers h e in
      let party = party_found (slice_index third 0) (slice_index third 1) found.0 (are_third 1) found.1 in
      let read : Hello = made identity number image found.0 numbers in
      let are_numbers : IsBytes numbers = IsBytes-drop 2 third are_third in
      let long_numbers : length numbers ≡ 36 = omega (arith, length-drop 2 third) in
      let of_party : third ≡ party_bytes found.0 ++ numbers_bytes read = split 2 third ∙ ap₂ (λ (t u : List ℕ). t ++ u) (two_front third (omega arith) ∙ party.0) (numbers_found numbers are_numbers long_numbers read refl refl refl refl) in
      let number_again : to_be_bytes w64 (from_be_bytes w64 number) ≡ number = eight_again number (IsBytes-take 8 first are_first) (omega (arith, length-take 8 first)) in
      let whole : bytes ≡ said_bytes read = split 32 bytes ∙ ap (λ (t : List ℕ). identity ++ t) (split 8 first ∙ ap₂ (λ (n t : List ℕ). n ++ t) (sym number_again) (split 32 second ∙ ap (λ (t : List ℕ). image ++ t) of_party)) in
      let fits : FitsHello read = record {
        identity = omega (arith, length-take 32 bytes);
        number = eight_below number (IsBytes-take 8 first are_first);
        image = omega (arith, length-take 32 second);
        party = party.1;
        numbers = numbers_fit numbers are_numbers long_numbers read refl refl refl refl;
      } in
      subst (λ (x : Hello). (bytes ≡ said_bytes x) × FitsHello x) found.2 (whole, fits)

-- ---- a whole hello

whole_by : (n : ℕ) (said : Option Hello) → n ≡ 110 → cond (ltb n 110) (Ok None) (cond (ltb 110 n) (Err NoHello) (if_said said)) ≡ if_said said
whole_by n said e = subst (λ (m : ℕ). cond (ltb m 110) (Ok None) (cond (ltb 110 m) (Err NoHello) (if_said said)) ≡ if_said said) (sym e) refl

-- bytes behind the magic and the version
behind : (bytes rest : List ℕ) → 8 ≤ length bytes → take 8 bytes ≡ to_be_bytes w64 (65536 * magic + version) → drop 8 bytes ≡ rest → hello_of bytes ≡ whole_of rest
unfolding hello_of
behind bytes rest le fronts rests =
    let long : ltb (length bytes) 8 ≡ false = le-ltb (length bytes) 8 le in
    ap (λ (b : Bool). cond b (Ok None) (behind_front (from_be_bytes w64 (take 8 bytes)) (drop 8 bytes))) long ∙ ap₂ (λ (f r : List ℕ). behind_front (from_be_bytes w64 f) r) fronts rests

pub hello_again : (h : Hello) → FitsHello h → hello_of (hello_bytes h) ≡ Ok (Some h)
hello_again h fits =
    let first = to_be_bytes w64 (65536 * magic + version) in
    let all : length (hello_bytes h) ≡ 8 + length (said_bytes h) = length-append first (said_bytes h) in
    behind (hello_bytes h) (said_bytes h) (omega (arith, all)) (take_at first (said_bytes h) 8 refl) (drop_at first (said_bytes h) 8 refl)
    ∙ (whole_by (length (said_bytes h)) (said_of (said_bytes h)) (said_length h fits) ∙ ap if_said (said_again h fits))

pub hello_only : (h : Hello) (bytes : List ℕ) → IsHello h bytes → hello_of bytes ≡ Ok (Some h)
hello_only h bytes is = ap hello_of is.0 ∙ hello_again h is.1

pub hello_prefix : (h : Hello) (bytes more : List ℕ) → FitsHello h → 0 < length more → bytes ++ more ≡ hello_bytes h → hello_of bytes ≡ Ok None
unfolding hello_of
hello_prefix h bytes more fits some is =
    let first = to_be_bytes w64 (65536 * magic + version) in
    let all : length bytes + length more ≡ 118 = sym (length-append bytes more) ∙ (ap length is ∙ (length-append first (said_bytes h) ∙ ap (λ (n : ℕ). 8 + n) (said_length h fits))) in
    elim (cases_lt (length bytes) 8) [
      | inl few ↦ (let short : ltb (length bytes) 8 ≡ true = lt-ltb (length bytes) 8 few in ap (λ (b : Bool). cond b (Ok None) (behind_front (from_be_bytes w64 (take 8 bytes)) (drop 8 bytes))) short)
      | inr le ↦
          (let fronts : take 8 bytes ≡ first = sym (take-append-le 8 bytes more le) ∙ (ap (take 8) is ∙ take_at first (said_bytes h) 8 refl) in
          let fewer : ltb (length (drop 8 bytes)) 110 ≡ true = lt-ltb (length (drop 8 bytes)) 110 (omega (arith, length-drop 8 bytes)) in
          behind bytes (drop 8 bytes) le fronts refl ∙ ap (λ (b : Bool). cond b (Ok None) (cond (ltb 110 (length (drop 8 bytes))) (Err NoHello) (if_said (said_of (drop 8 bytes))))) fewer)
    ]

-- ---- what was read

said_if : (said : Option Hello) (h : Hello) → if_said said ≡ Ok (Some h) → said ≡ Some h
said_if (Some x) h e = cc
said_if None h e = absurd cc

whole_found : (few many : Bool) (rest : List ℕ) (h : Hello) → IsBytes rest → ltb (length rest) 110 ≡ few → ltb 110 (length rest) ≡ many
    → cond few (Ok None) (cond many (Err NoHello) (if_said (said_of rest))) ≡ Ok (Some h) → (rest ≡ said_bytes h) × FitsHello h
whole_found true many rest h are a b e = absurd cc
whole_found false true rest h are a b e = absurd cc
whole_found false false rest h are a b e =
    let long : length rest ≡ 110 = omega (arith, ltb-false (length rest) 110 a, ltb-false 110 (length rest) b) in
    said_found rest are long h (said_if (said_of rest) h e)

front_found : (first second : Bool) (f : ℕ) (rest : List ℕ) (h : Hello) → IsBytes rest → eqb (f / 65536) magic ≡ first → eqb (f % 65536) version ≡ second
    → cond (not first) (Err NoHello) (cond (not second) (Err OtherVersion) (whole_of rest)) ≡ Ok (Some h) → (f ≡ 65536 * magic + version) × (rest ≡ said_bytes h) × FitsHello h
front_found false second f rest h are a b e = absurd cc
front_found true false f rest h are a b e = absurd cc
front_found true true f rest h are a b e =
    let high : f / 65536 ≡ magic = eqb-true (f / 65536) magic a in
    let low : f % 65536 ≡ version = eqb-true (f % 65536) version b in
    let whole = whole_found (ltb (length rest) 110) (ltb 110 (length rest)) rest h are refl refl e in
    (omega (arith, high, low), whole.0, whole.1)

hello_found_by : (short : Bool) (bytes : List ℕ) (h : Hello) → IsBytes bytes → ltb (length bytes) 8 ≡ short
    → cond short (Ok None) (behind_front (from_be_bytes w64 (take 8 bytes)) (drop 8 bytes)) ≡ Ok (Some h) → IsHello h bytes
hello_found_by true bytes h are a e = absurd cc
hello_found_by false bytes h are a e =
    let f = from_be_bytes w64 (take 8 bytes) in
    let le : 8 ≤ length bytes = ltb-false (length bytes) 8 a in
    let found = front_found (eqb (f / 65536) magic) (eqb (f % 65536) version) f (drop 8 bytes) h (IsBytes-drop 8 bytes are) refl refl e in
    let again : to_be_bytes w64 f ≡ take 8 bytes = be_bytes_8 (take 8 bytes) _ (omega (arith, length-take 8 bytes)) (IsBytes-take 8 bytes are) refl in
    (split 8 bytes ∙ ap₂ (λ (x y : List ℕ). x ++ y) (sym again ∙ ap (to_be_bytes w64) found.0) found.1, found.2)

pub hello_found : (bytes : List ℕ) (h : Hello) → IsBytes bytes → hello_of bytes ≡ Ok (Some h) → IsHello h bytes
unfolding hello_of
hello_found bytes h are e = hello_found_by (ltb (length bytes) 8) bytes h are refl e

-- the same of any answer
pub found_in : (bytes : List ℕ) (answer : Result (Option Hello) HelloFault) → IsBytes bytes → answer ≡ hello_of bytes → IfOk answer (λ found. IfSome found (λ h. IsHello h bytes))
found_in bytes (Ok (Some h)) are is = hello_found bytes h are (sym is)
found_in bytes (Ok None) are is = tt
found_in bytes (Err fault) are is = tt
