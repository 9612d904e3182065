-- The fields of a spelling are those of its store, whatever stands behind it.
use Rattle.std.proofs.Common.{◌≡◌, ◌+◌, ◌*◌, ◌<◌, ◌≤◌, ◌^◌, ◌==◌, All, ℕ, Bool, true, false, List, [], ◌∷◌, ◌++◌, length, take, drop, nat_lt, Option, Some, None, refl, sym, ap, ◌∙◌, subst, arith, append_assoc, append-nil, length-append}
use Rattle.std.proofs.lemmas.Bool.{le-ltb}
use Rattle.std.proofs.lemmas.List.{take_at, drop_at}
use Rattle.std.proofs.lemmas.List.Elements.{All-head, All-tail}
use Rattle.std.proofs.lemmas.Nat.{from_be_bytes-to_be_bytes_4, from_be_bytes-to_be_bytes_8}
use Rattle.std.specs.Int.{w32, w64, to_be_bytes, from_be_bytes}
use Rattle.sha2.specs.Sha256.{sha256}
use Rattle.plc_epochs.specs.declared.kept.Kept.{Kept}
use Rattle.plc_epochs.specs.declared.kept.Kept.TheVariants as keeps
use Rattle.plc_store.specs.declared.header.Header.{Header}
use Rattle.plc_store.specs.Spelling.{epoch_by, fields_of, header_of, kept_by, length_of, Fits, Saying, body, epoch_of}
use Rattle.plc_store.specs.Spelling.{header_bytes, kind_of, magic, numbers_by, numbers_bytes, spelling}

module _ (id number image program store seen : List ℕ) (kind machine : ℕ) (id_long : length id ≡ 32) (number_long : length number ≡ 8) (image_long : length image ≡ 32) (program_long : length program ≡ 32) (store_long : length store ≡ 8) (seen_long : length seen ≡ 56) where
  front : List ℕ
  front = magic ++ (id ++ (kind ∷ ((number ++ image) ++ (program ++ (machine ∷ (store ++ seen))))))

  header_again : header_of front ≡ record { identity = id; kept = kept_by kind (epoch_by number image); program = program; machine = machine; store = from_be_bytes w64 store; seen = numbers_by 7 seen }
  unfolding front header_of
  header_again =
      rw (
        take_at id (kind ∷ ((number ++ image) ++ (program ++ (machine ∷ (store ++ seen))))) 32 id_long,
        drop_at id (kind ∷ ((number ++ image) ++ (program ++ (machine ∷ (store ++ seen))))) 32 id_long,
        append_assoc number image (program ++ (machine ∷ (store ++ seen))),
        take_at number (image ++ (program ++ (machine ∷ (store ++ seen)))) 8 number_long,
        drop_at number (image ++ (program ++ (machine ∷ (store ++ seen)))) 8 number_long,
        take_at image (program ++ (machine ∷ (store ++ seen))) 32 image_long,
        drop_at image (program ++ (machine ∷ (store ++ seen))) 32 image_long,
        take_at program (machine ∷ (store ++ seen)) 32 program_long,
        drop_at program (machine ∷ (store ++ seen)) 32 program_long,
        take_at store seen 8 store_long,
        drop_at store seen 8 store_long,
      ) refl

  header_long : length front ≡ 180
  unfolding front
  header_long =
      rw (
        length-append id (kind ∷ ((number ++ image) ++ (program ++ (machine ∷ (store ++ seen))))),
        length-append (number ++ image) (program ++ (machine ∷ (store ++ seen))),
        length-append number image,
        length-append program (machine ∷ (store ++ seen)),
        length-append store seen,
        id_long,
        number_long,
        image_long,
        program_long,
        store_long,
        seen_long,
      ) refl

-- the header and the length of the image, the image, and whatever stands behind
fields_apart : (header count image more : List ℕ) → length header ≡ 180 → length count ≡ 4 → from_be_bytes w32 count ≡ length image
    → fields_of (header ++ (count ++ (image ++ more))) ≡ Some (record { header = header_of header; image = image })
fields_apart header count image more header_long count_long counts =
    let front = header ++ count in
    let rest = image ++ more in
    let long : length front ≡ 184 = rw (length-append header count, header_long, count_long) refl in
    let enough : nat_lt (length (front ++ rest)) 184 ≡ false = le-ltb (length (front ++ rest)) 184 (omega (arith, length-append front rest, long)) in
    let is_counted : length_of front ≡ length image = rw (drop_at header count 180 header_long) counts in
    let whole : nat_lt (length rest) (length image) ≡ false = le-ltb (length rest) (length image) (omega (arith, length-append image more)) in
    ap fields_of (sym (append_assoc header count rest))
    ∙ rw (enough, take_at front rest 184 long, drop_at front rest 184 long, is_counted, whole, take_at header count 180 header_long, take_at image more (length image) refl) refl

regrouped : (header count image sum more : List ℕ) → ((header ++ (count ++ image)) ++ sum) ++ more ≡ header ++ (count ++ (image ++ (sum ++ more)))
regrouped header count image sum more = simp append_assoc refl

-- what a store has of epochs, of its spelling
kept_is : (kept : Kept) → (epoch_of kept).number < 2 ^ 64 → kept_by (kind_of kept) (epoch_by (to_be_bytes w64 (epoch_of kept).number) (epoch_of kept).image) ≡ kept
kept_is keeps.Nothing lt = refl
kept_is (keeps.Above epoch) lt = ap (λ n. keeps.Above (record { number = n; image = epoch.image })) (from_be_bytes-to_be_bytes_8 epoch.number lt)
kept_is (keeps.Entered epoch) lt = ap (λ n. keeps.Entered (record { number = n; image = epoch.image })) (from_be_bytes-to_be_bytes_8 epoch.number lt)
kept_is (keeps.Begun epoch) lt = ap (λ n. keeps.Begun (record { number = n; image = epoch.image })) (from_be_bytes-to_be_bytes_8 epoch.number lt)

-- numbers of their bytes
numbers_is : (xs : List ℕ) → All (λ n. n < 2 ^ 64) xs → numbers_by (length xs) (numbers_bytes xs) ≡ xs
numbers_is [] all = refl
numbers_is (x ∷ xs) all =
    ap (λ n. n ∷ numbers_by (length xs) (numbers_bytes xs)) (from_be_bytes-to_be_bytes_8 x (All-head (λ n. n < 2 ^ 64) x xs all))
    ∙ ap (λ ns. x ∷ ns) (numbers_is xs (All-tail (λ n. n < 2 ^ 64) x xs all))

numbers_long : (xs : List ℕ) → length (numbers_bytes xs) ≡ length xs * 8
numbers_long [] = refl
numbers_long (x ∷ xs) = omega (arith, length-append (to_be_bytes w64 x) (numbers_bytes xs), numbers_long xs)

seen_again : (said : Saying) → Fits said → numbers_by 7 (numbers_bytes said.header.seen) ≡ said.header.seen
seen_again said fits =
    subst (λ n. numbers_by n (numbers_bytes said.header.seen) ≡ said.header.seen) fits.machines (numbers_is said.header.seen fits.seen)

seen_long_of : (said : Saying) → Fits said → length (numbers_bytes said.header.seen) ≡ 56
seen_long_of said fits = numbers_long said.header.seen ∙ ap (λ n. n * 8) fits.machines

header_is : (said : Saying) → Fits said → header_of (header_bytes said.header) ≡ said.header
unfolding front
header_is said fits =
    let epoch = epoch_of said.header.kept in
    let seen = numbers_bytes said.header.seen in
    header_again said.header.identity (to_be_bytes w64 epoch.number) epoch.image said.header.program (to_be_bytes w64 said.header.store) seen (kind_of said.header.kept) said.header.machine fits.identity refl fits.begins fits.program refl (seen_long_of said fits)
    ∙ ap (λ k. record said.header { kept = k; store = from_be_bytes w64 (to_be_bytes w64 said.header.store); seen = numbers_by 7 seen }) (kept_is said.header.kept fits.number)
    ∙ ap (λ n. record said.header { store = n; seen = numbers_by 7 seen }) (from_be_bytes-to_be_bytes_8 said.header.store fits.store)
    ∙ ap (λ ns. record said.header { seen = ns }) (seen_again said fits)

pub fields_again : (said : Saying) (more : List ℕ) → Fits said → fields_of (spelling said ++ more) ≡ Some said
unfolding front
fields_again said more fits =
    let header = header_bytes said.header in
    let count = to_be_bytes w32 (length said.image) in
    let epoch = epoch_of said.header.kept in
    let long : length header ≡ 180 =
    header_long said.header.identity (to_be_bytes w64 epoch.number) epoch.image said.header.program (to_be_bytes w64 said.header.store) (numbers_bytes said.header.seen) (kind_of said.header.kept) said.header.machine fits.identity refl fits.begins fits.program refl (seen_long_of said fits) in
    ap fields_of (regrouped header count said.image (sha256 (body said)) more)
    ∙ fields_apart header count said.image (sha256 (body said) ++ more) long refl (from_be_bytes-to_be_bytes_4 (length said.image) fits.image)
    ∙ rw (header_is said fits) refl
