-- Each place has the value that was read for it.
use Rattle.std.proofs.Common.{◌≡◌, ℕ, zero, suc, ◌+◌, ◌-◌, ◌≤◌, Bool, true, false, List, [], ◌∷◌, refl, ◌∙◌, ap, arith, get_or, length}
use Rattle.std.specs.Prelude.{ℤ, pos, ◌&&◌, ◌||◌, ◌==◌, nat_le, nat_lt, if◌then◌else◌, Some, None, is_some, slice_get}
use Rattle.std.specs.List.{splice, list_all}
use Rattle.std.proofs.lemmas.Grind.{common_steps}
use Rattle.std.proofs.lemmas.Bool.Decides.{nat_tests}
use Rattle.std.proofs.lemmas.Option.{same_Some}
use Rattle.il_model.specs.declared.limits.TheConstants.{BITS, WORDS}
use Rattle.il_model.specs.declared.cells.Cells.{Cells}
use Rattle.io_image.specs.Book.{bits_at, words_at}
use Rattle.modbus_wire.specs.declared.reply.Reply.{Reply}
use Rattle.modbus_wire.specs.declared.reply.Reply.TheVariants as replies
use Rattle.field_map.specs.declared.places.Kind.{Kind}
use Rattle.field_map.specs.declared.places.Kind.TheVariants.{Bits, Words}
use Rattle.field_map.specs.declared.reading.Reading.{Reading}
use Rattle.field_map.specs.Areas.{area_length, is_one_kind}
use Rattle.field_map.specs.Asking.{shown_at, shown_by, after_some}
use Rattle.field_map.specs.Filled.{is_in, is_in_any, are_all_apart, are_apart}
use Rattle.field_map.specs.Field.{places_read}
use Rattle.field_map.specs.Carried.{Cell, bit, word, cell_at, IsWhole, gathered_of, value_shown, value_read, AreShown}
use Rattle.field_map.specs.Layouts.{arranged_reply}
use Rattle.field_map.specs.Carried.{IsEachGathered}
use Rattle.field_map.proofs.ApartLaws.{and_first, and_second, none_of_others}
use Rattle.field_map.proofs.PlaceLaws.{laid_before, laid_within, laid_behind, if_ap}

-- one cell of a list that lies over another
spliced_at : {A : Type 0} (xs ys : List A) (a m n : ℕ) (d : A) (b c : Bool) → length ys ≡ m → a + m ≤ length xs
    → nat_le a n ≡ b → nat_lt n (a + m) ≡ c
    → get_or (splice xs a (a + length ys) ys) n d ≡ (if b && c then get_or ys (n - a) d else get_or xs n d)
spliced_at xs ys a m n d false c e h p q = laid_before xs ys a (a + length ys) n d (omega arith) (grind (arith, nat_tests))
spliced_at xs ys a m n d true true e h p q =
    laid_within xs ys a (a + length ys) n d (omega arith) (grind (arith, nat_tests)) (grind (arith, nat_tests))
spliced_at xs ys a m n d true false e h p q =
    let ge : a + m ≤ n = grind (arith, nat_tests) in
    laid_behind xs ys a (a + length ys) n d (omega arith) refl (omega arith)

length-spliced : {A : Type 0} (xs ys : List A) (a m : ℕ) → length ys ≡ m → a + m ≤ length xs
    → length (splice xs a (a + length ys) ys) ≡ length xs
length-spliced xs ys a m e h = grind (arith, common_steps)

-- bits that a reply shows, if they are as many as were asked for
shown_bits : (b : Bool) (a m : ℕ) (bits : List Bool) (c : Cells) (n : ℕ) → (length bits == m) ≡ b → a + m ≤ BITS
    → IsWhole c → is_some (if b then Some (bits_at a bits) else None) ≡ true
    → cell_at (after_some c (if b then Some (bits_at a bits) else None)) Bits n
    ≡ (if nat_le a n && nat_lt n (a + m) then bit (get_or bits (n - a) false) else bit (get_or c.bits n false))
shown_bits false a m bits c n q h w e = absurd cc
shown_bits true a m bits c n q h w e =
    let same : length bits ≡ m = grind (arith, nat_tests) in
    ap bit (spliced_at c.bits bits a m n false (nat_le a n) (nat_lt n (a + m)) same (omega (arith, h, w.0)) refl refl)
    ∙ if_ap bit (nat_le a n && nat_lt n (a + m)) (get_or bits (n - a) false) (get_or c.bits n false)

shown_words : (b : Bool) (a m : ℕ) (words : List ℤ) (c : Cells) (n : ℕ) → (length words == m) ≡ b → a + m ≤ WORDS
    → IsWhole c → is_some (if b then Some (words_at a words) else None) ≡ true
    → cell_at (after_some c (if b then Some (words_at a words) else None)) Words n
    ≡ (if nat_le a n && nat_lt n (a + m) then word (get_or words (n - a) (pos 0)) else word (get_or c.words n (pos 0)))
shown_words false a m words c n q h w e = absurd cc
shown_words true a m words c n q h w e =
    let same : length words ≡ m = grind (arith, nat_tests) in
    ap word (spliced_at c.words words a m n (pos 0) (nat_le a n) (nat_lt n (a + m)) same (omega (arith, h, w.1)) refl refl)
    ∙ if_ap word (nat_le a n && nat_lt n (a + m)) (get_or words (n - a) (pos 0)) (get_or c.words n (pos 0))

bits_leave_words : (b : Bool) (a : ℕ) (bits : List Bool) (c : Cells) (n : ℕ)
    → cell_at (after_some c (if b then Some (bits_at a bits) else None)) Words n ≡ cell_at c Words n
bits_leave_words true a bits c n = refl
bits_leave_words false a bits c n = refl

words_leave_bits : (b : Bool) (a : ℕ) (words : List ℤ) (c : Cells) (n : ℕ)
    → cell_at (after_some c (if b then Some (words_at a words) else None)) Bits n ≡ cell_at c Bits n
words_leave_bits true a words c n = refl
words_leave_bits false a words c n = refl

-- what a reply shows, cell by cell
shown_in : (p : Kind) (a m : ℕ) (reply : Reply) (c : Cells) (kind : Kind) (n : ℕ) → a + m ≤ area_length p → IsWhole c
    → is_some (shown_at p a m reply) ≡ true → cell_at (after_some c (shown_at p a m reply)) kind n
    ≡ (if is_one_kind p kind && (nat_le a n && nat_lt n (a + m)) then value_shown reply (n - a) else cell_at c kind n)
shown_in Bits a m (replies.Bits bits) c Bits n h w e = shown_bits (length bits == m) a m bits c n refl h w e
shown_in Bits a m (replies.Bits bits) c Words n h w e = bits_leave_words (length bits == m) a bits c n
shown_in Words a m (replies.Words words) c Words n h w e = shown_words (length words.items == m) a m words.items c n refl h w e
shown_in Words a m (replies.Words words) c Bits n h w e = words_leave_bits (length words.items == m) a words.items c n
shown_in Bits a m (replies.Words words) c kind n h w e = absurd cc
shown_in Bits a m replies.Done c kind n h w e = absurd cc
shown_in Bits a m (replies.Failed number) c kind n h w e = absurd cc
shown_in Words a m (replies.Bits bits) c kind n h w e = absurd cc
shown_in Words a m replies.Done c kind n h w e = absurd cc
shown_in Words a m (replies.Failed number) c kind n h w e = absurd cc

bits_whole : (b : Bool) (a m : ℕ) (bits : List Bool) (c : Cells) → (length bits == m) ≡ b → a + m ≤ BITS → IsWhole c
    → IsWhole (after_some c (if b then Some (bits_at a bits) else None))
bits_whole false a m bits c q h w = w
bits_whole true a m bits c q h w =
    let same : length bits ≡ m = grind (arith, nat_tests) in
    (length-spliced c.bits bits a m same (omega (arith, h, w.0)) ∙ w.0, w.1)

words_whole : (b : Bool) (a m : ℕ) (words : List ℤ) (c : Cells) → (length words == m) ≡ b → a + m ≤ WORDS → IsWhole c
    → IsWhole (after_some c (if b then Some (words_at a words) else None))
words_whole false a m words c q h w = w
words_whole true a m words c q h w =
    let same : length words ≡ m = grind (arith, nat_tests) in
    (w.0, length-spliced c.words words a m same (omega (arith, h, w.1)) ∙ w.1)

shown_whole : (p : Kind) (a m : ℕ) (reply : Reply) (c : Cells) → a + m ≤ area_length p → IsWhole c
    → IsWhole (after_some c (shown_at p a m reply))
shown_whole Bits a m (replies.Bits bits) c h w = bits_whole (length bits == m) a m bits c refl h w
shown_whole Words a m (replies.Words words) c h w = words_whole (length words.items == m) a m words.items c refl h w
shown_whole Bits a m (replies.Words words) c h w = w
shown_whole Bits a m replies.Done c h w = w
shown_whole Bits a m (replies.Failed number) c h w = w
shown_whole Words a m (replies.Bits bits) c h w = w
shown_whole Words a m replies.Done c h w = w
shown_whole Words a m (replies.Failed number) c h w = w

reading_shows : (r : Reading) (reply : Reply) (c : Cells) (kind : Kind) (n : ℕ) → IsWhole c
    → is_some (shown_by r reply) ≡ true → cell_at (after_some c (shown_by r reply)) kind n
    ≡ (if is_in r.places kind n then value_read r reply n else cell_at c kind n)
reading_shows r reply c kind n w e =
    shown_in r.places.kind r.places.from r.places.count (arranged_reply r.layout reply) c kind n r.places.inside w e

pub reading_whole : (r : Reading) (reply : Reply) (c : Cells) → IsWhole c → IsWhole (after_some c (shown_by r reply))
reading_whole r reply c w =
    shown_whole r.places.kind r.places.from r.places.count (arranged_reply r.layout reply) c r.places.inside w

or_first : (a b : Bool) → (a || b) ≡ false → a ≡ false
or_first true b e = absurd cc
or_first false b e = refl

or_second : (a b : Bool) → (a || b) ≡ false → b ≡ false
or_second true b e = absurd cc
or_second false b e = e

pub choose_false : {A : Type 0} (b : Bool) (x y : A) → b ≡ false → (if b then x else y) ≡ y
choose_false true x y e = absurd cc
choose_false false x y e = refl

pub choose_true : {A : Type 0} (b : Bool) (x y : A) → b ≡ true → (if b then x else y) ≡ x
choose_true true x y e = refl
choose_true false x y e = absurd cc

-- what no reading fills stays
others_stay : (rs : List Reading) (ys : List Reply) (c : Cells) (kind : Kind) (n : ℕ) → IsWhole c → AreShown rs ys
    → is_in_any (places_read rs) kind n ≡ false → cell_at (gathered_of rs ys c) kind n ≡ cell_at c kind n
others_stay [] [] c kind n w s e = refl
others_stay [] (y ∷ ys) c kind n w s e = absurd s
others_stay (r ∷ rs) [] c kind n w s e = absurd s
others_stay (r ∷ rs) (y ∷ ys) c kind n w s e =
    others_stay rs ys (after_some c (shown_by r y)) kind n (reading_whole r y c w) s.1
    (or_second (is_in r.places kind n) (is_in_any (places_read rs) kind n) e)
    ∙ (reading_shows r y c kind n w s.0
    ∙ choose_false (is_in r.places kind n) (value_read r y n) (cell_at c kind n)
    (or_first (is_in r.places kind n) (is_in_any (places_read rs) kind n) e))

gathered_each : (rs : List Reading) (ys : List Reply) (c : Cells) (i : ℕ) (r : Reading) (y : Reply) (kind : Kind) (n : ℕ)
    → IsWhole c → are_all_apart (places_read rs) ≡ true → AreShown rs ys → slice_get rs i ≡ Some r
    → slice_get ys i ≡ Some y → is_in r.places kind n ≡ true
    → cell_at (gathered_of rs ys c) kind n ≡ value_read r y n
gathered_each [] [] c i r y kind n w a s e f h = absurd cc
gathered_each [] (z ∷ ys) c i r y kind n w a s e f h = absurd s
gathered_each (q ∷ rs) [] c i r y kind n w a s e f h = absurd s
gathered_each (q ∷ rs) (z ∷ ys) c zero r y kind n w a s e f h =
    let here : q ≡ r = same_Some q r e in
    let its : z ≡ y = same_Some z y f in
    let mine : is_in q.places kind n ≡ true = ap (λ (x : Reading). is_in x.places kind n) here ∙ h in
    others_stay rs ys (after_some c (shown_by q z)) kind n (reading_whole q z c w) s.1
    (none_of_others q.places (places_read rs) kind n
    (and_first (list_all (are_apart q.places) (places_read rs)) (are_all_apart (places_read rs)) a) mine)
    ∙ (reading_shows q z c kind n w s.0
    ∙ (choose_true (is_in q.places kind n) (value_read q z n) (cell_at c kind n) mine
    ∙ (ap (λ (x : Reply). value_read q x n) its
    ∙ ap (λ (x : Reading). value_read x y n) here)))
gathered_each (q ∷ rs) (z ∷ ys) c (suc i) r y kind n w a s e f h =
    gathered_each rs ys (after_some c (shown_by q z)) i r y kind n (reading_whole q z c w)
    (and_second (list_all (are_apart q.places) (places_read rs)) (are_all_apart (places_read rs)) a) s.1 e f h

pub each_gathered : IsEachGathered
each_gathered rs ys c w a s = λ i r y kind n e f h. gathered_each rs ys c i r y kind n w a s e f h
