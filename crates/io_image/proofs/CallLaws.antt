-- Lists of calls of a book.
use Rattle.std.proofs.Common.{◌≡◌, ◌==◌, ◌||◌, ℕ, ◌+◌, ◌<◌, ◌≤◌, List, [], ◌∷◌, ◌++◌, refl, sym, ◌∙◌, ap, ap₂, subst, subst₂, append_assoc, length, length-append, arith, false, All}
use Rattle.std.specs.List.{range_with_len}
use Rattle.std.proofs.lemmas.List.{append-nil}
use Rattle.std.proofs.lemmas.List.Elements.{All-nil, All-cons}
use Rattle.il_model.specs.declared.cells.Cells.{Cells}
use Rattle.io_image.specs.Book.{Book, Change, cells_of, is_full, with_change, sampled, new_book, replayed}
use Rattle.io_image.specs.Calls.{Call, read_gave, sample_gave, wrote, refused, Ran, AreNoSamples, changes_in, tickets_in, Joins, EachSampleHolds}

-- the book in the middle of two lists of calls
pub Ran-split : (b c : Book) (xs ys : List Call) → Ran b (xs ++ ys) c → (m : Book) × Ran b xs m × Ran m ys c
Ran-split b c [] ys h = (b, refl, h)
Ran-split b c (x ∷ xs) ys h = let r = Ran-split h.0 c xs ys h.2 in (r.0, (h.0, h.1, r.1), r.2)

abbrev book_of : Cells → List Change → ℕ → Book
book_of cells changes next = record { sample = cells; changes = changes; next = next }

-- the limits of a book
abbrev Fits : Book → Type 0
Fits b = (length b.changes ≤ 4096) × (b.next ≤ 18446744073709551615)

room : (n next : ℕ) → ((n == 4096) || (next == 18446744073709551615)) ≡ false → n ≤ 4096 → next ≤ 18446744073709551615 → (n < 4096) × (next < 18446744073709551615)
room n next h few low = (grind arith, grind arith)

-- a book that takes a write was within its limits, and is afterwards
fits-with : (b : Book) (change : Change) → Fits b → is_full b ≡ false → Fits (with_change b change) × (b.next < 18446744073709551615)
fits-with b change f h =
    let r = room (length b.changes) b.next h f.0 f.1 in
    ((omega (arith, length-append b.changes (change ∷ []), r.0), omega (arith, r.1)), r.1)

abbrev Below : List ℕ → Type 0
Below tickets = All (λ t. t < 18446744073709551615) tickets

-- calls keep the limits, and give no ticket with the greatest number
pub within : (b c : Book) (calls : List Call) → Fits b → Ran b calls c → Fits c × Below (tickets_in calls)
within b c [] f h = (subst Fits (sym h) f, All-nil (λ t. t < 18446744073709551615))
within b c (read_gave cells ∷ calls) f h = within b c calls f (subst (λ (m : Book). Ran m calls c) h.1.0 h.2)
within b c (refused ∷ calls) f h = within b c calls f (subst (λ (m : Book). Ran m calls c) h.1 h.2)
within b c (sample_gave cells next ∷ calls) f h =
    let none : length (sampled b).changes ≤ 4096 = omega arith in
    within (sampled b) c calls (none, f.1) (subst (λ (m : Book). Ran m calls c) h.1.0 h.2)
within b c (wrote change ticket ∷ calls) f h =
    let w = fits-with b change f h.1.2 in
    let r = within (with_change b change) c calls w.0 (subst (λ (m : Book). Ran m calls c) h.1.0 h.2) in
    (r.0, All-cons (λ t. t < 18446744073709551615) ticket (tickets_in calls) (subst (λ (t : ℕ). t < 18446744073709551615) (sym h.1.1) w.1) r.1)

abbrev Later : Book → List Call → Book → Type 0
Later b calls c = (c ≡ record { sample = b.sample; changes = b.changes ++ changes_in calls; next = b.next + length (changes_in calls) })
    × (tickets_in calls ≡ range_with_len b.next (length (changes_in calls)))

-- what calls without a sample leave
pub later : (b c : Book) (calls : List Call) → AreNoSamples calls → Ran b calls c → Later b calls c
later b c [] none h =
    let n : b.next ≡ b.next + length (changes_in []) = omega arith in
    (h ∙ ap₂ (book_of b.sample) (sym (append-nil b.changes)) n, refl)
later b c (read_gave cells ∷ calls) none h = later b c calls none (subst (λ (m : Book). Ran m calls c) h.1.0 h.2)
later b c (refused ∷ calls) none h = later b c calls none (subst (λ (m : Book). Ran m calls c) h.1 h.2)
later b c (sample_gave cells next ∷ calls) none h = absurd none
later b c (wrote change ticket ∷ calls) none h =
    let r = later (with_change b change) c calls none (subst (λ (m : Book). Ran m calls c) h.1.0 h.2) in
    let n : (b.next + 1) + length (changes_in calls) ≡ b.next + length (change ∷ changes_in calls) = omega arith in
    (r.0 ∙ ap₂ (book_of b.sample) (append_assoc b.changes (change ∷ []) (changes_in calls)) n, ap₂ (λ (x : ℕ) (xs : List ℕ). x ∷ xs) h.1.1 r.1)

-- the cells after calls without a sample on a book with no write
pub shows : (b c : Book) (calls : List Call) → b.changes ≡ [] → AreNoSamples calls → Ran b calls c → cells_of c ≡ replayed b.sample (changes_in calls)
shows b c calls empty none h =
    let l = later b c calls none h in
    ap (λ (d : Book). cells_of d) l.0 ∙ ap (λ (xs : List Change). replayed b.sample (xs ++ changes_in calls)) empty

pub joins : (b c : Book) (calls more : List Call) (cells : Cells) (next : ℕ) → b.changes ≡ [] → Fits b → AreNoSamples calls
    → Ran b (calls ++ sample_gave cells next ∷ more) c → Joins b.sample b.next calls cells next
joins b c calls more cells next empty f none h =
    let s = Ran-split b c calls (sample_gave cells next ∷ more) h in
    let l = later b s.0 calls none s.1 in
    let w = within b s.0 calls f s.1 in
    let all : length s.0.changes ≡ length (changes_in calls) =
    ap (λ (d : Book). length d.changes) l.0 ∙ ap (λ (xs : List Change). length (xs ++ changes_in calls)) empty in
    record {
      shown = s.2.1.1 ∙ shows b s.0 calls empty none s.1;
      tickets = l.1;
      next_is = s.2.1.2 ∙ ap (λ (d : Book). d.next) l.0;
      few = omega (arith, all, w.0.0);
    }

pub reads : (b c : Book) (calls more : List Call) (cells : Cells) → b.changes ≡ [] → AreNoSamples calls
    → Ran b (calls ++ read_gave cells ∷ more) c → cells ≡ replayed b.sample (changes_in calls)
reads b c calls more cells empty none h =
    let s = Ran-split b c calls (read_gave cells ∷ more) h in
    s.2.1.1 ∙ shows b s.0 calls empty none s.1

fits-new : Fits new_book
fits-new = (omega arith, omega arith)

-- just after a sample: a book whose sample and next number are what it gave, with no write
after_sample : (b : Book) (before more : List Call) (cells : Cells) (next : ℕ) → Ran new_book (before ++ sample_gave cells next ∷ more) b
    → (m : Book) × (m.sample ≡ cells) × (m.next ≡ next) × (m.changes ≡ []) × Fits m × Ran m more b
after_sample b before more cells next h =
    let s = Ran-split new_book b before (sample_gave cells next ∷ more) h in
    let m = s.2.0 in
    let did = s.2.1 in
    let w = within new_book s.0 before fits-new s.1 in
    let none : length (sampled s.0).changes ≤ 4096 = omega arith in
    let fits : Fits m = subst Fits (sym did.0) (none, w.0.1) in
    (m, ap (λ (d : Book). d.sample) did.0 ∙ sym did.1, ap (λ (d : Book). d.next) did.0 ∙ sym did.2, ap (λ (d : Book). d.changes) did.0, fits, s.2.2)

pub each_sample : EachSampleHolds
each_sample = record {
  first = λ b calls more cells next none h. joins new_book b calls more cells next refl fits-new none h;
  further = λ b before calls more cells cells' next next' none h.
      let s = after_sample b before (calls ++ sample_gave cells' next' ∷ more) cells next h in
      subst₂ (λ (x : Cells) (n : ℕ). Joins x n calls cells' next') s.1 s.2 (joins s.0 b calls more cells' next' s.3 s.4 none s.5);
  first_read = λ b calls more cells none h. reads new_book b calls more cells refl none h;
  further_read = λ b before calls more cells cells' next none h.
      let s = after_sample b before (calls ++ read_gave cells' ∷ more) cells next h in
      subst (λ (x : Cells). cells' ≡ replayed x (changes_in calls)) s.1 (reads s.0 b calls more cells' s.3 none s.5);
  tickets = λ b calls h. (within new_book b calls fits-new h).1;
}
