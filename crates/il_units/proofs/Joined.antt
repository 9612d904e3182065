-- What is put behind the one and then the other is put behind in one.
use Rattle.std.proofs.Common.{◌≡◌, ℕ, List, [], ◌∷◌, ◌++◌, map, refl, sym, ap, ◌∙◌, append_assoc}
use Rattle.std.specs.List.{flat_map}
use Rattle.std.proofs.lemmas.List.{append-nil, map-append}
use Rattle.std.proofs.lemmas.Grind.{flat_map-append}
use Rattle.il_units.specs.declared.word.Entry.{Entry}
use Rattle.il_units.specs.declared.word.Line.{Line}
use Rattle.il_units.specs.declared.expansion.Origin.{Origin}
use Rattle.il_units.specs.Flats.{is_known, with_new, with_shared}
use Rattle.il_units.specs.Expansion.{Piece, Pieces, piece_text, text_of_pieces, origin_of, with_pieces}

-- one declaration more
pub with_shared_more : (known es : List Entry) (e : Entry) → with_shared known (es ++ e ∷ []) ≡ with_new (with_shared known es) e
unfolding with_shared
with_shared_more known [] e = refl
with_shared_more known (x ∷ xs) e = with_shared_more (with_new known x) xs e

abbrev pieces_made : List ℕ → List Origin → Pieces
pieces_made text origins = record { text = text; origins = origins }

pub pieces_joined : (before : Pieces) (ps qs : List Piece) → with_pieces (with_pieces before ps) qs ≡ with_pieces before (ps ++ qs)
pieces_joined before ps qs =
    let t : (before.text ++ text_of_pieces ps) ++ text_of_pieces qs ≡ before.text ++ text_of_pieces (ps ++ qs) = rw (flat_map-append piece_text ps qs) (append_assoc before.text (text_of_pieces ps) (text_of_pieces qs)) in
    let o : (before.origins ++ map origin_of ps) ++ map origin_of qs ≡ before.origins ++ map origin_of (ps ++ qs) = rw (map-append origin_of ps qs) (append_assoc before.origins (map origin_of ps) (map origin_of qs)) in
    rw (t, o) refl

pub pieces_none : (before : Pieces) → with_pieces before [] ≡ before
pieces_none before =
    let t : before.text ++ [] ≡ before.text = append-nil before.text in
    let o : before.origins ++ [] ≡ before.origins = append-nil before.origins in
    rw (t, o) refl

-- what is put behind in three steps
pub in_three : (before x y z : Pieces) (ps qs rs : List Piece) → x ≡ with_pieces before ps → y ≡ with_pieces x qs → z ≡ with_pieces y rs → z ≡ with_pieces before (ps ++ (qs ++ rs))
in_three before x y z ps qs rs p q r =
    let two : y ≡ with_pieces before (ps ++ qs) = q ∙ ap (λ (w : Pieces). with_pieces w qs) p ∙ pieces_joined before ps qs in
    r ∙ ap (λ (w : Pieces). with_pieces w rs) two ∙ pieces_joined before (ps ++ qs) rs ∙ ap (with_pieces before) (append_assoc ps qs rs)

pub three_mapped : {X : Type 0} (f : X → List Piece) (xs ys zs : List X) → flat_map f xs ++ (flat_map f ys ++ flat_map f zs) ≡ flat_map f (xs ++ (ys ++ zs))
three_mapped f xs ys zs = rw (flat_map-append f xs (ys ++ zs), flat_map-append f ys zs) refl
