-- Streams of frames: their items are the only ones, whatever pieces they come in.
use Rattle.std.proofs.Common.{◌≡◌, ℕ, List, [], ◌∷◌, ◌++◌, refl, sym, ap, ap₂, subst, ◌∙◌, append_assoc}
use Rattle.std.specs.List.{flat_map, AllByRecursion}
use Rattle.std.proofs.lemmas.List.{append-nil}
use Rattle.std.proofs.lemmas.List.Concat.{flat_map-cons}
use Rattle.std.proofs.lemmas.Grind.{flat_map-append}
use Rattle.io_model.specs.Streams.{Format, Ending, Rest, Fault, Ends, Splits, Feeds, FeedsAll, IsOneStream}

-- What makes a format one by which streams are read: no frame begins another, and what begins a stream is a frame, less than one, or broken.
pub record IsReadable {X F : Type 0} (format : Format X F) : Type 0 where
  pub first : (x y : X) (rest other : List ℕ) → format.IsFramed x → format.IsFramed y → format.frame x ++ rest ≡ format.frame y ++ other → (x ≡ y) × (rest ≡ other)
  pub partial : (x : X) (rest : List ℕ) → format.IsFramed x → format.IsPartial (format.frame x ++ rest) → ⊥
  pub broken : (fault : F) (x : X) (rest : List ℕ) → format.IsFramed x → format.IsBroken fault (format.frame x ++ rest) → ⊥
  pub one_fault : (fault other : F) (bytes : List ℕ) → format.IsBroken fault bytes → format.IsBroken other bytes → fault ≡ other
  pub apart : (fault : F) (bytes : List ℕ) → format.IsPartial bytes → format.IsBroken fault bytes → ⊥
  pub more : (fault : F) (bytes rest : List ℕ) → format.IsBroken fault bytes → format.IsBroken fault (bytes ++ rest)
  pub nothing : format.IsPartial []

module _ {X F : Type 0} (format : Format X F) (readable : IsReadable format) where
  -- no ending begins with a frame
  no_frame : (ending : Ending F) (x : X) (rest : List ℕ) → format.IsFramed x → Ends format ending (format.frame x ++ rest) → ⊥
  no_frame (Rest bytes) x rest framed e = readable.partial x rest framed e.1
  no_frame (Fault fault) x rest framed e = readable.broken fault x rest framed e

  same_ending : (ending other : Ending F) (rest : List ℕ) → Ends format ending rest → Ends format other rest → ending ≡ other
  same_ending (Rest bytes) (Rest others) rest e f = ap (λ (b : List ℕ). Rest b) (sym e.0 ∙ f.0)
  same_ending (Rest bytes) (Fault fault) rest e f = absurd (readable.apart fault rest e.1 f)
  same_ending (Fault fault) (Rest bytes) rest e f = absurd (readable.apart fault rest f.1 e)
  same_ending (Fault fault) (Fault other) rest e f = ap (λ (x : F). Fault x) (readable.one_fault fault other rest e f)

  only_by : (items others : List X) (ending other : Ending F) (rest tail : List ℕ) → AllByRecursion format.IsFramed items → AllByRecursion format.IsFramed others → Ends format ending rest → Ends format other tail
      → flat_map format.frame items ++ rest ≡ flat_map format.frame others ++ tail → (items ≡ others) × (ending ≡ other)
  only_by [] [] ending other rest tail all all' e f is = (refl, same_ending ending other rest e (subst (Ends format other) (sym is) f))
  only_by [] (y ∷ others) ending other rest tail all all' e f is =
      let whole : rest ≡ format.frame y ++ (flat_map format.frame others ++ tail) = is ∙ (ap (λ (t : List ℕ). t ++ tail) (flat_map-cons format.frame y others) ∙ append_assoc (format.frame y) (flat_map format.frame others) tail) in
      absurd (no_frame ending y (flat_map format.frame others ++ tail) all'.0 (subst (Ends format ending) whole e))
  only_by (x ∷ items) [] ending other rest tail all all' e f is =
      let whole : tail ≡ format.frame x ++ (flat_map format.frame items ++ rest) = sym is ∙ (ap (λ (t : List ℕ). t ++ rest) (flat_map-cons format.frame x items) ∙ append_assoc (format.frame x) (flat_map format.frame items) rest) in
      absurd (no_frame other x (flat_map format.frame items ++ rest) all.0 (subst (Ends format other) whole f))
  only_by (x ∷ items) (y ∷ others) ending other rest tail all all' e f is =
      let left : flat_map format.frame (x ∷ items) ++ rest ≡ format.frame x ++ (flat_map format.frame items ++ rest) = ap (λ (t : List ℕ). t ++ rest) (flat_map-cons format.frame x items) ∙ append_assoc (format.frame x) (flat_map format.frame items) rest in
      let right : flat_map format.frame (y ∷ others) ++ tail ≡ format.frame y ++ (flat_map format.frame others ++ tail) = ap (λ (t : List ℕ). t ++ tail) (flat_map-cons format.frame y others) ∙ append_assoc (format.frame y) (flat_map format.frame others) tail in
      let first = readable.first x y (flat_map format.frame items ++ rest) (flat_map format.frame others ++ tail) all.0 all'.0 (sym left ∙ (is ∙ right)) in
      let more = only_by items others ending other rest tail all.1 all'.1 e f first.1 in
      (ap₂ (λ (z : X) (zs : List X). z ∷ zs) first.0 more.0, more.1)

  pub only : (stream : List ℕ) (items others : List X) (ending other : Ending F) → Splits format stream items ending → Splits format stream others other → (items ≡ others) × (ending ≡ other)
  only stream items others ending other s t = only_by items others ending other s.rest t.rest s.each t.each s.ends t.ends (sym s.whole ∙ t.whole)

  both_all : (xs ys : List X) → AllByRecursion format.IsFramed xs → AllByRecursion format.IsFramed ys → AllByRecursion format.IsFramed (xs ++ ys)
  both_all [] ys all all' = all'
  both_all (x ∷ xs) ys all all' = (all.0, both_all xs ys all.1 all')

  -- a stream, and one piece more
  pub goes_on : (stream piece : List ℕ) (items more : List X) (before after : Ending F) → Splits format stream items before → Feeds format before piece more after → Splits format (stream ++ piece) (items ++ more) after
  goes_on stream piece items more (Rest bytes) after s t =
      let held : s.rest ≡ bytes = s.ends.0 in
      let whole : stream ++ piece ≡ flat_map format.frame items ++ (bytes ++ piece) = ap (λ (x : List ℕ). x ++ piece) (s.whole ∙ ap (λ (x : List ℕ). flat_map format.frame items ++ x) held) ∙ append_assoc (flat_map format.frame items) bytes piece in
      let both : flat_map format.frame items ++ (bytes ++ piece) ≡ flat_map format.frame (items ++ more) ++ t.rest = ap (λ (x : List ℕ). flat_map format.frame items ++ x) t.whole ∙ (sym (append_assoc (flat_map format.frame items) (flat_map format.frame more) t.rest) ∙ ap (λ (x : List ℕ). x ++ t.rest) (sym (flat_map-append format.frame items more))) in
      record { rest = t.rest; whole = whole ∙ both; each = both_all items more s.each t.each; ends = t.ends }
  goes_on stream piece items more (Fault fault) after s t =
      let whole : stream ++ piece ≡ flat_map format.frame items ++ (s.rest ++ piece) = ap (λ (x : List ℕ). x ++ piece) s.whole ∙ append_assoc (flat_map format.frame items) s.rest piece in
      let split : Splits format (stream ++ piece) items (Fault fault) = record { rest = s.rest ++ piece; whole = whole; each = s.each; ends = readable.more fault s.rest piece s.ends } in
      let none : items ++ more ≡ items = ap (λ (xs : List X). items ++ xs) t.0 ∙ append-nil items in
      subst (λ (xs : List X). Splits format (stream ++ piece) xs after) (sym none) (subst (λ (e : Ending F). Splits format (stream ++ piece) items e) (sym t.1) split)

  run : (pieces : List (List ℕ)) (stream : List ℕ) (items more : List X) (before after : Ending F) → Splits format stream items before → FeedsAll format before pieces more after → Splits format (stream ++ flat_map (λ piece. piece) pieces) (items ++ more) after
  run [] stream items more before after s t =
      let none : items ++ more ≡ items = ap (λ (xs : List X). items ++ xs) t.0 ∙ append-nil items in
      subst (λ (x : List ℕ). Splits format x (items ++ more) after) (sym (append-nil stream)) (subst (λ (xs : List X). Splits format stream xs after) (sym none) (subst (λ (e : Ending F). Splits format stream items e) (sym t.1) s))
  run (piece ∷ pieces) stream items more before after s t =
      let one = goes_on stream piece items t.0 before t.2 s t.3 in
      let all = run pieces (stream ++ piece) (items ++ t.0) t.1 t.2 after one t.4 in
      let bytes : (stream ++ piece) ++ flat_map (λ p. p) pieces ≡ stream ++ flat_map (λ p. p) (piece ∷ pieces) = append_assoc stream piece (flat_map (λ p. p) pieces) ∙ ap (λ (x : List ℕ). stream ++ x) (sym (flat_map-cons (λ (p : List ℕ). p) piece pieces)) in
      let same : (items ++ t.0) ++ t.1 ≡ items ++ more = append_assoc items t.0 t.1 ∙ ap (λ (xs : List X). items ++ xs) (sym t.5) in
      subst (λ (x : List ℕ). Splits format x (items ++ more) after) bytes (subst (λ (xs : List X). Splits format ((stream ++ piece) ++ flat_map (λ p. p) pieces) xs after) same all)

  whole : (pieces : List (List ℕ)) (items : List X) (ending : Ending F) → FeedsAll format (Rest []) pieces items ending → Splits format (flat_map (λ piece. piece) pieces) items ending
  whole pieces items ending fed = run pieces [] [] items (Rest []) ending (record { rest = []; whole = refl; each = tt; ends = (refl, readable.nothing) }) fed

  found : (pieces : List (List ℕ)) (items others : List X) (ending : Ending F) → AllByRecursion format.IsFramed items → flat_map (λ piece. piece) pieces ≡ flat_map format.frame items → FeedsAll format (Rest []) pieces others ending → (others ≡ items) × (ending ≡ Rest [])
  found pieces items others ending all is fed =
      let framed : Splits format (flat_map (λ piece. piece) pieces) items (Rest []) = record { rest = []; whole = is ∙ sym (append-nil (flat_map format.frame items)); each = all; ends = (refl, readable.nothing) } in
      only (flat_map (λ piece. piece) pieces) others items ending (Rest []) (whole pieces others ending fed) framed

  alone : (x y : X) (rest : List ℕ) → format.IsFramed x → format.IsFramed y → format.frame y ≡ format.frame x ++ rest → (x ≡ y) × (rest ≡ [])
  alone x y rest framed framed_y is = readable.first x y rest [] framed framed_y (sym is ∙ sym (append-nil (format.frame y)))

  pub one_stream : IsOneStream format
  one_stream = record { whole = whole; only = only; found = found; alone = alone }
