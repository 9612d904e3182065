-- What is read of a prefix of a stream of frames.
use Rattle.std.proofs.Common.{◌≡◌, ℕ, List, [], ◌∷◌, ◌++◌, refl, sym, ap, ap₂, subst, ◌∙◌, append_assoc}
use Rattle.std.specs.List.{flat_map, AllByRecursion}
use Rattle.std.proofs.lemmas.List.Concat.{flat_map-cons}
use Rattle.io_model.specs.Streams.{Format, Ending, Rest, Fault, Ends, IsRest}
use Rattle.io_model.proofs.Streams.{IsReadable}
use Rattle.vr_wire.specs.Streams.{frames, OnlyFramed}
use Rattle.vr_wire.proofs.Pieces.{readable}

module _ {X F : Type 0} (format : Format X F) (can_read : IsReadable format) where
  begins : (given sent : List X) (ending : Ending F) (rest more : List ℕ) → AllByRecursion format.IsFramed given → AllByRecursion format.IsFramed sent → Ends format ending rest
      → flat_map format.frame given ++ (rest ++ more) ≡ flat_map format.frame sent → (later : List X) × (sent ≡ given ++ later) × IsRest ending
  begins [] sent (Rest bytes) rest more all all' e is = (sent, refl, tt)
  begins [] [] (Fault fault) rest more all all' e is =
      absurd (can_read.apart fault [] can_read.nothing (subst (format.IsBroken fault) is (can_read.more fault rest more e)))
  begins [] (y ∷ sent) (Fault fault) rest more all all' e is =
      absurd (can_read.broken fault y (flat_map format.frame sent) all'.0 (subst (format.IsBroken fault) (is ∙ flat_map-cons format.frame y sent) (can_read.more fault rest more e)))
  begins (x ∷ given) [] ending rest more all all' e is =
      let front : format.frame x ++ (flat_map format.frame given ++ (rest ++ more)) ≡ [] = sym (append_assoc (format.frame x) (flat_map format.frame given) (rest ++ more)) ∙ (ap (λ (t : List ℕ). t ++ (rest ++ more)) (sym (flat_map-cons format.frame x given)) ∙ is) in
      absurd (can_read.partial x (flat_map format.frame given ++ (rest ++ more)) all.0 (subst format.IsPartial (sym front) can_read.nothing))
  begins (x ∷ given) (y ∷ sent) ending rest more all all' e is =
      let front : format.frame x ++ (flat_map format.frame given ++ (rest ++ more)) ≡ format.frame y ++ flat_map format.frame sent = sym (append_assoc (format.frame x) (flat_map format.frame given) (rest ++ more)) ∙ (ap (λ (t : List ℕ). t ++ (rest ++ more)) (sym (flat_map-cons format.frame x given)) ∙ (is ∙ flat_map-cons format.frame y sent)) in
      let first = can_read.first x y (flat_map format.frame given ++ (rest ++ more)) (flat_map format.frame sent) all.0 all'.0 front in
      let others = begins given sent ending rest more all.1 all'.1 e first.1 in
      (others.0, ap₂ (λ (z : X) (zs : List X). z ∷ zs) (sym first.0) others.1, others.2)

pub only_framed : OnlyFramed
only_framed stream more sent given ending all is split =
    begins frames readable given sent ending split.rest more split.each all split.ends
    (sym (append_assoc (flat_map frames.frame given) split.rest more) ∙ (ap (λ (t : List ℕ). t ++ more) (sym split.whole) ∙ is))
