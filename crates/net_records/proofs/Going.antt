-- What a writer took, over what goes out.
use Rattle.std.proofs.Common.{◌≡◌, ℕ, ◌+◌, ◌<◌, length, take, drop, List, [], ◌∷◌, ◌++◌, Option, Some, None, refl, sym, ap, subst, ◌∙◌, append_assoc, arith}
use Rattle.std.specs.Prelude.{slice_range}
use Rattle.std.proofs.lemmas.List.{append-nil, drop-drop, take-append-drop}
use Rattle.std.proofs.lemmas.Slice.{between_is}
use Rattle.std.specs.Io.KnownBytes.{Appends, Keeps}
use Rattle.std.proofs.KnownBytes.{Appends-kept, Appends-nil, Appends-trans, Keeps-refl, Keeps-trans}
use Rattle.net_records.specs.declared.place.Place.{Place}
use Rattle.net_records.specs.declared.place.Place.TheVariants.{Length, LowByte, Body}
use Rattle.net_records.specs.Records.{record_of, IsBody, bodies_from, place_behind, beat}
use Rattle.net_records.specs.Ends.{Pushes, at_boundary, whole_bodies, taken, or_beat}
use Rattle.net_records.proofs.Bodies.{bodies_append, place_append, bodies_of_record, place_of_record}

pub Keeps-Appends : (a b c : Option (List ℕ)) (bs : List ℕ) → Keeps a b → Appends b c bs → Appends a c bs
Keeps-Appends None b c bs p q = tt
Keeps-Appends (Some x) None c bs p q = absurd p
Keeps-Appends (Some x) (Some y) None bs p q = absurd q
Keeps-Appends (Some x) (Some y) (Some z) bs p q = q ∙ ap (λ (t : List ℕ). t ++ bs) p

pub Keeps-is : (a b : Option (List ℕ)) → b ≡ a → Keeps a b
Keeps-is a b e = subst (λ (x : Option (List ℕ)). Keeps a x) (sym e) (Keeps-refl a)

-- bytes move from what waits to what is held
pub pushed_keeps : (held held' : Option (List ℕ)) (waiting waiting' : List ℕ) → Pushes held held' waiting waiting' → Keeps (taken held waiting) (taken held' waiting')
pushed_keeps None held' waiting waiting' p = tt
pushed_keeps (Some h) None waiting waiting' p = absurd p.went
pushed_keeps (Some h) (Some h') waiting waiting' p =
    let same : h' ++ waiting' ≡ h ++ waiting = ap (λ (t : List ℕ). t ++ waiting') p.went ∙ (append_assoc h p.written waiting' ∙ ap (λ (t : List ℕ). h ++ t) (sym p.rest)) in
    Keeps-is (whole_bodies (h ++ waiting)) (whole_bodies (h' ++ waiting')) (ap whole_bodies same)

-- behind whole records
behind : (place : Place) (bodies body : List ℕ) (place' : Place) (bodies' : List ℕ) → place' ≡ place_behind place (record_of body) → bodies' ≡ bodies ++ bodies_from place (record_of body) → IsBody body → Appends (at_boundary place bodies) (at_boundary place' bodies') body
behind Length bodies body place' bodies' p b lt =
    subst (λ (q : Place). Appends (Some bodies) (at_boundary q bodies') body) (sym (p ∙ place_of_record body lt)) (b ∙ ap (λ (t : List ℕ). bodies ++ t) (bodies_of_record body lt))
behind (LowByte high) bodies body place' bodies' p b lt = tt
behind (Body left) bodies body place' bodies' p b lt = tt

pub record_taken : (held body : List ℕ) → IsBody body → Appends (whole_bodies held) (whole_bodies (held ++ record_of body)) body
record_taken held body lt =
    behind (place_behind Length held) (bodies_from Length held) body (place_behind Length (held ++ record_of body)) (bodies_from Length (held ++ record_of body)) (place_append Length held (record_of body)) (bodies_append Length held (record_of body)) lt

-- the record of a body waits in place of nothing
pub put_taken : (held : Option (List ℕ)) (body : List ℕ) → IsBody body → Appends (taken held []) (taken held (record_of body)) body
put_taken None body lt = tt
put_taken (Some h) body lt = Keeps-Appends (whole_bodies (h ++ [])) (whole_bodies h) (whole_bodies (h ++ record_of body)) body (Keeps-is _ _ (ap whole_bodies (sym (append-nil h)))) (record_taken h body lt)

appends_nothing : (a b : Option (List ℕ)) → Appends a b [] → Keeps a b
appends_nothing None b p = tt
appends_nothing (Some x) None p = absurd p
appends_nothing (Some x) (Some y) p = p ∙ append-nil x

pub beat_keeps : (held : Option (List ℕ)) (waiting : List ℕ) → Keeps (taken held waiting) (taken held (or_beat waiting))
beat_keeps held [] = appends_nothing (taken held []) (taken held beat) (put_taken held [] (omega arith))
beat_keeps held (byte ∷ bytes) = Keeps-refl (taken held (byte ∷ bytes))

-- a beat was put, unless something waited, and what waits was pushed
pub beat_went : (held held' : Option (List ℕ)) (waiting waiting' : List ℕ) → Pushes held held' (or_beat waiting) waiting' → Keeps (taken held waiting) (taken held' waiting')
beat_went held held' waiting waiting' p = Keeps-trans (taken held waiting) (taken held (or_beat waiting)) (taken held' waiting') (beat_keeps held waiting) (pushed_keeps held held' (or_beat waiting) waiting' p)

-- what waited was pushed, and then a record was put and pushed
pub record_went : (held between held' : Option (List ℕ)) (waiting waiting' body : List ℕ) → IsBody body → Pushes held between waiting [] → Pushes between held' (record_of body) waiting' → Appends (taken held waiting) (taken held' waiting') body
record_went held between held' waiting waiting' body lt p q =
    Keeps-Appends (taken held waiting) (taken between []) (taken held' waiting') body (pushed_keeps held between waiting [] p)
    (Appends-kept (taken between []) (taken between (record_of body)) (taken held' waiting') body (put_taken between body lt) (pushed_keeps between held' (record_of body) waiting' q))

-- what waited was pushed, and a record was put that wasn't taken
pub record_stayed : (held between held' : Option (List ℕ)) (waiting : List ℕ) → Pushes held between waiting [] → Keeps between held' → Keeps (taken held waiting) (taken held' [])
record_stayed held between held' waiting p q = Keeps-trans (taken held waiting) (taken between []) (taken held' []) (pushed_keeps held between waiting [] p) (held_kept between held' [] q)
  where
    held_kept : (a b : Option (List ℕ)) (w : List ℕ) → Keeps a b → Keeps (taken a w) (taken b w)
    held_kept None b w k = tt
    held_kept (Some x) None w k = absurd k
    held_kept (Some x) (Some y) w k = Keeps-is (whole_bodies (x ++ w)) (whole_bodies (y ++ w)) (ap (λ (t : List ℕ). whole_bodies (t ++ w)) k)

-- what is left of a part when its front is gone
pub range_rest : (xs : List ℕ) (done count end : ℕ) → slice_range xs (done + count) end ≡ drop count (slice_range xs done end)
range_rest xs done count end = between_is xs (done + count) end ∙ (sym (drop-drop count done (take end xs)) ∙ ap (drop count) (sym (between_is xs done end)))

pub pushes_none : (held : Option (List ℕ)) (waiting : List ℕ) → Pushes held held waiting waiting
pushes_none held waiting = record { written = []; rest = refl; went = Appends-nil held }

pub pushes_more : (held between held' : Option (List ℕ)) (waiting mid waiting' : List ℕ) → Pushes held between waiting mid → Pushes between held' mid waiting' → Pushes held held' waiting waiting'
pushes_more held between held' waiting mid waiting' p q = record {
  written = p.written ++ q.written;
  rest = p.rest ∙ (ap (λ (t : List ℕ). p.written ++ t) q.rest ∙ sym (append_assoc p.written q.written waiting'));
  went = Appends-trans held between held' p.written q.written p.went q.went;
}

-- the front of what waits went
pub front_went : (held held' : Option (List ℕ)) (waiting waiting' : List ℕ) (count : ℕ) → Appends held held' (take count waiting) → waiting' ≡ drop count waiting → Pushes held held' waiting waiting'
front_went held held' waiting waiting' count went rest = record {
  written = take count waiting;
  rest = sym (take-append-drop count waiting) ∙ ap (λ (t : List ℕ). take count waiting ++ t) (sym rest);
  went = went;
}

-- nothing went
pub none_went : (held held' : Option (List ℕ)) (waiting : List ℕ) → Keeps held held' → Pushes held held' waiting waiting
none_went None held' waiting k = record { written = []; rest = refl; went = tt }
none_went (Some x) None waiting k = absurd k
none_went (Some x) (Some y) waiting k = record { written = []; rest = refl; went = k ∙ sym (append-nil x) }

-- the same, where the values have other names
pub beat_from : (first held held' : Option (List ℕ)) (waiting mid waiting' : List ℕ) → held ≡ first → mid ≡ or_beat waiting → Pushes held held' mid waiting' → Keeps (taken first waiting) (taken held' waiting')
beat_from first held held' waiting mid waiting' same is p =
    subst (λ (h : Option (List ℕ)). Keeps (taken h waiting) (taken held' waiting')) same
    (beat_went held held' waiting waiting' (subst (λ (w : List ℕ). Pushes held held' w waiting') is p))

pub put_went : (held held' : Option (List ℕ)) (waiting' body taken_body : List ℕ) → length body < 65536 → taken_body ≡ body → Pushes held held' (record_of body) waiting' → Appends (taken held []) (taken held' waiting') taken_body
put_went held held' waiting' body taken_body lt is p =
    subst (λ (b : List ℕ). Appends (taken held []) (taken held' waiting') b) (sym is)
    (Appends-kept (taken held []) (taken held (record_of body)) (taken held' waiting') body (put_taken held body lt) (pushed_keeps held held' (record_of body) waiting' p))
