-- One more content joins those that a file in memory has had.
use Rattle.std.proofs.Common.{◌≡◌, ◌⊎◌, inl, inr, ⊎_elim, ℕ, zero, suc, ◌≤◌, List, [], ◌∷◌, ◌++◌, length, Option, Result, Ok, Err, OnOk, OnErr, ap, refl, sym, ◌∙◌, subst, arith, length-append}
use Rattle.std.specs.Prelude.{drop}
use Rattle.std.specs.declared.alloc.Global.{Global}
use Rattle.std.specs.declared.vec.Vec.{Vec}
use Rattle.io_shelf.specs.Shelves.{Content, content_of, Elapses}
use Rattle.io_shelf.specs.Past.{HadBeen}

abbrev Contents : Type 0
Contents = List (Option (Vec ℕ Global))

keeps : (past : Contents) (v : Option (Vec ℕ Global)) (c : Content) → HadBeen past c → HadBeen (past ++ v ∷ []) c
keeps [] v c had = absurd had
keeps (p ∷ past) v c (inl here) = inl here
keeps (p ∷ past) v c (inr there) = inr (keeps past v c there)

adds : (past : Contents) (v : Option (Vec ℕ Global)) (c : Content) → HadBeen (past ++ v ∷ []) c → HadBeen past c ⊎ (c ≡ content_of v)
adds [] v c (inl here) = inr here
adds [] v c (inr none) = absurd none
adds (p ∷ past) v c (inl here) = inl (inl here)
adds (p ∷ past) v c (inr there) = ⊎_elim (λ had. inl (inr had)) (λ new. inr new) (adds past v c there)

newest : (past : Contents) (v : Option (Vec ℕ Global)) (c : Content) → c ≡ content_of v → HadBeen (past ++ v ∷ []) c
newest [] v c is = inl is
newest (p ∷ past) v c is = inr (newest past v c is)

drop_push : (t : ℕ) (past : Contents) (v : Option (Vec ℕ Global)) → t ≤ length past → drop t (past ++ v ∷ []) ≡ drop t past ++ v ∷ []
drop_push zero past v le = refl
drop_push (suc t) [] v le = absurd (omega arith)
drop_push (suc t) (p ∷ past) v le = drop_push t past v (omega arith)

-- what a kill since t might have left
abbrev Since : Contents → Content → ℕ → Content → Type 0
Since past now t c = (c ≡ now) ⊎ HadBeen (drop t past) c

pub elapses_same : (past later : Contents) (old new : Content) → later ≡ past → new ≡ old → Elapses (length past) (length later) (Since past old) (Since later new) (λ c. c ≡ new)
elapses_same past later old new same is = record {
  later = let long : length later ≡ length past = (λ i. length (same i)) in omega (arith, long);
  nothing_else = λ t c le left. inl (to t c left);
  keeps = λ t c le left. from t c left;
}
  where
    to : (t : ℕ) (c : Content) → Since later new t c → Since past old t c
    to t c left = subst (λ (l : Contents). Since l old t c) same (subst (λ (o : Content). Since later o t c) is left)

    from : (t : ℕ) (c : Content) → Since past old t c → Since later new t c
    from t c left = subst (λ (o : Content). Since later o t c) (sym is) (subst (λ (l : Contents). Since l old t c) (sym same) left)

elapses_push : (past : Contents) (v : Option (Vec ℕ Global)) (old new : Content) → content_of v ≡ old → Elapses (length past) (length (past ++ v ∷ [])) (Since past old) (Since (past ++ v ∷ []) new) (λ c. c ≡ new)
elapses_push past v old new is = record {
  later = omega (arith, length-append past (v ∷ []));
  nothing_else = λ t c le left. ⊎_elim (λ now. inr now) (λ had. inl (was t c (adds (drop t past) v c (subst (λ (l : Contents). HadBeen l c) (drop_push t past v le) had)))) left;
  keeps = λ t c le left. inr (subst (λ (l : Contents). HadBeen l c) (sym (drop_push t past v le)) (⊎_elim (λ now. newest (drop t past) v c (now ∙ sym is)) (keeps (drop t past) v c) left));
}
  where
    was : (t : ℕ) (c : Content) → HadBeen (drop t past) c ⊎ (c ≡ content_of v) → Since past old t c
    was t c (inl had) = inr had
    was t c (inr new) = inl (new ∙ is)

pub elapses_to : (past later : Contents) (v : Option (Vec ℕ Global)) (old new : Content) → content_of v ≡ old → later ≡ past ++ v ∷ [] → Elapses (length past) (length later) (Since past old) (Since later new) (λ c. c ≡ new)
elapses_to past later v old new is same =
    subst (λ (l : Contents). Elapses (length past) (length l) (Since past old) (Since l new) (λ c. c ≡ new)) (sym same) (elapses_push past v old new is)

-- a change was made, or failed
pub elapses_change : {T E : Type 0} (result : Result T E) (past later : Contents) (had has : Option (Vec ℕ Global)) → OnOk result ((v : Option (Vec ℕ Global)) × (content_of v ≡ content_of had) × (later ≡ past ++ v ∷ []))
    → OnErr result (later ≡ past) → OnErr result (has ≡ had) → Elapses (length past) (length later) (Since past (content_of had)) (Since later (content_of has)) (λ c. c ≡ content_of has)
elapses_change (Ok x) past later had has pushed same is = elapses_to past later pushed.0 (content_of had) (content_of has) pushed.1 pushed.2
elapses_change (Err e) past later had has pushed same is = elapses_same past later (content_of had) (content_of has) same (ap content_of is)
