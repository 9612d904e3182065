-- Notices of changes, put one behind the other.
use Rattle.std.proofs.Common.{◌≡◌, List, [], ◌∷◌, ◌++◌, refl, subst, sym, ap, ◌∙◌, append_assoc, append-nil, inl, inr}
use Rattle.plc_status.specs.declared.journal.Journal.{Journal}
use Rattle.plc_status.specs.declared.notice.Notice.{Notice}
use Rattle.plc_status.specs.Journal.{AreNoted, IsPut, IsSameJournal, loss, noted}

same_both : (a b c : Journal) → IsSameJournal a b → IsSameJournal b c → IsSameJournal a c
same_both a b c h k = ((k.0.0 ∙ h.0.0, k.0.1 ∙ h.0.1, k.0.2 ∙ h.0.2, k.0.3 ∙ h.0.3), k.1 ∙ h.1)

at_once : (a : Journal) → AreNoted a a
at_once a = record { same = ((refl, refl, refl, refl), refl); notices = []; put = sym (append-nil (noted a)) }

pub none : (old new : Journal) → new ≡ old → AreNoted old new
none old new same = subst (λ (it : Journal). AreNoted old it) (sym same) (at_once old)

pub one : (notice : Notice) (old new : Journal) → IsPut notice old new → AreNoted old new
one notice old new put = elim put.put [
  | inl listed ↦ record {
    same = put.same;
    notices = loss old.lost ++ notice ∷ [];
    put = listed.0;
  }
  | inr lost ↦ record { same = put.same; notices = []; put = lost.1 ∙ sym (append-nil (noted old)) }
]

pub both : (a b c : Journal) → AreNoted a b → AreNoted b c → AreNoted a c
both a b c before after = record {
  same = same_both a b c before.same after.same;
  notices = before.notices ++ after.notices;
  put = after.put ∙ ap (λ (it : List Notice). it ++ after.notices) before.put ∙ append_assoc (noted a) before.notices after.notices;
}
