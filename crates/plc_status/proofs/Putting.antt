-- A notice is put, or there is no room for it.
use Rattle.std.proofs.Common.{◌≡◌, ℕ, zero, suc, ◌+◌, ◌-◌, ◌^◌, ◌<◌, min, List, [], ◌∷◌, ◌++◌, inl, inr, refl, sym, ap, ◌∙◌, append_assoc, append-nil, arith}
use Rattle.rtrb.specs.Ring.{known_free}
use Rattle.plc_status.specs.declared.journal.Journal.{Journal}
use Rattle.plc_status.specs.declared.notice.Notice.{Notice}
use Rattle.plc_status.specs.declared.notice.Notice.TheVariants as notices
use Rattle.plc_status.specs.Journal.{IsPut, IsSameJournal, loss, noted}

pub loss_some : (n : ℕ) → 0 < n → loss n ≡ notices.Lost n ∷ []
loss_some zero h = absurd (omega (arith, h))
loss_some (suc n) h = refl

pub loss_none : (n : ℕ) → n ≡ 0 → loss n ≡ []
loss_none n is = ap loss is

pub nothing : (xs : List Notice) → xs ≡ xs ++ []
nothing xs = sym (append-nil xs)

pub lost : (notice : Notice) (old new : Journal) → IsSameJournal old new → known_free old.producer < 2 → noted new ≡ noted old → new.lost ≡ min (old.lost + 1) (2 ^ 64 - 1) → IsPut notice old new
lost notice old new same full is more = record { same = same; put = inr (full, is, more) }

same_both : (a b c : Journal) → IsSameJournal a b → IsSameJournal b c → IsSameJournal a c
same_both a b c h k = ((k.0.0 ∙ h.0.0, k.0.1 ∙ h.0.1, k.0.2 ∙ h.0.2, k.0.3 ∙ h.0.3), k.1 ∙ h.1)

-- behind what tells how many were lost
pub listed : (notice : Notice) (old looked told new : Journal) → IsSameJournal old looked → IsSameJournal looked told → IsSameJournal told new → noted looked ≡ noted old → looked.lost ≡ old.lost → noted told ≡ noted looked ++ loss looked.lost → noted new ≡ noted told ++ notice ∷ [] → new.lost ≡ 0 → IsPut notice old new
listed notice old looked told new first then_ last is same_lost tells behind none = record {
  same = same_both old told new (same_both old looked told first then_) last;
  put = inl (
    behind
        ∙ ap (λ (xs : List Notice). xs ++ notice ∷ []) (tells ∙ ap (λ (xs : List Notice). xs ++ loss looked.lost) is ∙ ap (λ (n : ℕ). noted old ++ loss n) same_lost)
        ∙ append_assoc (noted old) (loss old.lost) (notice ∷ []),
    none,
  );
}
