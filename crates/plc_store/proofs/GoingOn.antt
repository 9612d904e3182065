-- What is left of a store that goes on.
use Rattle.std.proofs.Common.{◌≡◌, ◌<◌, ℕ, List, Option, Some, Result, Ok, ◌⊎◌, inl, inr, refl}
use Rattle.plc_epochs.specs.GoingOn.{GoesOn}
use Rattle.plc_epochs.specs.declared.kept.Kept.{Kept}
use Rattle.plc_store.specs.Judging.{found_in}
use Rattle.plc_store.specs.Keeping.{HasSeen, IsByHand, IsNext, kept_by_hand, with_image, with_kept, with_seen}
use Rattle.plc_store.specs.declared.keeping.ByHand.{ByHand}
use Rattle.vr_model.specs.Groups.{most_replicas}
use Rattle.plc_store.specs.Spelling.{Saying, spelling}

-- the store before, or the next one
pub next_or_before : (before after : Option (List ℕ)) (found : Saying) (kept : Kept) (drawn : ℕ) → found_in before ≡ Ok found → GoesOn found.header.kept kept
    → (after ≡ before) ⊎ (after ≡ Some (spelling (with_kept found kept drawn)))
    → (after ≡ before) ⊎ ((said : Saying) × IsNext before kept drawn said × (after ≡ Some (spelling said)))
next_or_before before after found kept drawn is on (inl same) = inl same
next_or_before before after found kept drawn is on (inr put) = inr (with_kept found kept drawn, (found, is, on, refl), put)

-- the store before, or that of another epoch
pub by_hand_or_before : (before after image : Option (List ℕ)) (which : ByHand) (found put : Saying) (kept : Kept) (drawn : ℕ) → found_in before ≡ Ok found
    → kept_by_hand found.header (with_image found image).header.program which ≡ Ok kept → put ≡ with_kept (with_image found image) kept drawn
    → (after ≡ before) ⊎ (after ≡ Some (spelling put))
    → (after ≡ before) ⊎ ((said : Saying) × IsByHand before which image drawn said × (after ≡ Some (spelling said)))
by_hand_or_before before after image which found put kept drawn is by same (inl stays) = inl stays
by_hand_or_before before after image which found put kept drawn is by same (inr stands) = inr (put, (found, kept, is, by, same), stands)

-- the store before, or one that has seen another
pub seen_or_before : (before after : Option (List ℕ)) (machine store : ℕ) (found put : Saying) → found_in before ≡ Ok found → machine < most_replicas
    → put ≡ with_seen found machine store → (after ≡ before) ⊎ (after ≡ Some (spelling put))
    → (after ≡ before) ⊎ ((said : Saying) × HasSeen before machine store said × (after ≡ Some (spelling said)))
seen_or_before before after machine store found put is lt same (inl stays) = inl stays
seen_or_before before after machine store found put is lt same (inr stands) = inr (put, (found, is, lt, same), stands)
