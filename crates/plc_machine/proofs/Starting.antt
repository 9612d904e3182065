-- What is formatted for a machine starts as a new one.
use Rattle.std.proofs.Common.{◌≡◌, ◌<◌, ◌^◌, ℕ, true, false, List, [], length, Ok, Some, refl, ap, ◌∙◌, arith}
use Rattle.std.specs.Prelude.{bytes_eq, nat_le}
use Rattle.std.proofs.lemmas.Bool.{lt-leb}
use Rattle.std.proofs.lemmas.List.Elements.{All-replicate}
use Rattle.std.proofs.lemmas.Slice.Eq.{bytes_eq-Decides}
use Rattle.sha2.proofs.Facts256.{length-sha256}
use Rattle.vr_model.specs.Groups.{group_size, most_replicas}
use Rattle.net_hello.specs.Identity.{encoded}
use Rattle.plc_group.specs.declared.group.Group.{Group}
use Rattle.plc_epochs.specs.declared.kept.Kept.{Kept}
use Rattle.plc_epochs.specs.declared.kept.Kept.TheVariants as keeps
use Rattle.plc_store.specs.Judging.{by_kept, found_by, judged, judged_store}
use Rattle.plc_store.specs.Spelling.{Fits, spelling}
use Rattle.plc_store.specs.declared.judging.Start.TheVariants.{First, Waits}
use Rattle.plc_store.proofs.Readings.{read_again}
use Rattle.plc_machine.specs.Making.{first_epoch, new_saying, saying_of, terms_of, waiting_saying, wanted_by}

module _ (group : Group) (machine : ℕ) (image : List ℕ) (store : ℕ) (short : length image < 2 ^ 32) (fits : store < 2 ^ 64) where
  new_fits : Fits (new_saying group machine image store)
  new_fits = record {
    identity = length-sha256 (encoded (terms_of group));
    number = omega arith;
    begins = length-sha256 image;
    program = length-sha256 image;
    store = fits;
    machines = refl;
    seen = All-replicate (λ n. n < 2 ^ 64) most_replicas 0 (omega arith);
    image = short;
  }

  waiting_fits : Fits (waiting_saying group machine image store)
  waiting_fits = record {
    identity = length-sha256 (encoded (terms_of group));
    number = omega arith;
    begins = refl;
    program = length-sha256 image;
    store = fits;
    machines = refl;
    seen = All-replicate (λ n. n < 2 ^ 64) most_replicas 0 (omega arith);
    image = short;
  }

-- what is of this group is judged by what it has of epochs
judged_by : (group : Group) (machine store : ℕ) (kept : Kept) (image : List ℕ) → machine < group_size group.config.f → Fits (saying_of group machine store kept image)
    → judged (Some (spelling (saying_of group machine store kept image))) [] (wanted_by group) ≡ by_kept kept machine []
judged_by group machine store kept image member fits =
    let said = saying_of group machine store kept image in
    let wanted = wanted_by group in
    let same : bytes_eq said.header.identity wanted.identity ≡ true = (bytes_eq-Decides said.header.identity said.header.identity).1 refl in
    let is_member : nat_le wanted.machines machine ≡ false = lt-leb (group_size group.config.f) machine member in
    ap (λ r. judged_store (found_by r) [] wanted) (read_again said fits) ∙ rw (same, is_member) refl

pub starts : (group : Group) (machine : ℕ) (image : List ℕ) (store : ℕ) → machine < group_size group.config.f → length image < 2 ^ 32 → store < 2 ^ 64
    → judged (Some (spelling (new_saying group machine image store))) [] (wanted_by group) ≡ Ok First
starts group machine image store member short fits =
    judged_by group machine store (keeps.Entered (first_epoch image)) image member (new_fits group machine image store short fits)

pub waits : (group : Group) (machine : ℕ) (image : List ℕ) (store : ℕ) → machine < group_size group.config.f → length image < 2 ^ 32 → store < 2 ^ 64
    → judged (Some (spelling (waiting_saying group machine image store))) [] (wanted_by group) ≡ Ok Waits
waits group machine image store member short fits =
    judged_by group machine store keeps.Nothing image member (waiting_fits group machine image store short fits)
