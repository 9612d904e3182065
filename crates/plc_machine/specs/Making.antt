-- What the store of a machine begins with, and what a start asks of it.
use Rattle.std.specs.Prelude.{ℕ, List, replicate, string_bytes}
use Rattle.sha2.specs.Sha256.{sha256}
use Rattle.vr_model.specs.Groups.{group_size, most_replicas}
use Rattle.net_hello.specs.Identity.{Terms, identity_of}
use Rattle.net_hello.specs.declared.hello.Epoch.{Epoch}
use Rattle.plc_epochs.specs.declared.kept.Kept.{Kept}
use Rattle.plc_epochs.specs.declared.kept.Kept.TheVariants as keeps
use Rattle.plc_group.specs.declared.group.Group.{Group}
use Rattle.plc_store.specs.Spelling.{Saying}
use Rattle.plc_store.specs.declared.judging.Wanted.{Wanted}

-- what tells a group from another
abbrev pub terms_of : Group → Terms
terms_of group = record {
  name = string_bytes group.name;
  drawn = group.identity;
  f = group.config.f;
  budget = group.budget.instructions;
  every = group.config.every;
}

-- where no store of another machine was seen
abbrev pub nothing_seen : List ℕ
nothing_seen = replicate most_replicas 0

-- of a machine whose store is known by this number, with this of epochs, and this image
abbrev pub saying_of : Group → ℕ → ℕ → Kept → List ℕ → Saying
saying_of group machine store kept image = record {
  header = record {
    identity = identity_of (terms_of group);
    kept = kept;
    program = sha256 image;
    machine = machine;
    store = store;
    seen = nothing_seen;
  };
  image = image;
}

-- the first epoch, which begins with this image
abbrev pub first_epoch : List ℕ → Epoch
first_epoch image = record { number = 1; image = sha256 image }

-- that epoch is entered, and not begun
abbrev pub new_saying : Group → ℕ → List ℕ → ℕ → Saying
new_saying group machine image store = saying_of group machine store (keeps.Entered (first_epoch image)) image

-- no epoch is known: the disk was lost
abbrev pub waiting_saying : Group → ℕ → List ℕ → ℕ → Saying
waiting_saying group machine image store = saying_of group machine store keeps.Nothing image

abbrev pub wanted_by : Group → Wanted
wanted_by group = record { identity = identity_of (terms_of group); machines = group_size group.config.f }
