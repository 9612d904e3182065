-- What the copies of a group's file on its machines share, and what makes groups one.
use Rattle.std.specs.Prelude.{◌≡◌, length, option_map, string_bytes}
use Rattle.toml.specs.Data.{Members, get_member}
use Rattle.plc_group.specs.declared.group.Group.{Group}
use Rattle.plc_group.specs.declared.key.Key.{Key}
use Rattle.plc_group.specs.declared.key.Key.TheVariants as keys
use Rattle.plc_group.specs.declared.key.Sharing.TheVariants as shared
use Rattle.plc_group.specs.Values.{machines_said, sharing_of, word_of}

-- the tables have the same at a key; of machines as many, wherever each is reached
abbrev pub HaveSame : Members → Members → Key → Type 0
HaveSame s t keys.Machine = option_map length (machines_said s) ≡ option_map length (machines_said t)
HaveSame s t key = get_member (word_of key) s ≡ get_member (word_of key) t

-- the tables have the same wherever it has to stay for as long as the stores do
abbrev pub AgreeForStores : Members → Members → Type 0
AgreeForStores s t = (key : Key) → sharing_of key ≡ shared.Store → HaveSame s t key

-- of one name, one drawn identity, as many machines that may fail, one budget, and as many commands from checkpoint to
-- checkpoint
pub record AreOneGroup (a b : Group) : Type 0 where
  pub name : string_bytes a.name ≡ string_bytes b.name
  pub identity : a.identity ≡ b.identity
  pub f : a.config.f ≡ b.config.f
  pub budget : a.budget.instructions ≡ b.budget.instructions
  pub every : a.config.every ≡ b.config.every
