-- Which command is the first one.
use Rattle.std.proofs.Common.{◌≡◌, Bool, true, false, List, Option, Some, None, inl, inr, sym, subst, ◌⊎◌, IsTrue, ◌↔◌, MatchOption}
use Rattle.std.proofs.lemmas.Bool.{false≢true}
use Rattle.il_model.specs.declared.command.Command.{Command}
use Rattle.plc_restarts.specs.declared.outage.Clocks.{Clocks}
use Rattle.plc_restarts.specs.declared.outage.LastScan.{LastScan}
use Rattle.plc_restarts.specs.declared.outage.LastScan.TheVariants.{NoScan}
use Rattle.plc_restarts.specs.declared.restart.Restart.{Restart}
use Rattle.plc_restarts.specs.declared.restart.Restart.TheVariants.{Hot}
use Rattle.plc_restarts.specs.declared.restart.Restarts.{Restarts}
use Rattle.plc_restarts.specs.Outages.{GoesOn, IsFirst, IsRestarted, IsYoung, Makes}

is_not : (b : Bool) (P : Type 0) → IsTrue b ↔ P → b ≡ false → P → ⊥
is_not true P iff off p = absurd (false≢true (sym off))
is_not false P iff off p = absurd (false≢true (iff.1 p))

pub first_of : (r : Restarts) (last : LastScan) (now : Clocks) (behind : List Command) (none young again : Bool) (first : Option Command) → IsTrue none ↔ (last ≡ NoScan) → none ≡ false → IsTrue young ↔ IsYoung r.hot_within last now → young ≡ false → IsTrue again ↔ IsRestarted r.kind behind → again ≡ false
    → MatchOption first (r.kind ≡ Hot) (λ command. Makes r.kind command) → IsFirst r last now behind first
first_of r last now behind none young again None is_none not_none is_young not_young is_again not_again hot = inr (inl hot)
first_of r last now behind none young again (Some c) is_none not_none is_young not_young is_again not_again makes = (goes, makes)
  where
    goes : GoesOn r last now behind → ⊥
    goes (inl e) = is_not none (last ≡ NoScan) is_none not_none e
    goes (inr (inl e)) = subst (λ (k : Restart). Makes k c) e makes
    goes (inr (inr (inl y))) = is_not young (IsYoung r.hot_within last now) is_young not_young y
    goes (inr (inr (inr a))) = is_not again (IsRestarted r.kind behind) is_again not_again a
